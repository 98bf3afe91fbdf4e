-- What the logs of links tell, and what is on links, as they change.
use Rattle.std.proofs.Common.{◌≡◌, ℕ, Bool, true, false, List, [], ◌∷◌, ◌++◌, Some, refl, sym, ap, ◌∙◌, subst, inl, inr, ◌==◌}
use Rattle.std.proofs.lemmas.Bool.{eqb-true}
use Rattle.def_machine.specs.Values.{Name}
use Rattle.def_machine.specs.State.{Note, Open, Put}
use Rattle.def_run.specs.World as world
use Rattle.def_run.specs.World.{Link}
use Rattle.law_uses.specs.Connectivity.Known.{IsAmong, AllOf}
use Rattle.law_uses.proofs.Connectivity.Knowing.{among_more}
use Rattle.law_fate.proofs.Fates.RunCounts.{pick}
use Rattle.law_uses.proofs.Connectivity.Singles.{among_last}

-- a link that stays between its vats, and whose log keeps what it has
abbrev pub IsKept : Link → Link → Type 0
IsKept l k = (k.from ≡ l.from) × (k.to ≡ l.to) × ((n : Note Name) → IsAmong n l.log → IsAmong n k.log)

same_ends : (v w a b c d : ℕ) → c ≡ a → d ≡ b → pick (a == v) (b == w) false ≡ pick (c == v) (d == w) false
same_ends v w a b c d e f = ap (λ x. pick (x == v) (b == w) false) (sym e) ∙ ap (λ y. pick (c == v) (y == w) false) (sym f)

same_link : (v w : ℕ) (l k : Link) → IsKept l k → world.is_link v w l ≡ world.is_link v w k
unfolding world.is_link
same_link v w l k h = same_ends v w l.from l.to k.from k.to h.0 h.1

from_of : (b c : Bool) → pick b c false ≡ true → b ≡ true
from_of true c e = refl
from_of false c e = e

pub link_from : (v w : ℕ) (l : Link) → world.is_link v w l ≡ true → l.from ≡ v
unfolding world.is_link
link_from v w l e = eqb-true l.from v (from_of (l.from == v) (l.to == w) e)

-- the link there is one that was there
abbrev WasThere : ℕ → ℕ → List Link → Link → Type 0
WasThere v w ls k = (l : Link) × (world.link_at v w ls ≡ Some l) × ((n : Note Name) → IsAmong n l.log → IsAmong n k.log)

some_link : (l k : Link) → Some l ≡ Some k → l ≡ k
some_link l k e = cc

was_there : (f : Link → Link) → ((l : Link) → IsKept l (f l)) → (a b v w : ℕ) (ls : List Link) (k : Link) → world.link_at v w (world.with_link f a b ls) ≡ Some k → WasThere v w ls k
unfolding world.link_at world.with_link
was_there f g a b v w [] k e = cc
was_there f g a b v w (l ∷ ls) k e = either (world.is_link a b l) (was_there f g a b v w ls k) e
  where
    here : (c d : Bool) → c ≡ d → pick d (Some (f l)) (world.link_at v w ls) ≡ Some k → (m : Link) × (pick c (Some l) (world.link_at v w ls) ≡ Some m) × ((n : Note Name) → IsAmong n m.log → IsAmong n k.log)
    here true true i j = (l, refl, subst (λ z. (n : Note Name) → IsAmong n l.log → IsAmong n z.log) (some_link (f l) k j) (g l).2)
    here false false i j = (k, j, λ n h. h)
    here true false i j = cc
    here false true i j = cc

    there : (c : Bool) → (world.link_at v w (world.with_link f a b ls) ≡ Some k → WasThere v w ls k) → pick c (Some l) (world.link_at v w (world.with_link f a b ls)) ≡ Some k
        → (m : Link) × (pick c (Some l) (world.link_at v w ls) ≡ Some m) × ((n : Note Name) → IsAmong n m.log → IsAmong n k.log)
    there true r j = (k, j, λ n h. h)
    there false r j = r j

    either : (c : Bool) → (world.link_at v w (world.with_link f a b ls) ≡ Some k → WasThere v w ls k) → world.link_at v w (pick c (f l ∷ ls) (l ∷ world.with_link f a b ls)) ≡ Some k → WasThere v w (l ∷ ls) k
    either true r j = here (world.is_link v w l) (world.is_link v w (f l)) (same_link v w l (f l) (g l)) j
    either false r j = there (world.is_link v w l) r j

abbrev pub OpenedIn : List Link → ℕ → ℕ → ℕ → Name → Type 0
OpenedIn ls v h i n = (l : Link) → world.link_at v h ls ≡ Some l → IsAmong (Open i n) l.log

pub opened_with : (f : Link → Link) → ((l : Link) → IsKept l (f l)) → (a b : ℕ) (ls : List Link) (v h i : ℕ) (n : Name) → OpenedIn ls v h i n → OpenedIn (world.with_link f a b ls) v h i n
opened_with f g a b ls v h i n o k e = let w = was_there f g a b v h ls k e in w.2 (Open i n) (o w.0 w.1)

pub pushed_kept : (n : Note Name) (l : Link) → IsKept l (world.pushed n l)
unfolding world.pushed
pushed_kept n l = either l.cut
  where
    either : (b : Bool) → IsKept l (pick b (record l { log = l.log ++ n ∷ [] }) (record l { notes = l.notes ++ n ∷ []; log = l.log ++ n ∷ [] }))
    either true = (refl, refl, λ m h. among_more m l.log (n ∷ []) h)
    either false = (refl, refl, λ m h. among_more m l.log (n ∷ []) h)

pushed_has : (n : Note Name) (l : Link) → IsAmong n (world.pushed n l).log
unfolding world.pushed
pushed_has n l = either l.cut
  where
    either : (b : Bool) → IsAmong n (pick b (record l { log = l.log ++ n ∷ [] }) (record l { notes = l.notes ++ n ∷ []; log = l.log ++ n ∷ [] })).log
    either true = among_last l.log n
    either false = among_last l.log n

pushed_there : (n : Note Name) (v w : ℕ) (ls : List Link) (k : Link) → world.link_at v w (world.with_link (world.pushed n) v w ls) ≡ Some k → IsAmong n k.log
unfolding world.link_at world.with_link
pushed_there n v w [] k e = cc
pushed_there n v w (l ∷ ls) k e = either (world.is_link v w l) refl (pushed_there n v w ls k) e
  where
    here : (d : Bool) → true ≡ d → pick d (Some (world.pushed n l)) (world.link_at v w ls) ≡ Some k → IsAmong n k.log
    here true i j = subst (λ z. IsAmong n z.log) (some_link (world.pushed n l) k j) (pushed_has n l)
    here false i j = cc

    there : (c : Bool) → c ≡ false → (world.link_at v w (world.with_link (world.pushed n) v w ls) ≡ Some k → IsAmong n k.log) → pick c (Some l) (world.link_at v w (world.with_link (world.pushed n) v w ls)) ≡ Some k → IsAmong n k.log
    there true i r j = cc
    there false i r j = r j

    either : (c : Bool) → world.is_link v w l ≡ c → (world.link_at v w (world.with_link (world.pushed n) v w ls) ≡ Some k → IsAmong n k.log) → world.link_at v w (pick c (world.pushed n l ∷ ls) (l ∷ world.with_link (world.pushed n) v w ls)) ≡ Some k → IsAmong n k.log
    either true i r j = here (world.is_link v w (world.pushed n l)) (sym i ∙ same_link v w l (world.pushed n l) (pushed_kept n l)) j
    either false i r j = there (world.is_link v w l) i r j

pub push_opened : (u : ℕ) (ps : List (Put Name)) (ls : List Link) (v h i : ℕ) (n : Name) → OpenedIn ls v h i n → OpenedIn (world.push_all u ps ls) v h i n
unfolding world.push_all
push_opened u [] ls v h i n o = o
push_opened u (p ∷ ps) ls v h i n o = push_opened u ps (world.with_link (world.pushed p.note) u p.to ls) v h i n (opened_with (world.pushed p.note) (pushed_kept p.note) u p.to ls v h i n o)

first_put : (v h i : ℕ) (n : Name) (p : Put Name) (ls : List Link) → ◌≡◌ {A = Put Name} (record { to = h; note = Open i n }) p → OpenedIn (world.with_link (world.pushed p.note) v p.to ls) v h i n
first_put v h i n p ls e = subst (λ (q : Put Name). OpenedIn (world.with_link (world.pushed q.note) v q.to ls) v h i n) e (λ k j. pushed_there (Open i n) v h ls k j)

pub push_puts : (v : ℕ) (ps : List (Put Name)) (ls : List Link) (h i : ℕ) (n : Name) → IsAmong (record { to = h; note = Open i n }) ps → OpenedIn (world.push_all v ps ls) v h i n
unfolding world.push_all
push_puts v [] ls h i n m = absurd m
push_puts v (p ∷ ps) ls h i n (inl e) = push_opened v ps (world.with_link (world.pushed p.note) v p.to ls) v h i n (first_put v h i n p ls e)
push_puts v (p ∷ ps) ls h i n (inr m) = push_puts v ps (world.with_link (world.pushed p.note) v p.to ls) h i n m

-- ---- what holds of each link

pub with_link_all : (P : Link → Type 0) (f : Link → Link) (a b : ℕ) (ls : List Link) → ((l : Link) → world.is_link a b l ≡ true → P l → P (f l)) → AllOf P ls → AllOf P (world.with_link f a b ls)
unfolding world.with_link
with_link_all P f a b [] g h = tt
with_link_all P f a b (l ∷ ls) g h = either (world.is_link a b l) refl (with_link_all P f a b ls g h.1)
  where
    either : (c : Bool) → world.is_link a b l ≡ c → AllOf P (world.with_link f a b ls) → AllOf P (pick c (f l ∷ ls) (l ∷ world.with_link f a b ls))
    either true e i = (g l e h.0, h.1)
    either false e i = (h.0, i)

pub found_link : (P : Link → Type 0) (v w : ℕ) (ls : List Link) (k : Link) → world.link_at v w ls ≡ Some k → AllOf P ls → P k × (k.from ≡ v)
unfolding world.link_at
found_link P v w [] k e h = cc
found_link P v w (l ∷ ls) k e h = either (world.is_link v w l) refl (λ j. found_link P v w ls k j h.1) e
  where
    either : (b : Bool) → world.is_link v w l ≡ b → (world.link_at v w ls ≡ Some k → P k × (k.from ≡ v)) → pick b (Some l) (world.link_at v w ls) ≡ Some k → P k × (k.from ≡ v)
    either true i r j = subst (λ z. P z × (z.from ≡ v)) (some_link l k j) (h.0, link_from v w l i)
    either false i r j = r j
