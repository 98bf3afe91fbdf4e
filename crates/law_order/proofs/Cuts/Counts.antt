-- How many notes let a gift go, as links change.
use Rattle.std.proofs.Common.{◌≡◌, ℕ, zero, suc, ◌+◌, ◌≤◌, Bool, true, false, List, [], ◌∷◌, ◌++◌, Some, refl, sym, ap, subst, ◌∙◌, arith}
use Rattle.std.specs.Prelude.{◌==◌, ◌||◌}
use Rattle.def_machine.specs.Values.{Name}
use Rattle.def_machine.specs.State.{Note, Put}
use Rattle.def_run.specs.World as world
use Rattle.def_run.specs.World.{Program, Link}
use Rattle.law_order.specs.Ordering.Places.{any_note}
use Rattle.law_order.proofs.Ordering.Sends.{pushed_shut, pushed_open, none_some, some_same}
use Rattle.law_order.specs.Cuts.Letting.{lets_go, once, letting_in, letting, IsLogged, AllLogged}

pub counts_one : (b : Bool) → b ≡ true → once b ≡ 1
unfolding once
counts_one true e = refl
counts_one false e = cc

-- ---- lists of notes

pub more_notes : (i : ℕ) (ns : List (Note Name)) (n : Note Name) → letting_in i (ns ++ n ∷ []) ≡ letting_in i ns + once (lets_go i n)
unfolding letting_in
more_notes i [] n = omega arith
more_notes i (m ∷ ns) n = let rest = more_notes i ns n in omega arith

-- how many of those that a vat puts
unfoldable pub letting_put : ℕ → List (Put Name) → ℕ
letting_put i [] = 0
letting_put i (p ∷ ps) = once (lets_go i p.note) + letting_put i ps

pub more_put : (i : ℕ) (ps : List (Put Name)) (p : Put Name) → letting_put i (ps ++ p ∷ []) ≡ letting_put i ps + once (lets_go i p.note)
unfolding letting_put
more_put i [] p = omega arith
more_put i (q ∷ ps) p = let rest = more_put i ps p in omega arith

-- ---- a link is changed

-- what each link weighs, together
unfoldable pub sum_of : (Link → ℕ) → List Link → ℕ
sum_of m [] = 0
sum_of m (l ∷ ls) = m l + sum_of m ls

-- where the change of the link adds that much at most
pub changed_sum : (m : Link → ℕ) (f : Link → Link) (c v h : ℕ) (ls : List Link) → ((l : Link) → m (f l) ≤ m l + c) → sum_of m (world.with_link f v h ls) ≤ sum_of m ls + c
unfolding world.with_link sum_of
changed_sum m f c v h [] g = omega arith
changed_sum m f c v h (l ∷ ls) g = go (changed_sum m f c v h ls g) (world.is_link v h l)
  where
    go : sum_of m (world.with_link f v h ls) ≤ sum_of m ls + c → (b : Bool) → sum_of m (elim b [ true ↦ f l ∷ ls | false ↦ l ∷ world.with_link f v h ls ]) ≤ m l + sum_of m ls + c
    go r true = let here = g l in omega arith
    go r false = omega arith

-- where the change of the link that is found takes that much at least
pub taken_sum : (m : Link → ℕ) (f : Link → Link) (d a b : ℕ) (ls : List Link) (l : Link) → world.link_at a b ls ≡ Some l → m (f l) + d ≤ m l → sum_of m (world.with_link f a b ls) + d ≤ sum_of m ls
unfolding world.with_link world.link_at sum_of
taken_sum m f d a b [] l e g = none_some l e
taken_sum m f d a b (k ∷ ls) l e g = go (λ q. taken_sum m f d a b ls l q g) (world.is_link a b k) e
  where
    here : k ≡ l → m (f k) + d ≤ m k
    here q = subst (λ (j : Link). m (f j) + d ≤ m j) (sym q) g

    go : (world.link_at a b ls ≡ Some l → sum_of m (world.with_link f a b ls) + d ≤ sum_of m ls) → (c : Bool) → elim c [ true ↦ Some k | false ↦ world.link_at a b ls ] ≡ Some l → sum_of m (elim c [ true ↦ f k ∷ ls | false ↦ k ∷ world.with_link f a b ls ]) + d ≤ m k + sum_of m ls
    go r true q = let less = here (some_same k l q) in omega arith
    go r false q = let rest = r q in omega arith

letting_sum : (i : ℕ) (ls : List Link) → letting i ls ≡ sum_of (λ l. letting_in i l.notes) ls
unfolding letting sum_of
letting_sum i [] = refl
letting_sum i (l ∷ ls) = let rest = letting_sum i ls in omega arith

pub changed_most : (f : Link → Link) (i c v h : ℕ) (ls : List Link) → ((l : Link) → letting_in i (f l).notes ≤ letting_in i l.notes + c) → letting i (world.with_link f v h ls) ≤ letting i ls + c
changed_most f i c v h ls g = let all = changed_sum (λ l. letting_in i l.notes) f c v h ls g in let before = letting_sum i ls in let after = letting_sum i (world.with_link f v h ls) in omega arith

pushed_most : (i : ℕ) (n : Note Name) (l : Link) (b : Bool) → l.cut ≡ b → letting_in i (world.pushed n l).notes ≤ letting_in i l.notes + once (lets_go i n)
pushed_most i n l true e = subst (λ (k : Link). letting_in i k.notes ≤ letting_in i l.notes + once (lets_go i n)) (sym (pushed_shut n l e)) (omega arith)
pushed_most i n l false e = subst (λ (k : Link). letting_in i k.notes ≤ letting_in i l.notes + once (lets_go i n)) (sym (pushed_open n l e)) (let more = more_notes i l.notes n in omega arith)

pub pushes_most : (i v : ℕ) (ps : List (Put Name)) (ls : List Link) → letting i (world.push_all v ps ls) ≤ letting i ls + letting_put i ps
unfolding world.push_all letting_put
pushes_most i v [] ls = omega arith
pushes_most i v (p ∷ ps) ls =
    let rest = pushes_most i v ps (world.with_link (world.pushed p.note) v p.to ls) in
    let here = changed_most (world.pushed p.note) i (once (lets_go i p.note)) v p.to ls (λ l. pushed_most i p.note l l.cut refl) in omega arith

pub severed_most : (i a b : ℕ) (ls : List Link) → letting i (world.with_link world.severed_link a b ls) ≤ letting i ls
unfolding world.severed_link letting_in
severed_most i a b ls = let most = changed_most world.severed_link i 0 a b ls none in omega arith
  where
    none : (l : Link) → letting_in i (world.severed_link l).notes ≤ letting_in i l.notes + 0
    none l = omega arith

-- the first note is taken
pub taken_less : (i a b : ℕ) (ls : List Link) (l : Link) (n : Note Name) (ns : List (Note Name)) → world.link_at a b ls ≡ Some l → l.notes ≡ n ∷ ns
    → letting i (world.with_link (world.with_notes ns) a b ls) + once (lets_go i n) ≤ letting i ls
unfolding letting_in world.with_notes
taken_less i a b ls l n ns e f =
    let all : letting_in i l.notes ≡ once (lets_go i n) + letting_in i ns = ap (λ ms. letting_in i ms) f in
    let less = taken_sum (λ k. letting_in i k.notes) (world.with_notes ns) (once (lets_go i n)) a b ls l e (omega arith) in
    let before = letting_sum i ls in let after = letting_sum i (world.with_link (world.with_notes ns) a b ls) in omega arith

-- ---- what was logged

split : (f : Note Name → Bool) (ns : List (Note Name)) (n : Note Name) → any_note f (ns ++ n ∷ []) ≡ (any_note f ns || f n)
unfolding any_note
split f [] n = end (f n)
  where
    end : (b : Bool) → (b || false) ≡ b
    end true = refl
    end false = refl
split f (k ∷ ns) n = ap (λ b. f k || b) (split f ns n) ∙ swap (f k)
  where
    swap : (b : Bool) → (b || (any_note f ns || f n)) ≡ ((b || any_note f ns) || f n)
    swap true = refl
    swap false = refl

or_first : (b c : Bool) → b ≡ true → (b || c) ≡ true
or_first true c e = refl
or_first false c e = cc

or_last : (b c : Bool) → c ≡ true → (b || c) ≡ true
or_last true c e = refl
or_last false c e = e

join : (a b c : Bool) → (a ≡ true → b ≡ true) → (a || c) ≡ true → (b || c) ≡ true
join true b c g e = or_first b c (g refl)
join false b c g e = or_last b c e

logged_open : (n : Note Name) (l : Link) → IsLogged l → IsLogged (record l { notes = l.notes ++ n ∷ []; log = l.log ++ n ∷ [] })
logged_open n l h = λ f e. split f l.log n ∙ join (any_note f l.notes) (any_note f l.log) (f n) (h f) (sym (split f l.notes n) ∙ e)

logged_shut : (n : Note Name) (l : Link) → IsLogged l → IsLogged (record l { log = l.log ++ n ∷ [] })
logged_shut n l h = λ f e. split f l.log n ∙ or_first (any_note f l.log) (f n) (h f e)

pushed_logged : (n : Note Name) (l : Link) (b : Bool) → l.cut ≡ b → IsLogged l → IsLogged (world.pushed n l)
pushed_logged n l true e h = subst (λ (k : Link). IsLogged k) (sym (pushed_shut n l e)) (logged_shut n l h)
pushed_logged n l false e h = subst (λ (k : Link). IsLogged k) (sym (pushed_open n l e)) (logged_open n l h)

-- a change by which what is logged stays so, of the link that is found
changed_logged : (f : Link → Link) (v h : ℕ) (ls : List Link) → ((l : Link) → world.link_at v h ls ≡ Some l → IsLogged l → IsLogged (f l)) → AllLogged ls → AllLogged (world.with_link f v h ls)
unfolding world.with_link world.link_at
changed_logged f v h [] g i = tt
changed_logged f v h (l ∷ ls) g i = go (λ k. changed_logged f v h ls k i.1) (world.is_link v h l) (λ k e j. g k e j)
  where
    go : (((k : Link) → world.link_at v h ls ≡ Some k → IsLogged k → IsLogged (f k)) → AllLogged (world.with_link f v h ls)) → (b : Bool)
        → ((k : Link) → elim b [ true ↦ Some l | false ↦ world.link_at v h ls ] ≡ Some k → IsLogged k → IsLogged (f k)) → AllLogged (elim b [ true ↦ f l ∷ ls | false ↦ l ∷ world.with_link f v h ls ])
    go r true j = (j l refl i.0, i.1)
    go r false j = (i.0, r j)

pub pushes_logged : (v : ℕ) (ps : List (Put Name)) (ls : List Link) → AllLogged ls → AllLogged (world.push_all v ps ls)
unfolding world.push_all
pushes_logged v [] ls h = h
pushes_logged v (p ∷ ps) ls h = pushes_logged v ps (world.with_link (world.pushed p.note) v p.to ls) (changed_logged (world.pushed p.note) v p.to ls (λ l e i. pushed_logged p.note l l.cut refl i) h)

severed_logged : (l : Link) → IsLogged (world.severed_link l)
unfolding world.severed_link any_note
severed_logged l = λ f e. cc

pub cuts_logged : (a b : ℕ) (ls : List Link) → AllLogged ls → AllLogged (world.with_link world.severed_link a b ls)
cuts_logged a b ls h = changed_logged world.severed_link a b ls (λ l e i. severed_logged l) h

rest_logged : (n : Note Name) (ns : List (Note Name)) (l : Link) → l.notes ≡ n ∷ ns → IsLogged l → IsLogged (world.with_notes ns l)
unfolding world.with_notes any_note
rest_logged n ns l e h = λ f i. h f (ap (λ ms. any_note f ms) e ∙ or_last (f n) (any_note f ns) i)

pub taken_logged : (a b : ℕ) (ls : List Link) (l : Link) (n : Note Name) (ns : List (Note Name)) → world.link_at a b ls ≡ Some l → l.notes ≡ n ∷ ns → AllLogged ls → AllLogged (world.with_link (world.with_notes ns) a b ls)
taken_logged a b ls l n ns e f h = changed_logged (world.with_notes ns) a b ls (λ k i j. rest_logged n ns k (ap (λ (z : Link). z.notes) (some_same k l (sym i ∙ e)) ∙ f) j) h

-- ---- the start

-- no note is under way, and none was put
abbrev pub Quiet : List Link → Type 0
Quiet [] = Unit {0}
Quiet (l ∷ ls) = (l.notes ≡ []) × (l.log ≡ []) × Quiet ls

quiet_all : (ls ks : List Link) → Quiet ls → Quiet ks → Quiet (ls ++ ks)
quiet_all [] ks h i = i
quiet_all (l ∷ ls) ks h i = (h.0, h.1, quiet_all ls ks h.2 i)

links_to_quiet : (v h : ℕ) (ps : List Program) → Quiet (world.links_to v h ps)
unfolding world.links_to
links_to_quiet v h [] = tt
links_to_quiet v h (p ∷ ps) = go (v == h) (links_to_quiet v (suc h) ps)
  where
    go : (b : Bool) → Quiet (world.links_to v (suc h) ps) → Quiet (elim b [
      | true ↦ world.links_to v (suc h) ps
      | false ↦ record { from = v; to = h; cut = false; notes = []; roots = world.roots_for v p; log = [] } ∷ world.links_to v (suc h) ps
    ])
    go true i = i
    go false i = (refl, refl, i)

pub links_from_quiet : (all : List Program) (v : ℕ) (ps : List Program) → Quiet (world.links_from all v ps)
unfolding world.links_from
links_from_quiet all v [] = tt
links_from_quiet all v (p ∷ ps) = quiet_all (world.links_to v zero all) (world.links_from all (suc v) ps) (links_to_quiet v zero all) (links_from_quiet all (suc v) ps)

pub quiet_counts : (i : ℕ) (ls : List Link) → Quiet ls → letting i ls ≤ 0
unfolding letting letting_in
quiet_counts i [] h = omega arith
quiet_counts i (l ∷ ls) h = let rest = quiet_counts i ls h.2 in let here : letting_in i l.notes ≡ 0 = ap (λ ns. letting_in i ns) h.0 in omega arith

pub quiet_logged : (ls : List Link) → Quiet ls → AllLogged ls
unfolding any_note
quiet_logged [] h = tt
quiet_logged (l ∷ ls) h = (λ f e. none f (sym (ap (λ ns. any_note f ns) h.0) ∙ e), quiet_logged ls h.2)
  where
    none : (f : Note Name → Bool) → any_note f [] ≡ true → any_note f l.log ≡ true
    none f e = cc
