-- How many notes open a gift, or ask its provider to, as links change.
use Rattle.std.proofs.Common.{◌≡◌, ℕ, ◌+◌, ◌≤◌, Bool, true, false, List, [], ◌∷◌, ◌++◌, Some, refl, sym, ap, subst, arith}
use Rattle.def_machine.specs.Values.{Name}
use Rattle.def_machine.specs.State.{Note, Open, Shorten, Put}
use Rattle.def_run.specs.World as world
use Rattle.def_run.specs.World.{Link}
use Rattle.law_order.proofs.Ordering.Sends.{pushed_shut, pushed_open}
use Rattle.law_order.specs.Cuts.Letting.{lets_go, once}
use Rattle.law_order.specs.Cuts.Opening.{opens, asks_to_open, opens_in, asks_in, opens_put, asks_under_way}
use Rattle.law_order.proofs.Cuts.Counts.{sum_of, changed_sum, taken_sum, letting_put, Quiet}

-- what lets a gift go does one of the two
pub one_of_both : (i : ℕ) (n : Note Name) → once (lets_go i n) ≡ once (opens i n) + once (asks_to_open i n)
unfolding lets_go opens asks_to_open once
one_of_both i (Open j n) = omega arith
one_of_both i (Shorten n c j) = omega arith
one_of_both i other = refl

more_opens : (i : ℕ) (ns : List (Note Name)) (n : Note Name) → opens_in i (ns ++ n ∷ []) ≡ opens_in i ns + once (opens i n)
unfolding opens_in
more_opens i [] n = omega arith
more_opens i (m ∷ ns) n = let rest = more_opens i ns n in omega arith

more_asks : (i : ℕ) (ns : List (Note Name)) (n : Note Name) → asks_in i (ns ++ n ∷ []) ≡ asks_in i ns + once (asks_to_open i n)
unfolding asks_in
more_asks i [] n = omega arith
more_asks i (m ∷ ns) n = let rest = more_asks i ns n in omega arith

-- how many that open it were put on a link, and how many are under way there that ask for it
abbrev Weight : ℕ → Link → ℕ
Weight i l = opens_in i l.log + asks_in i l.notes

abbrev pub opening : ℕ → List Link → ℕ
opening i ls = sum_of (λ l. Weight i l) ls

pub opening_is : (i : ℕ) (ls : List Link) → opening i ls ≡ opens_put i ls + asks_under_way i ls
unfolding sum_of opens_put asks_under_way
opening_is i [] = refl
opening_is i (l ∷ ls) = let rest = opening_is i ls in omega arith

pushed_weight : (i : ℕ) (n : Note Name) (l : Link) (b : Bool) → l.cut ≡ b → Weight i (world.pushed n l) ≤ Weight i l + once (lets_go i n)
pushed_weight i n l true e = subst (λ (k : Link). Weight i k ≤ Weight i l + once (lets_go i n)) (sym (pushed_shut n l e)) (let more = more_opens i l.log n in let both = one_of_both i n in omega arith)
pushed_weight i n l false e = subst (λ (k : Link). Weight i k ≤ Weight i l + once (lets_go i n)) (sym (pushed_open n l e)) (let more = more_opens i l.log n in let asks = more_asks i l.notes n in let both = one_of_both i n in omega arith)

pub pushes_open : (i v : ℕ) (ps : List (Put Name)) (ls : List Link) → opening i (world.push_all v ps ls) ≤ opening i ls + letting_put i ps
unfolding world.push_all letting_put
pushes_open i v [] ls = omega arith
pushes_open i v (p ∷ ps) ls =
    let rest = pushes_open i v ps (world.with_link (world.pushed p.note) v p.to ls) in
    let here = changed_sum (λ l. Weight i l) (world.pushed p.note) (once (lets_go i p.note)) v p.to ls (λ l. pushed_weight i p.note l l.cut refl) in omega arith

pub severed_open : (i a b : ℕ) (ls : List Link) → opening i (world.with_link world.severed_link a b ls) ≤ opening i ls
unfolding world.severed_link asks_in
severed_open i a b ls = let most = changed_sum (λ l. Weight i l) world.severed_link 0 a b ls less in omega arith
  where
    less : (l : Link) → Weight i (world.severed_link l) ≤ Weight i l + 0
    less l = omega arith

-- the first note is taken
pub taken_open : (i a b : ℕ) (ls : List Link) (l : Link) (n : Note Name) (ns : List (Note Name)) → world.link_at a b ls ≡ Some l → l.notes ≡ n ∷ ns → opening i (world.with_link (world.with_notes ns) a b ls) + once (asks_to_open i n) ≤ opening i ls
unfolding world.with_notes asks_in
taken_open i a b ls l n ns e f = taken_sum (λ k. Weight i k) (world.with_notes ns) (once (asks_to_open i n)) a b ls l e (let all : asks_in i l.notes ≡ once (asks_to_open i n) + asks_in i ns = ap (λ ms. asks_in i ms) f in omega arith)

-- nothing was put on these links
pub quiet_open : (i : ℕ) (ls : List Link) → Quiet ls → opening i ls ≤ 0
unfolding sum_of opens_in asks_in
quiet_open i [] h = omega arith
quiet_open i (l ∷ ls) h = let rest = quiet_open i ls h.2 in let here : asks_in i l.notes ≡ 0 = ap (λ ns. asks_in i ns) h.0 in let there : opens_in i l.log ≡ 0 = ap (λ ns. opens_in i ns) h.1 in omega arith
