-- From each vat of a script there is a link to each other one.
use Rattle.std.proofs.Common.{◌≡◌, ℕ, ◌≤◌, ◌<◌, zero, suc, ◌+◌, Bool, true, false, List, [], ◌∷◌, ◌++◌, Option, Some, refl, sym, ap, ◌∙◌, subst, length, ◌==◌, arith}
use Rattle.std.proofs.lemmas.Bool.{eqb-true, eq-eqb}
use Rattle.def_run.specs.World as world
use Rattle.def_run.specs.World.{Script, Program, Link}
use Rattle.law_fate.specs.Name.Names.{AllOf}
use Rattle.law_fate.proofs.Name.Facts.{all_append}
use Rattle.law_frame.proofs.Frame.LinksKnown.{at_link}
use Rattle.law_frame.proofs.Frame.LinksGo.{IsThere, Paired}

true_false : (b : Bool) → b ≡ true → b ≡ false → ⊥
true_false b e f = cc

on_bool : {C : Type 0} (b : Bool) → (b ≡ true → C) → (b ≡ false → C) → C
on_bool true f g = f refl
on_bool false f g = g refl

step_up : (u b : ℕ) → u ≤ b → (u ≡ b → ⊥) → suc u ≤ b
step_up zero zero h f = absurd (f refl)
step_up zero (suc b) h f = omega arith
step_up (suc u) zero h f = absurd (omega arith)
step_up (suc u) (suc b) h f = let r = step_up u b (omega arith) (λ e. f (ap suc e)) in omega arith

-- the link from v to u at the start
abbrev First : ℕ → ℕ → Program → Link
First v u p = record { from = v; to = u; cut = false; notes = []; roots = world.roots_for v p; log = [] }

-- it is from a vat to another one
abbrev IsPair : ℕ → Link → Type 0
IsPair most l = ((l.from == l.to) ≡ false) × (l.from < most) × (l.to < most)

pair_head : (most : ℕ) (b : Bool) (v u : ℕ) (p : Program) (ls : List Link) → (v == u) ≡ b → v < most → u < most → AllOf (IsPair most) ls → AllOf (IsPair most) (elim b [ true ↦ ls | false ↦ First v u p ∷ ls ])
pair_head most true v u p ls e a b h = h
pair_head most false v u p ls e a b h = ((e, a, b), h)

to_pairs : (most v u : ℕ) (ps : List Program) → v < most → u + length ps ≤ most → AllOf (IsPair most) (world.links_to v u ps)
unfolding world.links_to
to_pairs most v u [] a b = tt
to_pairs most v u (p ∷ ps) a b = pair_head most (v == u) v u p (world.links_to v (suc u) ps) refl a (omega arith) (to_pairs most v (suc u) ps a (omega arith))

from_pairs : (most v : ℕ) (all ps : List Program) → length all ≤ most → v + length ps ≤ most → AllOf (IsPair most) (world.links_from all v ps)
unfolding world.links_from
from_pairs most v all [] a b = tt
from_pairs most v all (p ∷ ps) a b = all_append (IsPair most) (world.links_to v zero all) (world.links_from all (suc v) ps) (to_pairs most v zero all (omega arith) (omega arith)) (from_pairs most (suc v) all ps a (omega arith))

found_true : (c : Bool) (l : Link) (o : Option Link) → c ≡ true → ◌≡◌ {A = Option Link} (elim c [ true ↦ Some l | false ↦ o ]) (Some l)
found_true c l o e = rw e refl

found_false : (c : Bool) (l k : Link) (o : Option Link) → c ≡ false → o ≡ Some k → ◌≡◌ {A = Option Link} (elim c [ true ↦ Some l | false ↦ o ]) (Some k)
found_false c l k o e i = rw e i

there_head : (v b : ℕ) (l : Link) (ls : List Link) → (world.is_link v b l ≡ false → IsThere ls v b) → IsThere (l ∷ ls) v b
unfolding world.link_at
there_head v b l ls f = on_bool (world.is_link v b l) (λ e. (l, found_true (world.is_link v b l) l (world.link_at v b ls) e)) (λ e. let t = f e in (t.0, found_false (world.is_link v b l) l t.0 (world.link_at v b ls) e t.1))

both_ends : (c d : Bool) → c ≡ true → d ≡ true → elim c [ true ↦ d | false ↦ false ] ≡ true
both_ends true d e h = h
both_ends false d e h = cc

is_first : (v u b : ℕ) (p : Program) → (u == b) ≡ true → world.is_link v b (First v u p) ≡ true
unfolding world.is_link
is_first v u b p e = both_ends (v == v) (u == b) (eq-eqb v v refl) e

skip_head : (c : Bool) (v b u : ℕ) (p : Program) (ls : List Link) → (v == u) ≡ c → (v == b) ≡ false → ((u == b) ≡ false → IsThere ls v b) → IsThere (elim c [ true ↦ ls | false ↦ First v u p ∷ ls ]) v b
skip_head true v b u p ls e g f = f (on_bool (u == b) (λ h. absurd (true_false (v == b) (eq-eqb v b (eqb-true v u e ∙ eqb-true u b h)) g)) (λ h. h))
skip_head false v b u p ls e g f = there_head v b (First v u p) ls (λ i. f (on_bool (u == b) (λ h. absurd (true_false (world.is_link v b (First v u p)) (is_first v u b p h) i)) (λ h. h)))

to_there : (v b u : ℕ) (ps : List Program) → (v == b) ≡ false → u ≤ b → b < u + length ps → IsThere (world.links_to v u ps) v b
unfolding world.links_to
to_there v b u [] g h k = absurd (omega arith)
to_there v b u (p ∷ ps) g h k = skip_head (v == u) v b u p (world.links_to v (suc u) ps) refl g (λ d. to_there v b (suc u) ps g (step_up u b h (λ e. true_false (u == b) (eq-eqb u b e) d)) (omega arith))

front_either : (c : Bool) (x : Link) (o p : Option Link) → ((k : Link) × (o ≡ Some k) → (k : Link) × (p ≡ Some k)) → (k : Link) × (◌≡◌ {A = Option Link} (elim c [ true ↦ Some x | false ↦ o ]) (Some k)) → (k : Link) × (◌≡◌ {A = Option Link} (elim c [ true ↦ Some x | false ↦ p ]) (Some k))
front_either true x o p g t = (x, refl)
front_either false x o p g t = g t

back_either : (c : Bool) (x : Link) (p : Option Link) → (k : Link) × (p ≡ Some k) → (k : Link) × (◌≡◌ {A = Option Link} (elim c [ true ↦ Some x | false ↦ p ]) (Some k))
back_either true x p t = (x, refl)
back_either false x p t = t

none_there : (a b : ℕ) → IsThere [] a b → ⊥
unfolding world.link_at
none_there a b t = let e = t.1 in cc

there_front : (a b : ℕ) (xs ys : List Link) → IsThere xs a b → IsThere (xs ++ ys) a b
unfolding world.link_at
there_front a b [] ys t = absurd (none_there a b t)
there_front a b (x ∷ xs) ys t = front_either (world.is_link a b x) x (world.link_at a b xs) (world.link_at a b (xs ++ ys)) (λ s. there_front a b xs ys s) t

there_back : (a b : ℕ) (xs ys : List Link) → IsThere ys a b → IsThere (xs ++ ys) a b
unfolding world.link_at
there_back a b [] ys t = t
there_back a b (x ∷ xs) ys t = back_either (world.is_link a b x) x (world.link_at a b (xs ++ ys)) (there_back a b xs ys t)

pub from_there : (all : List Program) (a b v : ℕ) (ps : List Program) → (a == b) ≡ false → b < length all → v ≤ a → a < v + length ps → IsThere (world.links_from all v ps) a b
unfolding world.links_from
from_there all a b v [] g h k m = absurd (omega arith)
from_there all a b v (p ∷ ps) g h k m = on_bool (v == a)
    (λ e. there_front a b (world.links_to v zero all) (world.links_from all (suc v) ps) (subst (λ (z : ℕ). IsThere (world.links_to z zero all) a b) (sym (eqb-true v a e)) (to_there a b zero all g (omega arith) (omega arith))))
    (λ e. there_back a b (world.links_to v zero all) (world.links_from all (suc v) ps) (from_there all a b (suc v) ps g h (step_up v a k (λ f. true_false (v == a) (eq-eqb v a f) e)) (omega arith)))

pub begins_paired : (script : Script) → Paired (world.begins script).links
unfolding world.begins
begins_paired script a b t = let most : ℕ = length script.vats in let at = at_link (IsPair most) a b t.0 (world.links_from script.vats zero script.vats) (from_pairs most zero script.vats script.vats (omega arith) (omega arith)) t.1 in
    let pair = at.0 in let from : t.0.from ≡ a = at.1 in let to : t.0.to ≡ b = at.2 in
    let other : (b == a) ≡ false = on_bool (b == a) (λ e. absurd (true_false (t.0.from == t.0.to) (eq-eqb t.0.from t.0.to (from ∙ sym (eqb-true b a e) ∙ sym to)) pair.0)) (λ e. e) in
    let low : a < most = subst (λ (z : ℕ). z < most) from pair.1 in let under : b < most = subst (λ (z : ℕ). z < most) to pair.2 in
    from_there script.vats b a zero script.vats other low (omega arith) (omega arith)
