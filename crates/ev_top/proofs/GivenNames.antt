-- The names that a program is given are those that have a value in the safe scope of the machine.
use Rattle.std.proofs.Common.{◌≡◌, ℕ, Bool, true, false, List, [], ◌∷◌, Option, Some, None, refl, ap, ◌∙◌, arith}
use Rattle.std.specs.Prelude.{◌+◌, nat_eq, is_some, codes, ◌||◌}
use Rattle.std.specs.List.{list_any}
use Rattle.std.specs.Str.{bytes_eq}
use Rattle.std.proofs.lemmas.Bool.Decides.{nat_tests, same_from_decides}
use Rattle.std.proofs.lemmas.Slice.Eq.{bytes_eq-Decides}
use Rattle.ev_base.specs.SafeScope.{primitives}
use Rattle.def_machine.specs.Values.{Words, Value, Null, Flag, Prim, Name}
use Rattle.def_machine.specs.Free.{same_words, entry}
use Rattle.def_machine.specs.Native.{prims_from, safe_value}
use Rattle.ev_top.specs.Programs.{safe_names}
use Rattle.ev_top.specs.Given.{AreSafe}

-- ---- the two tests of words are one

split : (t u : Bool) → elim t [ true ↦ u | false ↦ false ] ≡ true → (t ≡ true) × (u ≡ true)
split true u h = (refl, h)
split false u h = cc

nat_same : (x y : ℕ) → nat_eq x y ≡ true → x ≡ y
nat_same x y h = grind (arith, nat_tests)

nat_self : (x : ℕ) → nat_eq x x ≡ true
nat_self x = grind (arith, nat_tests)

same_true : (a b : Words) → same_words a b ≡ true → b ≡ a
unfolding same_words
same_true [] [] h = refl
same_true [] (y ∷ ys) h = cc
same_true (x ∷ xs) [] h = cc
same_true (x ∷ xs) (y ∷ ys) h =
    let s = split (nat_eq x y) (same_words xs ys) h in
    let e : x ≡ y = nat_same x y s.0 in
    let t : ys ≡ xs = same_true xs ys s.1 in
    cc

same_self : (a : Words) → same_words a a ≡ true
unfolding same_words
same_self [] = refl
same_self (x ∷ xs) = rw (nat_self x, same_words) (same_self xs)

same_of : (a b : Words) → b ≡ a → same_words a b ≡ true
same_of a b e = rw e (same_self a)

same_turned : (a b : Words) → same_words a b ≡ bytes_eq b a
same_turned a b = same_from_decides _ _ (same_true a b, same_of a b) (bytes_eq-Decides b a)

-- ---- a table whose entries are all there

present : {A : Type 0} → List (Words × A) → List (Words × Option A)
present [] = []
present (e ∷ es) = (e.0, Some e.1) ∷ present es

keys : {A : Type 0} → List (Words × A) → List Words
keys [] = []
keys (e ∷ es) = e.0 ∷ keys es

either : {A : Type 0} (b : Bool) (a : A) (o : Option A) → is_some (elim b [ true ↦ Some a | false ↦ o ]) ≡ b || is_some o
either true a o = refl
either false a o = refl

found : {A : Type 0} (es : List (Words × A)) (x : Words) → is_some (entry (present es) None x) ≡ list_any (bytes_eq x) (keys es)
unfolding entry present keys
found [] x = refl
found (e ∷ es) x =
    either (same_words e.0 x) e.1 (entry (present es) None x) ∙ ap (λ b. b || is_some (entry (present es) None x)) (same_turned e.0 x)
    ∙ ap (λ b. bytes_eq x e.0 || b) (found es x)

numbered : ℕ → List Words → List (Words × Value Name)
numbered n [] = []
numbered n (k ∷ ks) = (k, Prim n) ∷ numbered (n + 1) ks

table : List (Words × Value Name)
table = (codes "null", Null) ∷ (codes "true", Flag true) ∷ (codes "false", Flag false) ∷ numbered 0 primitives

is_table : (x : Words) → safe_value {N = Name} x ≡ entry (present table) None x
unfolding safe_value prims_from entry present numbered table
is_table x = refl

are_keys : keys table ≡ safe_names
unfolding keys numbered table
are_keys = refl

pub are_safe : AreSafe
are_safe x = ap is_some (is_table x) ∙ found table x ∙ ap (list_any (bytes_eq x)) are_keys
