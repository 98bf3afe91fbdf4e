-- The two tests of words are one, and the safe scope of the code is that of the machine.
use Rattle.std.proofs.Common.{◌≡◌, ℕ, suc, ◌+◌, ◌-◌, ◌<◌, Bool, true, false, nat_eq, List, [], ◌∷◌, Option, Some, None, map, refl, sym, ◌∙◌, ap, arith}
use Rattle.std.specs.Prelude.{codes, if◌then◌else◌}
use Rattle.std.specs.List.{position}
use Rattle.std.specs.Str.{bytes_eq}
use Rattle.std.proofs.lemmas.Bool.Decides.{nat_tests, same_from_decides}
use Rattle.std.proofs.lemmas.Grind.{common_steps}
use Rattle.std.proofs.lemmas.Slice.Eq.{bytes_eq-Decides}
use Rattle.ev_base.specs.SafeScope.{primitives}
use Rattle.def_machine.specs.Values.{Words, Value, Null, Flag, Prim}
use Rattle.def_machine.specs.Free.{same_words, entry}
use Rattle.def_machine.specs.Native.{prims_from, safe_value}
use Rattle.ev_prims.specs.Verbs.{picked}

split : (t u : Bool) → elim t [ true ↦ u | false ↦ false ] ≡ true → (t ≡ true) × (u ≡ true)
split true u h = (refl, h)
split false u h = cc

nat_same : (x y : ℕ) → nat_eq x y ≡ true → x ≡ y
nat_same x y h = grind (arith, nat_tests)

nat_self : (x : ℕ) → nat_eq x x ≡ true
nat_self x = grind (arith, nat_tests)

same_true : (a b : Words) → same_words a b ≡ true → b ≡ a
unfolding same_words
same_true [] [] h = refl
same_true [] (y ∷ ys) h = cc
same_true (x ∷ xs) [] h = cc
same_true (x ∷ xs) (y ∷ ys) h =
    let s = split (nat_eq x y) (same_words xs ys) h in
    let e : x ≡ y = nat_same x y s.0 in
    let t : ys ≡ xs = same_true xs ys s.1 in
    cc

same_self : (a : Words) → same_words a a ≡ true
unfolding same_words
same_self [] = refl
same_self (x ∷ xs) = rw (nat_self x, same_words) (same_self xs)

same_of : (a b : Words) → b ≡ a → same_words a b ≡ true
same_of a b e = rw e (same_self a)

pub same_turned : (a b : Words) → same_words a b ≡ bytes_eq b a
same_turned a b = same_from_decides _ _ (same_true a b, same_of a b) (bytes_eq-Decides b a)

pub same_is : (a b : Words) → same_words a b ≡ bytes_eq a b
same_is a b = same_from_decides _ _ ((λ e. sym (same_true a b e)), (λ e. same_of a b (sym e))) (bytes_eq-Decides a b)

-- ---- tables

turned_choice : {A B : Type 0} (f : A → B) (b c : Bool) (a r : A) (q : B) → c ≡ b → f r ≡ q → f (if b then a else r) ≡ elim c [ true ↦ f a | false ↦ q ]
turned_choice f true true a r q e h = refl
turned_choice f false false a r q e h = h
turned_choice f true false a r q e h = absurd (cc)
turned_choice f false true a r q e h = absurd (cc)

-- an entry of the code is that of the machine's table
pub entry_picked : {A B : Type 0} (f : A → B) (es : List (Words × A)) (d : A) (x : Words) → f (picked es d x) ≡ entry (map (λ (e : Words × A). (e.0, f e.1)) es) (f d) x
unfolding entry
entry_picked f [] d x = refl
entry_picked {A = A} f (e ∷ es) d x =
    turned_choice f (bytes_eq x e.0) (same_words e.0 x) e.1 (picked es d x) (entry (map (λ (g : Words × A). (g.0, f g.1)) es) (f d) x) (same_turned e.0 x) (entry_picked f es d x)

-- ---- the safe scope

-- the primitives from a number on
prims : ℕ → List Words → {N : Type 0} → List (Words × Option (Value N))
prims n [] = []
prims n (k ∷ ks) = (k, Some (Prim n)) ∷ prims (suc n) ks

passes : (p : Words → Bool) (k : Words) (ks : List Words) → position p (k ∷ ks) ≡ None → (p k ≡ false) × (position p ks ≡ None)
passes p k ks h = grind (arith, nat_tests, common_steps)

pub entry_is : {A : Type 0} (k : Words) (a : A) (es : List (Words × A)) (d : A) (x : Words) → entry ((k, a) ∷ es) d x ≡ elim (same_words k x) [ true ↦ a | false ↦ entry es d x ]
unfolding entry
entry_is k a es d x = refl

passed_over : {A : Type 0} (b : Bool) (a c : A) → b ≡ false → elim b [ true ↦ a | false ↦ c ] ≡ c
passed_over true a c h = absurd (cc)
passed_over false a c h = refl

no_entry : {N : Type 0} (x : Words) (n : ℕ) (ks : List Words) → position (bytes_eq x) ks ≡ None → entry (prims n ks {N = N}) None x ≡ None
unfolding prims entry
no_entry x n [] h = refl
no_entry {N = N} x n (k ∷ ks) h =
    let s = passes (bytes_eq x) k ks h in
    entry_is k (Some (Prim n)) (prims (suc n) ks {N = N}) None x
    ∙ passed_over (same_words k x) (Some (Prim n)) (entry (prims (suc n) ks {N = N}) None x) (same_turned k x ∙ s.0)
    ∙ no_entry x (suc n) ks s.1

-- the value of a noun by whether it is null, true or false, and else
unfoldable pub chosen : {A : Type 0} → Bool → Bool → Bool → A → A → A → A → A
chosen a b c x y z u = elim a [ true ↦ x | false ↦ elim b [ true ↦ y | false ↦ elim c [ true ↦ z | false ↦ u ] ] ]

pub others : {N : Type 0} → Words → Option (Value N)
others x = entry (prims 0 primitives) None x

pub no_others : {N : Type 0} (x : Words) → position (bytes_eq x) primitives ≡ None → others {N = N} x ≡ None
unfolding others
no_others x h = no_entry x 0 primitives h

safe_chosen : {N : Type 0} (x : Words)
    → safe_value {N = N} x ≡ chosen (same_words (codes "null") x) (same_words (codes "true") x) (same_words (codes "false") x) (Some Null) (Some (Flag true)) (Some (Flag false)) (others x)
unfolding safe_value prims_from entry prims chosen others
safe_chosen x = refl

pub safe_is : {N : Type 0} (x : Words)
    → safe_value {N = N} x ≡ chosen (bytes_eq x (codes "null")) (bytes_eq x (codes "true")) (bytes_eq x (codes "false")) (Some Null) (Some (Flag true)) (Some (Flag false)) (others x)
safe_is x = safe_chosen x ∙ rw (same_turned (codes "null") x, same_turned (codes "true") x, same_turned (codes "false") x) refl

-- ---- the primitives of the safe scope

taken : {A : Type 0} (b : Bool) (a c : A) → b ≡ true → elim b [ true ↦ a | false ↦ c ] ≡ a
taken true a c h = refl
taken false a c h = absurd (cc)

hits : (p : Words → Bool) (k : Words) (ks : List Words) (i : ℕ) → p k ≡ true → position p (k ∷ ks) ≡ Some i → i ≡ 0
hits p k ks i e h = grind (arith, nat_tests, common_steps)

misses : (p : Words → Bool) (k : Words) (ks : List Words) (i : ℕ) → p k ≡ false → position p (k ∷ ks) ≡ Some i → (0 < i) × (position p ks ≡ Some (i - 1))
misses p k ks i e h = grind (arith, nat_tests, common_steps)

first_or_rest : {N : Type 0} (x k : Words) (n : ℕ) (ks : List Words) (i : ℕ) (b : Bool) → bytes_eq x k ≡ b → position (bytes_eq x) (k ∷ ks) ≡ Some i
    → ((j : ℕ) → position (bytes_eq x) ks ≡ Some j → entry (prims (suc n) ks {N = N}) None x ≡ Some (Prim (suc n + j)))
    → entry ((k, Some (Prim n)) ∷ prims (suc n) ks {N = N}) None x ≡ Some (Prim (n + i))
first_or_rest {N = N} x k n ks i true e h more =
    let z = hits (bytes_eq x) k ks i e h in
    let g : n ≡ n + i = omega arith in
    entry_is k (Some (Prim n)) (prims (suc n) ks {N = N}) None x
    ∙ taken (same_words k x) (Some (Prim n)) (entry (prims (suc n) ks {N = N}) None x) (same_turned k x ∙ e)
    ∙ ap (λ (m : ℕ). Some (Prim m)) g
first_or_rest {N = N} x k n ks i false e h more =
    let s = misses (bytes_eq x) k ks i e h in
    let p : 0 < i = s.0 in
    let g : suc n + (i - 1) ≡ n + i = omega arith in
    entry_is k (Some (Prim n)) (prims (suc n) ks {N = N}) None x
    ∙ passed_over (same_words k x) (Some (Prim n)) (entry (prims (suc n) ks {N = N}) None x) (same_turned k x ∙ e)
    ∙ more (i - 1) s.1 ∙ ap (λ (m : ℕ). Some (Prim m)) g

some_entry : {N : Type 0} (x : Words) (n : ℕ) (ks : List Words) (i : ℕ) → position (bytes_eq x) ks ≡ Some i → entry (prims n ks {N = N}) None x ≡ Some (Prim (n + i))
unfolding prims
some_entry x n [] i h = absurd (cc)
some_entry x n (k ∷ ks) i h = first_or_rest x k n ks i (bytes_eq x k) refl h (λ j g. some_entry x (suc n) ks j g)

pub some_others : {N : Type 0} (x : Words) (n : ℕ) → position (bytes_eq x) primitives ≡ Some n → others {N = N} x ≡ Some (Prim n)
unfolding others
some_others x n h = let g : 0 + n ≡ n = omega arith in some_entry x 0 primitives n h ∙ ap (λ (m : ℕ). Some (Prim m)) g
