-- `same_value` tells equality.
use Rattle.std.specs.Prelude.{◌≡◌, ℕ, Bool, true, false, ◌&&◌, ◌==◌, ℤ}
use Rattle.std.proofs.Common.{refl, sym, ap, subst, ◌∙◌}
use Rattle.std.specs.Ordering.{int_eq}
use Rattle.std.specs.Cmp.{IsEquivalence}
use Rattle.std.proofs.lemmas.Cmp.{int_eq_equiv, nat_eq_equiv}
use Rattle.std.proofs.lemmas.Bool.{eqb-true}
use Rattle.std.proofs.lemmas.Bool.Decides.{Decides-int_eq}
use Rattle.ev_base.specs.declared.values.Value.{Value}
use Rattle.ev_base.specs.declared.values.Value.TheVariants.{Null, Bool as Boolean, Int, Char, Text, List, Prim, Obj, Prom, Far, Broken}
use Rattle.ev_tables.specs.Thing.{same_value, is_null, is_boolean, is_integer, is_character, is_text, is_list, is_primitive, is_object, is_promise, is_far, is_broken}

null_is : (v : Value) → is_null v ≡ true → Null ≡ v
null_is Null h = refl
null_is v h = absurd cc

boolean_is : (b : Bool) (v : Value) → is_boolean b v ≡ true → Boolean b ≡ v
boolean_is true (Boolean true) h = refl
boolean_is true (Boolean false) h = absurd cc
boolean_is false (Boolean true) h = absurd cc
boolean_is false (Boolean false) h = refl
boolean_is true v h = absurd cc
boolean_is false v h = absurd cc

character_is : (n : ℕ) (v : Value) → is_character n v ≡ true → Char n ≡ v
character_is n (Char m) h = ap Char (eqb-true n m h)
character_is n v h = absurd cc

text_is : (n : ℕ) (v : Value) → is_text n v ≡ true → Text n ≡ v
text_is n (Text m) h = ap Text (eqb-true n m h)
text_is n v h = absurd cc

list_is : (n : ℕ) (v : Value) → is_list n v ≡ true → List n ≡ v
list_is n (List m) h = ap List (eqb-true n m h)
list_is n v h = absurd cc

primitive_is : (n : ℕ) (v : Value) → is_primitive n v ≡ true → Prim n ≡ v
primitive_is n (Prim m) h = ap Prim (eqb-true n m h)
primitive_is n v h = absurd cc

object_is : (n : ℕ) (v : Value) → is_object n v ≡ true → Obj n ≡ v
object_is n (Obj m) h = ap Obj (eqb-true n m h)
object_is n v h = absurd cc

promise_is : (n : ℕ) (v : Value) → is_promise n v ≡ true → Prom n ≡ v
promise_is n (Prom m) h = ap Prom (eqb-true n m h)
promise_is n v h = absurd cc

broken_is : (n : ℕ) (v : Value) → is_broken n v ≡ true → Broken n ≡ v
broken_is n (Broken m) h = ap Broken (eqb-true n m h)
broken_is n v h = absurd cc

both : (a b : Bool) → (a && b) ≡ true → (a ≡ true) × (b ≡ true)
both true true h = (refl, refl)
both true false h = absurd cc
both false b h = absurd cc

far_is : (host n : ℕ) (v : Value) → is_far host n v ≡ true → Far host n ≡ v
far_is host n (Far other m) h =
    let p = both (host == other) (n == m) h in
    ap (λ (x : ℕ). Far x n) (eqb-true host other p.0) ∙ ap (Far other) (eqb-true n m p.1)
far_is host n v h = absurd cc

int_same : (z w : ℤ) → int_eq z w ≡ true → z ≡ w
int_same z w h = (Decides-int_eq z w).0 h

integer_is : (z : ℤ) (v : Value) → is_integer z v ≡ true → Int z ≡ v
integer_is z (Int w) h = ap Int (int_same z w h)
integer_is z v h = absurd cc

pub same_is : (a b : Value) → same_value a b ≡ true → a ≡ b
unfolding same_value
same_is Null b h = null_is b h
same_is (Boolean c) b h = boolean_is c b h
same_is (Int z) b h = integer_is z b h
same_is (Char n) b h = character_is n b h
same_is (Text n) b h = text_is n b h
same_is (List n) b h = list_is n b h
same_is (Prim n) b h = primitive_is n b h
same_is (Obj n) b h = object_is n b h
same_is (Prom n) b h = promise_is n b h
same_is (Far host n) b h = far_is host n b h
same_is (Broken n) b h = broken_is n b h

pub same_itself : (a : Value) → same_value a a ≡ true
unfolding same_value
same_itself Null = refl
same_itself (Boolean true) = refl
same_itself (Boolean false) = refl
same_itself (Int z) = int_eq_equiv.refl z
same_itself (Char n) = nat_eq_equiv.refl n
same_itself (Text n) = nat_eq_equiv.refl n
same_itself (List n) = nat_eq_equiv.refl n
same_itself (Prim n) = nat_eq_equiv.refl n
same_itself (Obj n) = nat_eq_equiv.refl n
same_itself (Prom n) = nat_eq_equiv.refl n
same_itself (Far host n) = ap (λ (b : Bool). b && (n == n)) (nat_eq_equiv.refl host) ∙ nat_eq_equiv.refl n
same_itself (Broken n) = nat_eq_equiv.refl n

-- a test that tells equality
module _ {K : Type 0} (E : K → K → Bool) (is : (x y : K) → E x y ≡ true → x ≡ y) (itself : (x : K) → E x x ≡ true) where
  swapped : (x y : K) (b c : Bool) → E x y ≡ b → E y x ≡ c → E x y ≡ E y x
  swapped x y true c p q = let e = is x y p in subst (λ (z : K). E x z ≡ E z x) e refl
  swapped x y false true p q = let e = is y x q in subst (λ (z : K). E z y ≡ E y z) e refl
  swapped x y false false p q = p ∙ sym q

  pub tells_equality : IsEquivalence E
  tells_equality = record {
    refl = itself;
    symm = λ x y. swapped x y (E x y) (E y x) refl refl;
    congr = λ x y z p. ap (λ (w : K). E w z) (is x y p);
  }

pub same_value_equiv : IsEquivalence same_value
same_value_equiv = tells_equality same_value same_is same_itself
