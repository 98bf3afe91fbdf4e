-- What integers answer, case by case.
use Rattle.std.proofs.Common.{◌≡◌, ℕ, ◌<◌, ℤ, pos, negsuc, Bool, true, false, cond, Some, None, refl, ap, sym, ◌∙◌, arith}
use Rattle.std.specs.Prelude.{codes, neg_ℤ, ◌-ℤ◌}
use Rattle.std.specs.Char.{IsScalar}
use Rattle.std.proofs.lemmas.Bool.Decides.{nat_tests}
use Rattle.def_machine.specs.Native.{Reply, Says, Fails, Applies, Negates, is_code, as_char, int_alone, int_with, int_unary, int_binary, by_int, no_method}
use Rattle.std.proofs.Math.IntN.{+ℤ_idl}
use Rattle.def_machine.specs.Values.{Words, Value, Letter, Number, Local}
use Rattle.def_machine.specs.Ints as machine
use Rattle.ev_integer.specs.Ints as num
use Rattle.ev_integer.specs.declared.arithmetic.IntOp.{IntOp}
use Rattle.ev_integer.specs.declared.arithmetic.IntOp.TheVariants.{Subtract}
use Rattle.ev_prims.specs.Same.{op_of, told}
use Rattle.ev_prims.proofs.Sames.{same}
use Rattle.ev_prims.specs.Verbs.{code_of, alone_named, operation_named}
use Rattle.ev_prims.specs.declared.integers.AloneVerb.TheVariants.{Negate, ToChar}
use Rattle.ev_prims.proofs.VerbLemmas.{int_negate, int_char, int_unary_none, int_binary_some, int_binary_none}

-- ---- codes of characters

scalar_code : (n : ℕ) → IsScalar n → is_code n ≡ true
unfolding is_code
scalar_code n h = grind (arith, nat_tests)

no_code : (n : ℕ) → (IsScalar n → ⊥) → is_code n ≡ false
unfolding is_code
no_code n h = grind (arith, nat_tests)

large_code : (n : ℕ) → 0x10ffff < n → is_code n ≡ false
unfolding is_code
large_code n h = grind (arith, nat_tests)

pub code_of_scalar : (n : ℕ) → IsScalar n → code_of (pos n) ≡ Some n
unfolding code_of
code_of_scalar n h = ap (λ b. cond b (Some n) None) (scalar_code n h)

pub code_of_none : (n : ℕ) → (IsScalar n → ⊥) → code_of (pos n) ≡ None
unfolding code_of
code_of_none n h = ap (λ b. cond b (Some n) None) (no_code n h)

pub code_of_large : (n : ℕ) → 0x10ffff < n → code_of (pos n) ≡ None
unfolding code_of
code_of_large n h = ap (λ b. cond b (Some n) None) (large_code n h)

some_code : (b : Bool) (n m : ℕ) → cond b (Some n) None ≡ Some m → ◌≡◌ {A = Reply Local} (elim b [ true ↦ Says (Letter n) | false ↦ Fails (codes "not char") ]) (Says (Letter m))
some_code true n m e = let f : Some n ≡ Some m = e in let g : n ≡ m = cc in ap (λ k. Says (Letter k)) g
some_code false n m e = absurd (cc)

none_code : (b : Bool) (n : ℕ) → cond b (Some n) None ≡ None → ◌≡◌ {A = Reply Local} (elim b [ true ↦ Says (Letter n) | false ↦ Fails (codes "not char") ]) (Fails (codes "not char"))
none_code true n e = absurd (cc)
none_code false n e = refl

pub as_char_some : (z : ℤ) (n : ℕ) → code_of z ≡ Some n → as_char {N = Local} z ≡ Says (Letter n)
unfolding as_char code_of
as_char_some (pos m) n e = some_code (is_code m) m n e
as_char_some (negsuc m) n e = absurd (cc)

pub as_char_none : (z : ℤ) → code_of z ≡ None → as_char {N = Local} z ≡ Fails (codes "not char")
unfolding as_char code_of
as_char_none (pos m) e = none_code (is_code m) m e
as_char_none (negsuc m) e = refl

-- ---- verbs

from_zero : (z : ℤ) → pos 0 -ℤ z ≡ neg_ℤ z
from_zero z = +ℤ_idl (neg_ℤ z)

pub negated : (z : ℤ) → int_alone {N = Local} Negates z ≡ by_int (told (num.apply Subtract (pos 0) z))
unfolding int_alone machine.apply
negated z = ap (λ y. by_int (machine.in_range y)) (sym (from_zero z)) ∙ ap by_int (same Subtract (pos 0) z)

pub alone_negates : (verb : Words) (z : ℤ) → alone_named verb ≡ Some Negate → int_alone {N = Local} (int_unary verb) z ≡ int_alone Negates z
alone_negates verb z e = ap (λ v. int_alone v z) (int_negate verb e)

pub alone_makes_char : (verb : Words) (z : ℤ) → alone_named verb ≡ Some ToChar → int_alone {N = Local} (int_unary verb) z ≡ as_char z
unfolding int_alone
alone_makes_char verb z e = ap (λ v. int_alone v z) (int_char verb e)

pub nothing_alone : (verb : Words) (z : ℤ) → alone_named verb ≡ None → int_alone {N = Local} (int_unary verb) z ≡ Fails (codes "no method")
unfolding int_alone no_method
nothing_alone verb z e = ap (λ v. int_alone v z) (int_unary_none verb e)

pub joins : (o : IntOp) (a b : ℤ) → int_with {N = Local} (Applies (op_of o)) a (Number b) ≡ by_int (told (num.apply o a b))
unfolding int_with
joins o a b = ap by_int (same o a b)

pub with_operation : (verb : Words) (o : IntOp) (z : ℤ) (x : Value Local) → operation_named verb ≡ Some o → int_with (int_binary verb) z x ≡ int_with (Applies (op_of o)) z x
with_operation verb o z x e = ap (λ v. int_with v z x) (int_binary_some verb o e)

pub nothing_with : (verb : Words) (z : ℤ) (x : Value Local) → operation_named verb ≡ None → int_with (int_binary verb) z x ≡ Fails (codes "no method")
unfolding int_with no_method
nothing_with verb z x e = ap (λ v. int_with v z x) (int_binary_none verb e)
