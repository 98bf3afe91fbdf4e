-- Bytes are told by their hexadecimal digits.
use Rattle.std.proofs.Common.{◌≡◌, ℕ, ◌+◌, ◌/◌, ◌%◌, ◌<◌, ◌≤◌, cond, ltb, Bool, true, false, List, [], ◌∷◌, refl, sym, arith}
use Rattle.std.specs.Char.{digit_char}
use Rattle.std.proofs.lemmas.Bool.Decides.{nat_tests}
use Rattle.def_event.specs.Lines.{hex}
use Rattle.law_text.proofs.Text.Front.{head_is, tail_is, cons_is}

below_ten : (d : ℕ) → ltb d 10 ≡ true → d < 10
below_ten d e = grind (arith, nat_tests)

from_ten : (d : ℕ) → ltb d 10 ≡ false → 10 ≤ d
from_ten d e = grind (arith, nat_tests)

digit_by : (a b : ℕ) (s t : Bool) → ltb a 10 ≡ s → ltb b 10 ≡ t → cond s (48 + a) (87 + a) ≡ cond t (48 + b) (87 + b) → a ≡ b
digit_by a b true true i j e = omega arith
digit_by a b true false i j e = let l = below_ten a i in let m = from_ten b j in omega arith
digit_by a b false true i j e = let l = from_ten a i in let m = below_ten b j in omega arith
digit_by a b false false i j e = omega arith

-- of any number, be it a digit or not
digit_told : (a b : ℕ) → digit_char a ≡ digit_char b → a ≡ b
digit_told a b e = digit_by a b (ltb a 10) (ltb b 10) refl refl e

byte_told : (a b : ℕ) → digit_char (a / 16) ≡ digit_char (b / 16) → digit_char (a % 16) ≡ digit_char (b % 16) → a ≡ b
byte_told a b e f =
    let high = digit_told (a / 16) (b / 16) e in
    let low = digit_told (a % 16) (b % 16) f in
    omega arith

nothing : (c : ℕ) (cs : List ℕ) → ◌≡◌ {A = List ℕ} [] (c ∷ cs) → ⊥
nothing c cs e = cc

pub hex_told : (xs ys : List ℕ) → hex xs ≡ hex ys → xs ≡ ys
hex_told [] [] e = refl
hex_told [] (y ∷ ys) e = absurd (nothing (digit_char (y / 16)) (digit_char (y % 16) ∷ hex ys) e)
hex_told (x ∷ xs) [] e = absurd (nothing (digit_char (x / 16)) (digit_char (x % 16) ∷ hex xs) (sym e))
hex_told (x ∷ xs) (y ∷ ys) e =
    let high = head_is (digit_char (x / 16)) (digit_char (y / 16)) (digit_char (x % 16) ∷ hex xs) (digit_char (y % 16) ∷ hex ys) e in
    let more = tail_is (digit_char (x / 16)) (digit_char (y / 16)) (digit_char (x % 16) ∷ hex xs) (digit_char (y % 16) ∷ hex ys) e in
    let low = head_is (digit_char (x % 16)) (digit_char (y % 16)) (hex xs) (hex ys) more in
    cons_is x y xs ys (byte_told x y high low) (hex_told xs ys (tail_is (digit_char (x % 16)) (digit_char (y % 16)) (hex xs) (hex ys) more))
