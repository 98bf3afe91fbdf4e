-- Texts in UTF-8.
use Rattle.law_text.specs.RunTexts.Fitting.{TextFits}
use Rattle.std.proofs.lemmas.List.{length-append}
use Rattle.std.proofs.Common.{◌≡◌, ℕ, ◌+◌, ◌<◌, ltb, ℤ, pos, negsuc, Bool, true, List, [], ◌∷◌, suc, refl, subst, arith, ◌≤◌, ◌^◌, length, ◌&&◌}
use lib.Utf8.{scalar, scalars, low_scalar}
use Rattle.std.specs.Prelude.{decimal, nat_le}
use Rattle.std.specs.Fmt.{signed_decimal}
use Rattle.std.specs.Char.{IsScalar, encode_utf8}
use Rattle.std.specs.List.{list_all}
use Rattle.std.specs.Str.{IsUtf8, chars, encode_utf8_all}
use Rattle.std.proofs.lemmas.Bool.{and_parts}
use Rattle.std.proofs.lemmas.Bool.Decides.{nat_tests}
use Rattle.std.proofs.lemmas.Str.{IsUtf8-nil, IsUtf8-append, IsUtf8-encode, scalars-chars, encode_ascii, encodes-chars, length-encode, len_utf8_bounds}
use Rattle.law_text.proofs.Text.Valued.{decimal_passes}
use Rattle.def_machine.specs.Values.{Words}
use Rattle.def_machine.specs.Native as native
use Rattle.law_text.specs.Text.Feeds.{AllOf}

abbrev is_low : ℕ → Bool
is_low c = ltb c 128

low_is : (c : ℕ) → is_low c ≡ true → c < 128
low_is c h = grind (arith, nat_tests)

one_low : (c : ℕ) → c < 128 → IsUtf8 (c ∷ [])
one_low c h = subst IsUtf8 (encode_ascii c h) (IsUtf8-encode c (low_scalar c (omega (arith, h))))

-- so is a text of ASCII
pub utf8 : (t : Words) → list_all is_low t ≡ true → IsUtf8 t
utf8 [] h = IsUtf8-nil
utf8 (c ∷ cs) h = let both = and_parts (is_low c) (list_all is_low cs) h in IsUtf8-append (c ∷ []) cs (one_low c (low_is c both.0)) (utf8 cs both.1)

-- characters, one by one
all_scalar : (cs : List ℕ) → scalars cs ≡ true → AllOf IsScalar cs
all_scalar [] h = tt
all_scalar (c ∷ cs) h = let both = and_parts (scalar c) (scalars cs) h in (both.0, all_scalar cs both.1)

pub chars_scalar : (t : Words) → IsUtf8 t → AllOf IsScalar (chars t)
chars_scalar t h = all_scalar (chars t) (scalars-chars t h)

encode_some : (c : ℕ) → 1 ≤ length (encode_utf8 c)
encode_some c = let e = length-encode c in let b = (len_utf8_bounds c).0 in omega (arith, e, b)

all_le : (cs : List ℕ) → length cs ≤ length (encode_utf8_all cs)
all_le [] = omega arith
all_le (c ∷ cs) = let l = all_le cs in let e = encode_some c in let k = length-append (encode_utf8 c) (encode_utf8_all cs) in omega (arith, l, e, k)

-- a text has no more characters than bytes
pub chars_le : (t : Words) → IsUtf8 t → length (chars t) ≤ length t
chars_le t h = subst (λ b. length (chars t) ≤ length b) (encodes-chars t h) (all_le (chars t))

short : (n : ℕ) → nat_le n 1000 ≡ true → n < 2 ^ 64
short n e = let l : n ≤ 1000 = grind (arith, nat_tests) in omega (arith, l)

pub short_text : (n : ℕ) → nat_le n 65535 ≡ true → n < 2 ^ 64
short_text n e = let l : n ≤ 65535 = grind (arith, nat_tests) in omega (arith, l)

-- and it fits, if it is short
pub plain : (t : Words) → (list_all is_low t && nat_le (length t) 1000) ≡ true → TextFits t
plain t h = let both = and_parts (list_all is_low t) (nat_le (length t) 1000) h in (utf8 t both.0, short (length t) both.1)

pub encoded_utf8 : (cs : List ℕ) → AllOf IsScalar cs → IsUtf8 (native.encoded cs)
unfolding native.encoded
encoded_utf8 [] h = IsUtf8-nil
encoded_utf8 (c ∷ cs) h = IsUtf8-append (encode_utf8 c) (native.encoded cs) (IsUtf8-encode c h.0) (encoded_utf8 cs h.1)

digit_low : (d : ℕ) → d < 10 → is_low (48 + d) ≡ true
digit_low d h = grind (arith, nat_tests)

decimal_utf8 : (n : ℕ) → IsUtf8 (decimal n)
decimal_utf8 n = utf8 (decimal n) (decimal_passes is_low digit_low n)

pub signed_utf8 : (z : ℤ) → IsUtf8 (signed_decimal z)
signed_utf8 (pos n) = decimal_utf8 n
signed_utf8 (negsuc n) = IsUtf8-append (45 ∷ []) (decimal (suc n)) (utf8 (45 ∷ []) refl) (decimal_utf8 (suc n))
