-- What a reader leaves is shorter than what it was given.
use Rattle.std.proofs.Common.{ℕ, zero, suc, ◌+◌, ◌-◌, ◌*◌, ◌<◌, ◌≤◌, Bool, true, false, cond, ltb, leb, List, [], ◌∷◌, length, take, drop, slice_get, Option, Some, None, arith}
use Rattle.std.proofs.lemmas.List.{length-drop}
use Rattle.std.specs.Str.{is_utf8}
use lib.Utf8.{scalar}
use Rattle.def_op.specs.declared.kind.Kind.{Kind}
use Rattle.def_op.specs.Numbers.{digit}
use Rattle.def_op.specs.Reading.{◌>>=◌, Digits, last_digit, lower_digit, in_last_place, digits_at, unsigned_at, with_sign, signed_at, low_first_at, swiss_at, byte_where, text_at, character_at, few_at, kinds, kind_at}
use Rattle.def_op.specs.Items.{text_len_at, may_begin, opening_at, kind_where}

-- what is left behind is below a length
abbrev pub Under : {A : Type 0} → ℕ → Option (A × List ℕ) → Type 0
Under n (Some x) = length x.1 < n
Under n None = Unit {0}

under_more : {A : Type 0} (m n : ℕ) (o : Option (A × List ℕ)) → m ≤ n → Under m o → Under n o
under_more m n (Some x) le h = omega (arith, h)
under_more m n None le h = tt

pub under_if : {A : Type 0} (n : ℕ) (b : Bool) (o p : Option (A × List ℕ)) → Under n o → Under n p → Under n (cond b o p)
under_if n true o p g h = g
under_if n false o p g h = h

pub under_then : {A B : Type 0} (n : ℕ) (o : Option (A × List ℕ)) (f : A × List ℕ → Option (B × List ℕ)) → Under n o → ((x : A × List ℕ) → Under (suc (length x.1)) (f x)) → Under n (o >>= f)
under_then n (Some x) f g h = under_more (suc (length x.1)) n (f x) (omega (arith, g)) (h x)
under_then n None f g h = tt

same_length : (n : ℕ) → n < suc n
same_length n = omega arith

-- ---- numbers

abbrev DigitsUnder : ℕ → Option Digits → Type 0
DigitsUnder n (Some d) = length d.rest < n
DigitsUnder n None = Unit {0}

digits_if : (n : ℕ) (b : Bool) (o p : Option Digits) → DigitsUnder n o → DigitsUnder n p → DigitsUnder n (cond b o p)
digits_if n true o p g h = g
digits_if n false o p g h = h

last_under : (n : ℕ) (d : Digits) → length d.rest < n → DigitsUnder n (in_last_place d)
last_under n d h = digits_if n (ltb d.number 2) (Some d) None h tt

lower_under : (n last b : ℕ) (d : Digits) → length d.rest < n → DigitsUnder n (lower_digit last b d)
lower_under n last b d h =
    let m = 128 * d.number + digit d.negative (b - 128) in
    digits_if n (leb last m) (Some (record d { number = m })) None h tt

digits_lower : (n last b : ℕ) (o : Option Digits) → DigitsUnder n o → DigitsUnder (suc n) (o >>= lower_digit last b)
digits_lower n last b (Some d) h = lower_under (suc n) last b d (omega (arith, h))
digits_lower n last b None h = tt

digits_shorter : (last k : ℕ) (bytes : List ℕ) → DigitsUnder (length bytes) (digits_at last k bytes)
unfolding digits_at
digits_shorter last zero [] = tt
digits_shorter last (suc k) [] = tt
digits_shorter last zero (b ∷ rest) =
    digits_if (suc (length rest)) (ltb b 128) (in_last_place (last_digit last b rest)) None (last_under (suc (length rest)) (last_digit last b rest) (same_length (length rest))) tt
digits_shorter last (suc k) (b ∷ rest) =
    digits_if (suc (length rest)) (ltb b 128) (Some (last_digit last b rest)) (digits_at last k rest >>= lower_digit last b) (same_length (length rest)) (digits_lower (length rest) last b (digits_at last k rest) (digits_shorter last k rest))

from_digits : {A : Type 0} (n : ℕ) (o : Option Digits) (f : Digits → A) → DigitsUnder n o → Under n (o >>= λ d. Some (f d, d.rest))
from_digits n (Some d) f h = h
from_digits n None f h = tt

pub unsigned_shorter : (bytes : List ℕ) → Under (length bytes) (unsigned_at bytes)
unsigned_shorter bytes = from_digits (length bytes) (digits_at 128 9 bytes) (λ d. d.number) (digits_shorter 128 9 bytes)

pub signed_shorter : (bytes : List ℕ) → Under (length bytes) (signed_at bytes)
signed_shorter bytes = from_digits (length bytes) (digits_at 64 18 bytes) (λ d. with_sign d.negative d.number) (digits_shorter 64 18 bytes)

low_not_longer : (k : ℕ) (bytes : List ℕ) → Under (suc (length bytes)) (low_first_at k bytes)
unfolding low_first_at
low_not_longer zero bytes = same_length (length bytes)
low_not_longer (suc k) [] = tt
low_not_longer (suc k) (b ∷ rest) =
    under_more (suc (length rest)) (suc (suc (length rest))) _ (omega arith) (under_then (suc (length rest)) (low_first_at k rest) _ (low_not_longer k rest) (λ x. same_length (length x.1)))

low_shorter : (k : ℕ) (bytes : List ℕ) → Under (length bytes) (low_first_at (suc k) bytes)
unfolding low_first_at
low_shorter k [] = tt
low_shorter k (b ∷ rest) = under_then (suc (length rest)) (low_first_at k rest) _ (low_not_longer k rest) (λ x. same_length (length x.1))

pub swiss_shorter : (bytes : List ℕ) → Under (length bytes) (swiss_at bytes)
swiss_shorter bytes = low_shorter 15 bytes

pub byte_shorter : (test : ℕ → Bool) (bytes : List ℕ) → Under (length bytes) (byte_where test bytes)
byte_shorter test [] = tt
byte_shorter test (b ∷ rest) = under_if (suc (length rest)) (test b) (Some (b, rest)) None (same_length (length rest)) tt

pub few_shorter : (bytes : List ℕ) → Under (length bytes) (few_at bytes)
few_shorter bytes = under_then (length bytes) (unsigned_at bytes) _ (unsigned_shorter bytes) (λ n. under_if (suc (length n.1)) (ltb 255 n.0) None (Some n) tt (same_length (length n.1)))

pub character_shorter : (bytes : List ℕ) → Under (length bytes) (character_at bytes)
unfolding character_at
character_shorter bytes = under_then (length bytes) (unsigned_at bytes) _ (unsigned_shorter bytes) (λ n. under_if (suc (length n.1)) (scalar n.0) (Some n) None (same_length (length n.1)) tt)

-- ---- texts

dropped : (n : ℕ) (bytes : List ℕ) → length (drop n bytes) < suc (length bytes)
dropped n bytes = omega (arith, length-drop n bytes)

text_shorter : (room : ℕ) (bytes : List ℕ) → Under (length bytes) (text_at room bytes)
unfolding text_at
text_shorter room bytes =
    under_then (length bytes) (unsigned_at bytes) _ (unsigned_shorter bytes)
    (λ n. let text = cond (is_utf8 (take n.0 n.1)) (Some (take n.0 n.1, drop n.0 n.1)) None in
    under_if (suc (length n.1)) (ltb (length n.1) n.0) None (cond (ltb room n.0) None text) tt
    (under_if (suc (length n.1)) (ltb room n.0) None text tt
    (under_if (suc (length n.1)) (is_utf8 (take n.0 n.1)) (Some (take n.0 n.1, drop n.0 n.1)) None (dropped n.0 n.1) tt)))

pub text_len_shorter : (room : ℕ) (bytes : List ℕ) → Under (length bytes) (text_len_at room bytes)
text_len_shorter room bytes = under_then (length bytes) (text_at room bytes) _ (text_shorter room bytes) (λ t. same_length (length t.1))

-- ---- kinds

kind_at_place : (n : ℕ) (rest : List ℕ) (o : Option Kind) → length rest < n → Under n (o >>= λ k. Some (k, rest))
kind_at_place n rest (Some k) h = h
kind_at_place n rest None h = tt

kind_shorter : (bytes : List ℕ) → Under (length bytes) (kind_at bytes)
kind_shorter [] = tt
kind_shorter (b ∷ rest) = kind_at_place (suc (length rest)) rest (slice_get kinds b) (same_length (length rest))

pub opening_shorter : (height room : ℕ) (bytes : List ℕ) → Under (length bytes) (opening_at height room bytes)
opening_shorter height room bytes = under_then (length bytes) (kind_at bytes) _ (kind_shorter bytes) (λ k. under_if (suc (length k.1)) (may_begin height room k.0) (Some k) None (same_length (length k.1)) tt)

pub named_shorter : (test : Kind → Bool) (bytes : List ℕ) → Under (length bytes) (kind_where test bytes)
named_shorter test bytes = under_then (length bytes) (kind_at bytes) _ (kind_shorter bytes) (λ k. under_if (suc (length k.1)) (test k.0) (Some k) None (same_length (length k.1)) tt)
