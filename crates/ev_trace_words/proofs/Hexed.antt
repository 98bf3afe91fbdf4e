-- Bytes and numbers that are printed by their hexadecimal digits are read again, and what is read is printed so.
use Rattle.std.proofs.Common.{◌&&◌, ◌≡◌, ◌<◌, ◌+◌, ◌*◌, ◌/◌, ◌%◌, ◌^◌, ℕ, zero, suc, Bool, true, false, cond, eqb, List, [], ◌∷◌, Option, Some, None, Result, Ok, Err, inl, inr, length, refl, sym, ◌∙◌, ap, arith}
use Rattle.std.specs.Prelude.{option_map, slice_index}
use Rattle.std.specs.Char.{digit_char}
use Rattle.std.specs.Int.{w128, from_le_bytes}
use Rattle.std.specs.List.{list_all}
use Rattle.std.specs.Result.{result_ok, result_unwrap_or}
use Rattle.std.proofs.lemmas.Bool.{cases_lt, eqb-true}
use Rattle.std.proofs.lemmas.Bool.Decides.{nat_tests}
use Rattle.std.proofs.lemmas.Nat.{div_below}
use Rattle.std.proofs.lemmas.Option.{same_Some}
use Rattle.hex.specs.Hex.{IsBytes, decode_of, decode_pairs, decode_sized, digit_or_error, encode_lower, encode_with, hex_digit_value, lower_digits, pair_value, value_at, ◌>>=◌}
use Rattle.hex.specs.declared.error.FromHexError.{FromHexError}
use Rattle.hex.proofs.HexLemmas.{decode_of-encode_lower, decode_of-even, decode_of-ok, decode_sized-encode_lower, decode_sized-ok, decode_sized-twice}
use Rattle.def_event.specs.Lines.{hex, low_first}
use Rattle.ev_text.specs.Lines.{bytes, is_lower_digit, spelled_number}

both : (a b : Bool) → (a && b) ≡ true → (a ≡ true) × (b ≡ true)
both true b e = (refl, e)
both false b e = absurd cc

and_true : (a b : Bool) → a ≡ true → b ≡ true → (a && b) ≡ true
and_true a b e f = rw (e, f) refl

-- ---- digits

-- each number below n passes the test
abbrev all_below : (ℕ → Bool) → ℕ → Bool
all_below p zero = true
all_below p (suc n) = p n && all_below p n

passes : (p : ℕ → Bool) (n d : ℕ) → all_below p n ≡ true → d < n → p d ≡ true
passes p zero d h lt = absurd (omega arith)
passes p (suc n) d h lt =
    let t = both (p n) (all_below p n) h in
    elim (cases_lt d n) [
      | inl below ↦ passes p n d t.1 below
      | inr top ↦
          let e : d ≡ n = omega arith in
          rw e t.0
    ]

table_digit : (d : ℕ) → d < 16 → digit_char d ≡ slice_index lower_digits d
table_digit d lt = eqb-true (digit_char d) (slice_index lower_digits d) (passes (λ k. eqb (digit_char k) (slice_index lower_digits k)) 16 d refl lt)

lower_digit : (d : ℕ) → d < 16 → is_lower_digit (digit_char d) ≡ true
lower_digit d lt = passes (λ k. is_lower_digit (digit_char k)) 16 d refl lt

-- ---- bytes that are printed

high_half : (b : ℕ) → b < 256 → b / 16 < 16
high_half b h = omega arith

low_half : (b : ℕ) → b % 16 < 16
low_half b = omega arith

as_encoded : (xs : List ℕ) → IsBytes xs → hex xs ≡ encode_lower xs
unfolding encode_with
as_encoded [] h = refl
as_encoded (b ∷ xs) h =
    let high = table_digit (b / 16) (high_half b (h 0)) in
    let low = table_digit (b % 16) (low_half b) in
    let more = as_encoded xs (λ i. h (suc i)) in
    λ i. high i ∷ low i ∷ more i

-- the digits of bytes are lower case
pub hex_lower : (xs : List ℕ) → IsBytes xs → list_all is_lower_digit (hex xs) ≡ true
hex_lower [] h = refl
hex_lower (b ∷ xs) h =
    and_true (is_lower_digit (digit_char (b / 16))) (is_lower_digit (digit_char (b % 16)) && list_all is_lower_digit (hex xs)) (lower_digit (b / 16) (high_half b (h 0)))
    (and_true (is_lower_digit (digit_char (b % 16))) (list_all is_lower_digit (hex xs)) (lower_digit (b % 16) (low_half b)) (hex_lower xs (λ i. h (suc i))))

-- bytes that are printed are read as themselves
pub hex_again : (xs : List ℕ) → IsBytes xs → decode_of (hex xs) ≡ Ok xs
hex_again xs h = ap decode_of (as_encoded xs h) ∙ decode_of-encode_lower xs h

sized_again : (xs : List ℕ) (n : ℕ) → length xs ≡ n → IsBytes xs → decode_sized (hex xs) n ≡ Ok xs
sized_again xs n l h = ap (λ t. decode_sized t n) (as_encoded xs h) ∙ decode_sized-encode_lower xs n l h

-- ---- what is read as bytes is printed so

bind_ok : {A B : Type 0} (r : Result A FromHexError) (f : A → Result B FromHexError) (y : B) → (r >>= f) ≡ Ok y → (x : A) × (r ≡ Ok x) × (f x ≡ Ok y)
bind_ok (Ok x) f y h = (x, refl, h)
bind_ok (Err e) f y h = cc h

digit_read : (c i : ℕ) (o : Option ℕ) (v : ℕ) → digit_or_error c i o ≡ Ok v → o ≡ Some v
digit_read c i (Some w) v h = ap Some (ap (λ (r : Result ℕ FromHexError). result_unwrap_or r 0) h)
digit_read c i None v h = cc h

value_small : (c v : ℕ) → hex_digit_value c ≡ Some v → v < 16
value_small c v h = grind (arith, nat_tests)

value_is : (c v : ℕ) → is_lower_digit c ≡ true → hex_digit_value c ≡ Some v → digit_char v ≡ c
value_is c v l h = grind (arith, nat_tests)

byte_is : (a b v w n : ℕ) → n ≡ v * 16 + w → w < 16 → digit_char v ≡ a → digit_char w ≡ b → (digit_char (n / 16) ≡ a) × (digit_char (n % 16) ≡ b)
byte_is a b v w n is small f g =
    let high : n / 16 ≡ v = omega arith in
    let low : n % 16 ≡ w = omega arith in
    (ap digit_char high ∙ f, ap digit_char low ∙ g)

pairs_are : (i : ℕ) (s xs : List ℕ) → list_all is_lower_digit s ≡ true → decode_pairs i s ≡ Ok xs → hex xs ≡ s
unfolding decode_pairs
pairs_are i [] xs l h = let e : [] ≡ xs = ap (λ (r : Result (List ℕ) FromHexError). result_unwrap_or r []) h in ap hex (sym e)
pairs_are i (a ∷ []) xs l h = cc h
pairs_are i (a ∷ b ∷ rest) xs l h =
    let t = both (is_lower_digit a) (is_lower_digit b && list_all is_lower_digit rest) l in
    let u = both (is_lower_digit b) (list_all is_lower_digit rest) t.1 in
    let p = bind_ok (pair_value a b i) _ xs h in
    let q = bind_ok (value_at a i) _ p.0 p.1 in
    let r = bind_ok (value_at b (i + 1)) _ p.0 q.2 in
    let z = bind_ok (decode_pairs (i + 2) rest) _ xs p.2 in
    let first = digit_read a i (hex_digit_value a) q.0 q.1 in
    let second = digit_read b (i + 1) (hex_digit_value b) r.0 r.1 in
    let byte : p.0 ≡ q.0 * 16 + r.0 = sym (ap (λ (k : Result ℕ FromHexError). result_unwrap_or k 0) r.2) in
    let two = byte_is a b q.0 r.0 p.0 byte (value_small b r.0 second) (value_is a q.0 t.0 first) (value_is b r.0 u.0 second) in
    let whole : p.0 ∷ z.0 ≡ xs = ap (λ (k : Result (List ℕ) FromHexError). result_unwrap_or k []) z.2 in
    let more = pairs_are (i + 2) rest z.0 u.1 z.1 in
    ap hex (sym whole) ∙ (λ i. two.0 i ∷ two.1 i ∷ more i)

-- digits that are read as bytes are how these are printed
pub hex_is : (s xs : List ℕ) → list_all is_lower_digit s ≡ true → decode_of s ≡ Ok xs → hex xs ≡ s
hex_is s xs l h = let ok = decode_of-ok s xs h in pairs_are 0 s xs l (sym (decode_of-even s ok.0) ∙ h)

-- ---- numbers of 128 bits

-- the number of bytes, the lowest first
abbrev from_low : List ℕ → ℕ
from_low [] = 0
from_low (b ∷ bs) = b + 256 * from_low bs

low_is : (k : ℕ) (bs : List ℕ) → length bs ≡ k → IsBytes bs → low_first k (from_low bs) ≡ bs
unfolding low_first
low_is zero [] l h = refl
low_is zero (b ∷ bs) l h = absurd (omega arith)
low_is (suc k) [] l h = absurd (omega arith)
low_is (suc k) (b ∷ bs) l h =
    let small : b < 256 = h 0 in
    let one : (b + 256 * from_low bs) % 256 ≡ b = omega arith in
    let rest : (b + 256 * from_low bs) / 256 ≡ from_low bs = omega arith in
    let more = ap (low_first k) rest ∙ low_is k bs (omega arith) (λ i. h (suc i)) in
    λ i. one i ∷ more i

low_again : (k n : ℕ) → n < 256 ^ k → from_low (low_first k n) ≡ n
unfolding low_first
low_again zero n h = omega arith
low_again (suc k) n h =
    let more = low_again k (n / 256) (div_below n 256 (256 ^ k) (omega arith) (omega arith)) in
    omega (arith, more)

low_bytes : (k n : ℕ) → IsBytes (low_first k n)
unfolding low_first
low_bytes zero n i = omega arith
low_bytes (suc k) n zero = omega arith
low_bytes (suc k) n (suc i) = low_bytes k (n / 256) i

low_length : (k n : ℕ) → length (low_first k n) ≡ k
unfolding low_first
low_length zero n = refl
low_length (suc k) n = ap suc (low_length k (n / 256))

by_worth : (bs : List ℕ) → length bs ≡ 16 → from_le_bytes w128 bs ≡ from_low bs
by_worth (a ∷ b ∷ c ∷ d ∷ e ∷ f ∷ g ∷ h ∷ i ∷ j ∷ k ∷ l ∷ m ∷ n ∷ o ∷ p ∷ []) is = omega arith
by_worth other is = absurd (omega arith)

-- the digits of a number by its bytes are lower case
pub key_lower : (n : ℕ) → list_all is_lower_digit (hex (low_first 16 n)) ≡ true
key_lower n = hex_lower (low_first 16 n) (low_bytes 16 n)

-- a number that is printed by its bytes is read as itself
pub key_again : (n : ℕ) → n < 2 ^ 128 → spelled_number (hex (low_first 16 n)) ≡ Some n
key_again n h =
    by (hex (low_first 16 n)) (low_first 16 n) (hex_lower (low_first 16 n) (low_bytes 16 n)) (sized_again (low_first 16 n) 16 (low_length 16 n) (low_bytes 16 n))
    (by_worth (low_first 16 n) (low_length 16 n) ∙ low_again 16 n h)
  where
    by : (word bs : List ℕ) → list_all is_lower_digit word ≡ true → decode_sized word 16 ≡ Ok bs → from_le_bytes w128 bs ≡ n → spelled_number word ≡ Some n
    by word bs l d e = rw (l, d) (ap Some e)

guarded : {A : Type 0} (t : Bool) (o : Option A) (x : A) → cond t o None ≡ Some x → (t ≡ true) × (o ≡ Some x)
guarded true o x e = (refl, e)
guarded false o x e = absurd cc

mapped : {A : Type 0} (f : A → ℕ) (o : Option A) (n : ℕ) → option_map f o ≡ Some n → (x : A) × (o ≡ Some x) × (f x ≡ n)
mapped f None n e = absurd cc
mapped f (Some x) n e = (x, refl, same_Some (f x) n e)

was_ok : (r : Result (List ℕ) FromHexError) (bs : List ℕ) → result_ok r ≡ Some bs → r ≡ Ok bs
was_ok (Ok x) bs e = ap Ok (same_Some x bs e)
was_ok (Err x) bs e = absurd cc

-- digits that are read as a number are how it is printed by its bytes
pub key_is : (word : List ℕ) (n : ℕ) → spelled_number word ≡ Some n → hex (low_first 16 n) ≡ word
key_is word n e =
    let m = mapped (from_le_bytes w128) (bytes 16 word) n e in
    let g = guarded (list_all is_lower_digit word) (result_ok (decode_sized word 16)) m.0 m.1 in
    let sized = was_ok (decode_sized word 16) m.0 g.1 in
    let long = decode_sized-ok word 16 m.0 sized in
    let whole = sym (decode_sized-twice word 16 long) ∙ sized in
    let ok = decode_of-ok word m.0 whole in
    let count : length m.0 ≡ 16 = omega (arith, long, ok.2) in
    ap (λ k. hex (low_first 16 k)) (sym m.2 ∙ by_worth m.0 count) ∙ ap hex (low_is 16 m.0 count ok.3) ∙ hex_is word m.0 g.0 whole
