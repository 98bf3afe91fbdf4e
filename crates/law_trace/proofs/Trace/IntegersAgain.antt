-- What is printed of integers is read again as a value.
use Rattle.std.proofs.Common.{◌||◌, ◌≡◌, ◌<◌, ◌≤◌, ◌+◌, ◌-◌, ◌%◌, ◌++◌, ◌^◌, ℕ, zero, suc, Bool, true, false, not, cond, eqb, ltb, leb, List, [], ◌∷◌, Option, Some, None, length, length-append, get_or, refl, sym, ◌∙◌, ap, arith}
use lib.ListN.{get_or-append}
use Rattle.std.specs.Prelude.{ℤ, pos, negsuc, neg_ℤ, decimal, codes, option_map, Ok}
use Rattle.std.specs.Char.{is_ascii_digit}
use Rattle.std.specs.Fmt.{signed_decimal}
use Rattle.std.specs.List.{list_all}
use Rattle.std.specs.Str.{bytes_eq, all_ascii_digits}
use Rattle.std.specs.Str.Parse.{digits_value}
use Rattle.std.proofs.lemmas.Bool.{lt-ltb, le-leb}
use Rattle.std.proofs.lemmas.Bool.Decides.{nat_tests}
use Rattle.std.proofs.lemmas.Fmt.{decimal_by_steps_wide, decimal_digit, decimal_is_IsNumeral_wide}
use Rattle.std.proofs.lemmas.Slice.Eq.{bytes_eq-Decides}
use Rattle.std.proofs.lemmas.Str.Parse.{IsNumeralModel, numerals_by_value, tells_all_ascii_digits}
use Rattle.def_event.specs.declared.shown.Shown.{Int}
use Rattle.ev_text.specs.Lines.{begins_with_zero, integer, number}
use Rattle.ev_script.specs.Vats.{begins_lower, is_lower, is_vat_name, place_of}
use Rattle.ev_trace_words.specs.Parts.{constant, split_at}
use Rattle.ev_trace_words.specs.Parts as parts
use Rattle.ev_trace_words.specs.Values.{value}
use Rattle.ev_trace_words.proofs.Spelled.{split_is}
use Rattle.law_trace.specs.Trace.Laws.{IntegersAreReadAgain}
use Rattle.law_trace.proofs.Trace.ValuesAgain.{both, letter_first, starts}

-- ---- words that do not begin with a small letter have no vat in front

apart_by : (front x : List ℕ) (t : Bool) → bytes_eq front x ≡ t → is_vat_name x ≡ true → begins_lower front ≡ false → bytes_eq front x ≡ false
apart_by front x false s e f = s
apart_by front x true s e f = let one : begins_lower front ≡ true = ap begins_lower ((bytes_eq-Decides front x).0 s) ∙ letter_first x e in absurd cc

pub no_vat : (names : List (List ℕ)) (front : List ℕ) → list_all is_vat_name names ≡ true → begins_lower front ≡ false → place_of names front ≡ None
no_vat [] front e f = refl
no_vat (x ∷ names) front e f =
    let t = both (is_vat_name x) (list_all is_vat_name names) e in
    ap (λ k. cond k (Some 0) (option_map suc (place_of names front))) (apart_by front x (bytes_eq front x) refl t.0 f) ∙ ap (option_map suc) (no_vat names front t.1 f)

pub low_front : (word front behind : List ℕ) (mark : ℕ) → word ≡ front ++ mark ∷ behind → begins_lower word ≡ false → begins_lower front ≡ false
low_front word [] behind mark e f = refl
low_front word (b ∷ front) behind mark e f = sym (ap begins_lower e) ∙ f

pub numbered_by : (names : List (List ℕ)) (mark : ℕ) (word : List ℕ) (o : Option (List ℕ × List ℕ)) → split_at mark word ≡ o → list_all is_vat_name names ≡ true → begins_lower word ≡ false → parts.numbered names mark word ≡ None
numbered_by names mark word None s e f = rw s refl
numbered_by names mark word (Some p) s e f = rw s (rw (no_vat names p.0 e (low_front word p.0 p.1 mark (split_is mark word p s) f)) refl)

pub not_word : (word other : List ℕ) (mark : ℕ) (t : Bool) → bytes_eq word other ≡ t → starts mark other ≡ true → starts mark word ≡ false → bytes_eq word other ≡ false
not_word word other mark false s o w = s
not_word word other mark true s o w = let one : starts mark word ≡ true = ap (starts mark) ((bytes_eq-Decides word other).0 s) ∙ o in absurd cc

pub no_constant : (word : List ℕ) → starts 110 word ≡ false → starts 116 word ≡ false → starts 102 word ≡ false → constant word ≡ None
no_constant word n t f =
    rw (not_word word (codes "null") 110 (bytes_eq word (codes "null")) refl refl n)
    (rw (not_word word (codes "true") 116 (bytes_eq word (codes "true")) refl refl t) (rw (not_word word (codes "false") 102 (bytes_eq word (codes "false")) refl refl f) refl))

integer_by : (names : List (List ℕ)) (word : List ℕ) (z : ℤ) → parts.numbered names 37 word ≡ None → parts.numbered names 38 word ≡ None → constant word ≡ None → integer word ≡ Some z → value names word ≡ Ok (Int z)
integer_by names word z l s c i = rw l (rw s (rw c (rw i refl)))

-- no letter stands first
record NoLetter (word : List ℕ) : Type 0 where
  low : begins_lower word ≡ false
  n : starts 110 word ≡ false
  t : starts 116 word ≡ false
  f : starts 102 word ≡ false

as_value : (names : List (List ℕ)) (word : List ℕ) (z : ℤ) → list_all is_vat_name names ≡ true → NoLetter word → integer word ≡ Some z → value names word ≡ Ok (Int z)
as_value names word z lawful first i =
    integer_by names word z (numbered_by names 37 word (split_at 37 word) refl lawful first.low) (numbered_by names 38 word (split_at 38 word) refl lawful first.low) (no_constant word first.n first.t first.f) i

-- ---- numerals

own : IsNumeralModel (λ ds. all_ascii_digits ds ≡ true) (digits_value 10)
own = numerals_by_value _ tells_all_ascii_digits

pub digits_alone : (n : ℕ) → n < 10 ^ 64 → all_ascii_digits (decimal n) ≡ true
digits_alone n h = own.from (decimal n) (decimal_is_IsNumeral_wide n h).0.1

pub decimal_some : (n : ℕ) → n < 10 ^ 64 → 0 < length (decimal n)
decimal_some n h = (decimal_is_IsNumeral_wide n h).0.0

first_digit : (n : ℕ) → 0 < n → n < 10 ^ 64 → 48 < get_or (decimal n) 0 0
first_digit n some h = (decimal_by_steps_wide (λ m ds. (0 < length ds) × (0 < m → 48 < get_or ds 0 0)) (λ m l. (omega arith, λ a. omega arith))
    (λ m ds l h. (omega (arith, length-append ds ((48 + m % 10) ∷ [])), λ a. omega (arith, get_or-append ds ((48 + m % 10) ∷ []) 0 0 h.0, h.1 (omega arith)))) n h).1 some

not_zero : (ds : List ℕ) → 48 < get_or ds 0 0 → begins_with_zero ds ≡ false
not_zero [] h = refl
not_zero (d ∷ ds) h = grind (arith, nat_tests)

or_true : (a : Bool) → (a || true) ≡ true
or_true true = refl
or_true false = refl

no_leading_zero : (n : ℕ) → n < 10 ^ 64 → (eqb (length (decimal n)) 1 || not (begins_with_zero (decimal n))) ≡ true
no_leading_zero zero h = rw (decimal_digit 0 (omega arith)) refl
no_leading_zero (suc n) h = rw (not_zero (decimal (suc n)) (first_digit (suc n) (omega arith) h)) (or_true (eqb (length (decimal (suc n))) 1))

counted : (most : ℕ) (word : List ℕ) (n : ℕ) → all_ascii_digits word ≡ true → (eqb (length word) 1 || not (begins_with_zero word)) ≡ true → ltb 0 (length word) ≡ true
    → leb (digits_value 10 word) most ≡ true → digits_value 10 word ≡ n → number most word ≡ Some n
counted most word n digits first some small value = rw (digits, first, some, small) (ap Some value)

number_again : (most n : ℕ) → n < 10 ^ 64 → n ≤ most → number most (decimal n) ≡ Some n
number_again most n h l =
    let same : digits_value 10 (decimal n) ≡ n = (decimal_is_IsNumeral_wide n h).1 in
    counted most (decimal n) n (digits_alone n h) (no_leading_zero n h) (lt-ltb 0 (length (decimal n)) (decimal_some n h)) (le-leb (digits_value 10 (decimal n)) most (omega (arith, same, l))) same

-- ---- integers

digit_is_low : (b : ℕ) → is_ascii_digit b ≡ true → is_lower b ≡ false
digit_is_low b e = grind (arith, nat_tests)

digit_is_not : (b mark : ℕ) → is_ascii_digit b ≡ true → is_ascii_digit mark ≡ false → eqb b mark ≡ false
digit_is_not b mark e m = grind (arith, nat_tests)

digits_no_letter : (word : List ℕ) → all_ascii_digits word ≡ true → NoLetter word
digits_no_letter [] e = record { low = refl; n = refl; t = refl; f = refl }
digits_no_letter (b ∷ word) e =
    let d = (both (is_ascii_digit b) (all_ascii_digits word) e).0 in
    record { low = digit_is_low b d; n = digit_is_not b 110 d refl; t = digit_is_not b 116 d refl; f = digit_is_not b 102 d refl }

pub no_mark : (mark : ℕ) (word : List ℕ) → is_ascii_digit mark ≡ false → all_ascii_digits word ≡ true → starts mark word ≡ false
no_mark mark [] m e = refl
no_mark mark (b ∷ word) m e = digit_is_not b mark (both (is_ascii_digit b) (all_ascii_digits word) e).0 m

integer_pos : (word : List ℕ) (n : ℕ) → 0 < length word → starts 45 word ≡ false → number (2 ^ 127 - 1) word ≡ Some n → integer word ≡ Some (pos n)
integer_pos [] n h s e = absurd (omega arith)
integer_pos (b ∷ word) n h s e = rw s (rw e refl)

integer_neg : (digits : List ℕ) (n : ℕ) → begins_with_zero digits ≡ false → number (2 ^ 127) digits ≡ Some (suc n) → integer (45 ∷ digits) ≡ Some (negsuc n)
integer_neg digits n z e =
    ap (λ t. option_map (λ (m : ℕ). neg_ℤ (pos m)) (cond {A = Option ℕ} t None (number (2 ^ 127) digits))) z ∙ ap (option_map (λ (m : ℕ). neg_ℤ (pos m))) e

pub wide : (n : ℕ) → n ≤ 2 ^ 127 → n < 10 ^ 64
wide n h = omega arith

positive_again : (names : List (List ℕ)) (n : ℕ) → list_all is_vat_name names ≡ true → n < 2 ^ 127 → value names (signed_decimal (pos n)) ≡ Ok (Int (pos n))
positive_again names n lawful h =
    let small = wide n (omega arith) in
    as_value names (decimal n) (pos n) lawful (digits_no_letter (decimal n) (digits_alone n small))
    (integer_pos (decimal n) n (decimal_some n small) (no_mark 45 (decimal n) refl (digits_alone n small)) (number_again (2 ^ 127 - 1) n small (omega arith)))

negative_again : (names : List (List ℕ)) (n : ℕ) → list_all is_vat_name names ≡ true → n < 2 ^ 127 → value names (signed_decimal (negsuc n)) ≡ Ok (Int (negsuc n))
negative_again names n lawful h =
    let small = wide (suc n) (omega arith) in
    as_value names (45 ∷ decimal (suc n)) (negsuc n) lawful (record { low = refl; n = refl; t = refl; f = refl })
    (integer_neg (decimal (suc n)) n (not_zero (decimal (suc n)) (first_digit (suc n) (omega arith) small)) (number_again (2 ^ 127) (suc n) small (omega arith)))

pub integers_again : IntegersAreReadAgain
integers_again names (pos n) are h = positive_again names n are.lawful h
integers_again names (negsuc n) are h = negative_again names n are.lawful h
