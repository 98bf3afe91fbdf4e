-- What parsing a row of digits gives.
use Rattle.std.proofs.Common.{◌≡◌, ◌<◌, ◌≤◌, ◌-◌, ◌^◌, ◌==◌, ◌&&◌, ◌||◌, ℕ, Bool, List, ◌∷◌, true, false, not, cond, nat_lt, Option, Some, None, length, refl, sym, ap, subst, ◌∙◌, arith}
use Rattle.std.specs.Prelude.{ℤ, pos, neg_ℤ, nat_le, option_map, Result, Ok, Err}
use Rattle.std.specs.Int.{w128}
use Rattle.std.specs.Result.{OkIff, result_ok}
use Rattle.std.specs.Str.{all_ascii_digits}
use Rattle.std.specs.Str.Parse.{digits_value, ParsesSigned, ParsesUnsigned}
use Rattle.std.proofs.lemmas.Bool.Decides.{nat_tests}
use Rattle.std.proofs.lemmas.Str.Parse.{IsNumeralModel, numerals_by_value, tells_all_ascii_digits, parse_digits, parse_signed_minus}
use Rattle.ev_integer.specs.Numerals.{greatest, number_of}
use Rattle.ev_text.specs.Lines.{begins_with_zero, bounded, is_numeral, number, positive}

own : IsNumeralModel (λ ds. all_ascii_digits ds ≡ true) (digits_value 10)
own = numerals_by_value _ tells_all_ascii_digits

pub parsed : {E : Type 0} (text : List ℕ) (r : Result ℕ E) → ParsesUnsigned 64 10 text r → all_ascii_digits text ≡ true
    → OkIff r ((0 < length text) × (digits_value 10 text < 2 ^ 64)) (digits_value 10 text)
parsed text r h all = parse_digits own 64 text r h all

none_by : (most : ℕ) (text : List ℕ) → ((0 < length text) × (digits_value 10 text < 2 ^ 64) → ⊥) → most < 2 ^ 64 → None ≡ bounded most text
none_by most text h m = grind (arith, nat_tests, h)

-- what parsing refuses has no number that is small enough
pub no_number : {E : Type 0} (most : ℕ) (text : List ℕ) (r : Result ℕ E) (e : E) → ParsesUnsigned 64 10 text r → all_ascii_digits text ≡ true → r ≡ Err e
    → most < 2 ^ 64 → None ≡ bounded most text
no_number most text r e h all is m = none_by most text (rw is at (parsed text r h all)) m

-- ---- integers

and_left : (a b : Bool) → (a && b) ≡ true → a ≡ true
and_left true b h = refl
and_left false b h = h

digits_of : (text : List ℕ) → is_numeral text ≡ true → all_ascii_digits text ≡ true
digits_of text h = and_left (all_ascii_digits text) (length text == 1 || not (begins_with_zero text)) h

unsigned_by : (digits : Bool) (text : List ℕ) → digits ≡ true
    → cond (nat_lt 0 (length text) && digits && nat_le (digits_value 10 text) greatest) (Some (pos (digits_value 10 text))) None
    ≡ option_map pos (bounded (2 ^ 127 - 1) text)
unsigned_by digits text h = grind (arith, nat_tests)

-- a row of digits that is no numeral, and one that is
pub unsigned_none : (text : List ℕ) → is_numeral text ≡ false → None ≡ option_map pos (number (2 ^ 127 - 1) text)
unsigned_none text h = ap (λ (b : Bool). option_map pos (cond b (bounded (2 ^ 127 - 1) text) None)) (sym h)

pub unsigned_is : (text : List ℕ) → is_numeral text ≡ true → number_of text ≡ option_map pos (number (2 ^ 127 - 1) text)
unsigned_is text h =
    unsigned_by (all_ascii_digits text) text (digits_of text h)
    ∙ ap (λ (b : Bool). option_map pos (cond b (bounded (2 ^ 127 - 1) text) None)) (sym h)

some_bounded : (digits : List ℕ) → 0 < length digits → digits_value 10 digits ≤ 2 ^ 127 → bounded (2 ^ 127) digits ≡ Some (digits_value 10 digits)
some_bounded digits some le = grind (arith, nat_tests)

none_bounded : (digits : List ℕ) → ((0 < length digits) × (digits_value 10 digits ≤ 2 ^ 127) → ⊥) → bounded (2 ^ 127) digits ≡ None
none_bounded digits h = grind (arith, nat_tests, h)

negative_by : {E : Type 0} (digits : List ℕ) (r : Result ℤ E) → all_ascii_digits digits ≡ true
    → OkIff r ((all_ascii_digits digits ≡ true) × (0 < length digits) × (digits_value 10 digits ≤ 2 ^ 127)) (neg_ℤ (pos (digits_value 10 digits)))
    → result_ok r ≡ option_map (λ n. neg_ℤ (pos n)) (bounded (2 ^ 127) digits)
negative_by digits (Ok x) all h = ap Some h.1 ∙ ap (option_map (λ (n : ℕ). neg_ℤ (pos n))) (sym (some_bounded digits h.0.1 h.0.2))
negative_by digits (Err e) all h = ap (option_map (λ (n : ℕ). neg_ℤ (pos n))) (sym (none_bounded digits (λ p. h (all, p.0, p.1))))

pub negative_is : {E : Type 0} (text digits : List ℕ) (r : Result ℤ E) → text ≡ 45 ∷ digits → ParsesSigned w128 10 text r → begins_with_zero digits ≡ false
    → is_numeral digits ≡ true → result_ok r ≡ option_map (λ n. neg_ℤ (pos n)) (positive digits)
negative_is text digits r is parses first h =
    let all = digits_of digits h in
    let whole : ParsesSigned w128 10 (45 ∷ digits) r = subst (λ (t : List ℕ). ParsesSigned w128 10 t r) is parses in
    negative_by digits r all (parse_signed_minus own w128 (45 ∷ digits) r whole refl)
    ∙ ap (λ (b : Bool). option_map (λ (n : ℕ). neg_ℤ (pos n)) (cond b (bounded (2 ^ 127) digits) None)) (sym h)
    ∙ ap (λ (b : Bool). option_map (λ (n : ℕ). neg_ℤ (pos n)) (cond b None (number (2 ^ 127) digits))) (sym first)

none_by_first : (b : Bool) (o : Option ℕ) → o ≡ None → cond b None o ≡ None
none_by_first true o h = refl
none_by_first false o h = h

pub negative_none : (digits : List ℕ) → is_numeral digits ≡ false → positive digits ≡ None
negative_none digits h = none_by_first (begins_with_zero digits) (number (2 ^ 127) digits) (ap (λ (b : Bool). cond b (bounded (2 ^ 127) digits) None) h)
