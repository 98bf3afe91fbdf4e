-- Where a text may be cut.
use Rattle.std.proofs.Common.{◌≡◌, ℕ, List, Bool, true, false, not, ◌&&◌, ◌||◌, nat_le, nat_lt, slice_index, length, ◌<◌, ◌≤◌, arith, ◌∙◌, ap}
use Rattle.std.proofs.lemmas.Bool.Decides.{nat_tests}
use Rattle.ev_parser.specs.Surface.{is_boundary}

le_no : (i n : ℕ) → n < i → nat_le i n ≡ false
le_no i n h = grind (arith, nat_tests)

le_yes : (i n : ℕ) → i ≤ n → nat_le i n ≡ true
le_yes i n h = grind (arith, nat_tests)

lt_no : (i n : ℕ) → n ≤ i → nat_lt i n ≡ false
lt_no i n h = grind (arith, nat_tests)

lt_yes : (i n : ℕ) → i < n → nat_lt i n ≡ true
lt_yes i n h = grind (arith, nat_tests)

pub past_end : (s : List ℕ) (i : ℕ) → length s < i → is_boundary s i ≡ false
past_end s i h = ap (λ (b : Bool). b && (not (nat_lt i (length s)) || (nat_lt (slice_index s i) 128 || nat_le 192 (slice_index s i)))) (le_no i (length s) h)

pub at_end : (s : List ℕ) (i : ℕ) → i ≡ length s → is_boundary s i ≡ true
at_end s i h =
    ap (λ (b : Bool). b && (not (nat_lt i (length s)) || (nat_lt (slice_index s i) 128 || nat_le 192 (slice_index s i)))) (le_yes i (length s) (omega arith))
    ∙ ap (λ (b : Bool). not b || (nat_lt (slice_index s i) 128 || nat_le 192 (slice_index s i))) (lt_no i (length s) (omega arith))

pub within : (s : List ℕ) (i : ℕ) → i < length s → is_boundary s i ≡ (nat_lt (slice_index s i) 128 || nat_le 192 (slice_index s i))
within s i h =
    ap (λ (b : Bool). b && (not (nat_lt i (length s)) || (nat_lt (slice_index s i) 128 || nat_le 192 (slice_index s i)))) (le_yes i (length s) (omega arith))
    ∙ ap (λ (b : Bool). not b || (nat_lt (slice_index s i) 128 || nat_le 192 (slice_index s i))) (lt_yes i (length s) h)
