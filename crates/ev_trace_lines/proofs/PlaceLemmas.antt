-- The place of a word among words, one by one.
use Rattle.std.proofs.Common.{◌≡◌, ◌<◌, ◌≤◌, ◌+◌, ℕ, suc, Bool, true, false, not, cond, ltb, List, [], ◌∷◌, Some, None, length, get_or, drop, refl, sym, ◌∙◌, ap, arith}
use Rattle.std.specs.Prelude.{unwrap_or}
use Rattle.std.specs.List.{position_or_len}
use Rattle.std.specs.Str.{bytes_eq}
use Rattle.std.proofs.lemmas.Bool.Decides.{nat_tests}
use Rattle.ev_script.proofs.EachLemmas.{next_item, nothing_behind}
use Rattle.ev_trace_lines.specs.Events.{place_of_word}

-- the place counted from the front, and the count of the words where none is the word
abbrev pub place : List ℕ → List (List ℕ) → ℕ
place word words = position_or_len (λ w. bytes_eq w word) words

here : (word x : List ℕ) (xs : List (List ℕ)) → bytes_eq x word ≡ true → place word (x ∷ xs) ≡ 0
here word x xs e = rw e refl

later : (word x : List ℕ) (xs : List (List ℕ)) → bytes_eq x word ≡ false → place word (x ∷ xs) ≡ suc (place word xs)
later word x xs e = rw e (omega arith)

one_more : (n k : ℕ) (t : Bool) → n ≤ k → cond (not t) (1 + n) 0 ≤ suc k
one_more n k true h = omega arith
one_more n k false h = omega arith

within : (word : List ℕ) (xs : List (List ℕ)) → place word xs ≤ length xs
within word [] = omega arith
within word (x ∷ xs) = one_more (place word xs) (length xs) (bytes_eq x word) (within word xs)

unwrapped : (n k : ℕ) → n ≤ k → unwrap_or (cond (ltb n k) (Some n) None) k ≡ n
unwrapped n k h = grind (arith, nat_tests)

pub as_place : (word : List ℕ) (words : List (List ℕ)) → place word words ≡ place_of_word word words
as_place word words = sym (unwrapped (place word words) (length words) (within word words))

pub at_word : (word x : List ℕ) (words : List (List ℕ)) (i : ℕ) → i < length words → x ≡ get_or words i x
    → i + place word (drop i words) ≡ place word words → bytes_eq x word ≡ true → i ≡ place_of_word word words
at_word word x words i lt is so_far e =
    let none : place word (drop i words) ≡ 0 = ap (place word) (next_item x words i lt is) ∙ here word x (drop (i + 1) words) e in
    let found : i ≡ place word words = omega (arith, so_far, none) in
    found ∙ as_place word words

pub past_word : (word x : List ℕ) (words : List (List ℕ)) (i : ℕ) → i < length words → x ≡ get_or words i x
    → i + place word (drop i words) ≡ place word words → bytes_eq x word ≡ false → (i + 1) + place word (drop (i + 1) words) ≡ place word words
past_word word x words i lt is so_far e =
    let more : place word (drop i words) ≡ suc (place word (drop (i + 1) words)) = ap (place word) (next_item x words i lt is) ∙ later word x (drop (i + 1) words) e in
    omega (arith, so_far, more)

pub no_word : (word : List ℕ) (words : List (List ℕ)) (i : ℕ) → length words ≤ i → i + place word (drop i words) ≡ place word words → i ≡ place_of_word word words
no_word word words i h so_far =
    let none : place word (drop i words) ≡ 0 = ap (place word) (nothing_behind words i h) in
    let found : i ≡ place word words = omega (arith, so_far, none) in
    found ∙ as_place word words
