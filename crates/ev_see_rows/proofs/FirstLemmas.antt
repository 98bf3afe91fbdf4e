-- The first of numbers that passes a test, number by number.
use Rattle.std.proofs.Common.{◌≡◌, ◌<◌, ◌≤◌, ◌+◌, ℕ, Bool, true, false, List, ◌∷◌, Option, Some, None, length, get_or, drop, refl, sym, ◌∙◌, ap}
use Rattle.std.proofs.lemmas.List.{get_or_default}
use Rattle.ev_script.proofs.EachLemmas.{next_item, nothing_behind}
use Rattle.def_see.specs.Rows.{first_of}

skipped : (p : ℕ → Bool) (x : ℕ) (xs : List ℕ) → p x ≡ false → first_of p (x ∷ xs) ≡ first_of p xs
skipped p x xs fails = rw fails refl

taken : (p : ℕ → Bool) (x : ℕ) (xs : List ℕ) → p x ≡ true → first_of p (x ∷ xs) ≡ Some x
taken p x xs holds = rw holds refl

-- one that does not pass is left out
pub passes : (p : ℕ → Bool) (xs : List ℕ) (i : ℕ) (whole : Option ℕ) → i < length xs → p (get_or xs i 0) ≡ false
    → first_of p (drop i xs) ≡ whole → first_of p (drop (i + 1) xs) ≡ whole
passes p xs i whole lt fails so_far =
    sym (skipped p (get_or xs i 0) (drop (i + 1) xs) fails)
    ∙ ap (first_of p) (sym (next_item (get_or xs i 0) xs i lt (get_or_default xs i 0 (get_or xs i 0) lt))) ∙ so_far

-- one that passes is the first
pub found : (p : ℕ → Bool) (xs : List ℕ) (i : ℕ) (whole : Option ℕ) → i < length xs → p (get_or xs i 0) ≡ true
    → first_of p (drop i xs) ≡ whole → Some (get_or xs i 0) ≡ whole
found p xs i whole lt holds so_far =
    sym (taken p (get_or xs i 0) (drop (i + 1) xs) holds)
    ∙ ap (first_of p) (sym (next_item (get_or xs i 0) xs i lt (get_or_default xs i 0 (get_or xs i 0) lt))) ∙ so_far

-- none passes
pub none_left : (p : ℕ → Bool) (xs : List ℕ) (i : ℕ) (whole : Option ℕ) → length xs ≤ i → first_of p (drop i xs) ≡ whole → None ≡ whole
none_left p xs i whole past so_far = ap (first_of p) (sym (nothing_behind xs i past)) ∙ so_far
