-- A table of texts.
use Rattle.std.specs.Prelude.{◌≡◌, ℕ, ◌<◌, List, [], get_or, length, take}

-- the text at a place
abbrev pub text_at : List (List ℕ) → ℕ → List ℕ
text_at us n = get_or us n []

-- the text stands at that place
abbrev pub IsTextAt : List (List ℕ) → ℕ → List ℕ → Type 0
IsTextAt us n v = (n < length us) × (text_at us n ≡ v)

-- what stood there stands there still, and more may stand behind it
abbrev pub Begins : {A : Type 0} → List A → List A → Type 0
Begins xs ys = take (length xs) ys ≡ xs
