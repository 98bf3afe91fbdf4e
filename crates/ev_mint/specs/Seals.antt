-- Brands, and boxes that were sealed with them.
use Rattle.std.specs.Prelude.{ℕ, ◌+◌, ◌==◌, if◌then◌else◌, List, [], ◌∷◌, ◌++◌, slice_get, Some, None}
use Rattle.std.specs.declared.option.Option.{Option}
use Rattle.ev_base.specs.declared.values.Value.{Value}

pub record Made : Type 0 where
  -- how many brands were made
  pub brands : ℕ
  -- each box by the brand that it was sealed with and what it holds, in the order of making
  pub boxes : List (ℕ × Value)

abbrev pub none_made : Made
none_made = record { brands = 0; boxes = [] }

abbrev pub branded : Made → Made
branded made = record made { brands = made.brands + 1 }

abbrev pub sealed : ℕ → Value → Made → Made
sealed brand content made = record made { boxes = made.boxes ++ (brand, content) ∷ [] }

-- what a box gives to a brand
abbrev pub given_to : ℕ → Option (ℕ × Value) → Option Value
given_to brand None = None
given_to brand (Some box) = if box.0 == brand then Some box.1 else None

abbrev pub unsealed : ℕ → ℕ → Made → Option Value
unsealed brand number made = given_to brand (slice_get made.boxes number)
