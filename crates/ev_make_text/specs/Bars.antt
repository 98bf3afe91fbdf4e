-- A text that may be there, as a list of texts.
use Rattle.std.specs.Prelude.{ℕ, List, [], ◌∷◌, Some, None}
use Rattle.std.specs.declared.option.Option.{Option}

abbrev pub listed : {X : Type 0} → (X → List ℕ) → Option X → List (List ℕ)
listed now None = []
listed now (Some text) = now text ∷ []
