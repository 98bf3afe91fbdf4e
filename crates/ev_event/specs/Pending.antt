-- What is left to print of lists in lists.
use Rattle.std.specs.Prelude.{ℕ, ◌+◌, Bool, true, false, List, [], ◌∷◌, ◌++◌, flat_map, Option, Some, None}
use denote.Ref.{Bor}
use Rattle.def_event.specs.declared.shown.Shown.{Shown, Members', Row_of-Shown, end_of-Shown, more_of-Shown}
use Rattle.def_event.specs.Lines.{value, values, spaced}

-- how much there is to print: each value counts one, and a list two more than its members and one for each of them
abbrev mutual
  pub weight : Shown → ℕ
  weight (Members' _ row) = row_weight row + 2
  weight _ = 1

  pub row_weight : {n : _} → Row_of-Shown n → ℕ
  row_weight end_of-Shown = 0
  row_weight (more_of-Shown x rest) = row_weight rest + weight x + 1

abbrev pub weights : List Shown → ℕ
weights [] = 0
weights (x ∷ xs) = weights xs + weight x + 1

-- the same of a value that may be there, and of the lists that are open
abbrev pub next_weight : Option (Bor Shown) → ℕ
next_weight None = 0
next_weight (Some x) = weight x.now

abbrev pub open_weight : List (Bor (List Shown)) → ℕ
open_weight [] = 0
open_weight (rest ∷ lists) = open_weight lists + weights rest.now + 1

-- the bracket of a list in a note, and the whole of any other value
abbrev pub front : List (List ℕ) → Shown → List ℕ
front vats (Members' _ row) = 91 ∷ []
front vats x = value vats x

-- what stands before a member, where another stands before it or not
abbrev pub separator : Bool → List ℕ
separator true = 32 ∷ []
separator false = []

module _ (vats : List (List ℕ)) where
  -- the members behind one of a list, and its bracket
  abbrev pub rest_text : List Shown → List ℕ
  rest_text xs = flat_map (λ v. 32 ∷ v) (values vats xs) ++ 93 ∷ []

  -- the members behind its first bracket
  abbrev pub members_text : List Shown → List ℕ
  members_text xs = spaced (values vats xs) ++ 93 ∷ []

  -- the members of a list, whether or not one stands before them
  abbrev pub list_text : Bool → List Shown → List ℕ
  list_text true xs = rest_text xs
  list_text false xs = members_text xs

  abbrev pub next_text : Option (Bor Shown) → List ℕ
  next_text None = []
  next_text (Some x) = value vats x.now

  -- what is left of the lists that are open, of which the last is the innermost
  abbrev pub open_text : List (Bor (List Shown)) → List ℕ
  open_text [] = []
  open_text (rest ∷ lists) = open_text lists ++ rest_text rest.now
