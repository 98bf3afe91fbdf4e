-- Parts of a JSON value: members by name, texts, lists of values, and a function that must answer for each item of a list.
use Rattle.std.specs.Prelude.{ℕ, suc, ◌==◌, Bool, false, ◌&&◌, if◌then◌else◌, List, [], ◌∷◌, Some, None, is_some, option_map, option_and_then}
use Rattle.std.specs.List.{list_all}
use Rattle.std.specs.declared.option.Option.{Option}
use Rattle.std.specs.Str.{is_utf8}
use Rattle.serde_json.specs.Data.{Data, Items, no_items, item, Members, no_members, member}
use Rattle.serde_json.specs.Read.{read}
use Rattle.serde_json.specs.Find.{get, as_str, as_array, as_object}

infixl 10 ◌>>=◌
abbrev pub ◌>>=◌ : {A B : Type 0} → Option A → (A → Option B) → Option B
o >>= f = option_and_then f o

-- the JSON value of the bytes, where they are text in UTF-8 that spells one
unfoldable pub json_of : List ℕ → Option Data
json_of bytes = if is_utf8 bytes then read bytes else None

abbrev pub member_count : Members → ℕ
member_count no_members = 0
member_count (member k d ms) = suc (member_count ms)

-- an object has as many members; the names of an object's members differ
abbrev pub has_count : ℕ → Option Members → Bool
has_count n None = false
has_count n (Some ms) = member_count ms == n

-- the value is an object with a member of each name, which has as many members
abbrev pub has_members : ℕ → List (List ℕ) → Data → Bool
has_members n names d = has_count n (as_object d) && list_all (λ name. is_some (get name d)) names

-- the items of a list, in order
abbrev pub listed : Items → List Data
listed no_items = []
listed (item d ds) = d ∷ listed ds

abbrev pub list_of : Data → Option (List Data)
list_of d = option_map listed (as_array d)

-- a member that is a text, or a list
abbrev pub text_at : List ℕ → Data → Option (List ℕ)
text_at name d = option_and_then as_str (get name d)

abbrev pub list_at : List ℕ → Data → Option (List Data)
list_at name d = option_and_then list_of (get name d)

-- what a function answers for each item in order, where it answers for all
abbrev pub each : {A B : Type 0} → (A → Option B) → List A → Option (List B)
each f [] = Some []
each f (x ∷ xs) = do
  y ← f x
  ys ← each f xs
  Some (y ∷ ys)
