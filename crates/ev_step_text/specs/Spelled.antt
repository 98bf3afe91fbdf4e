-- What is known of the verbs of a log.
use Rattle.std.specs.Prelude.{◌≡◌, ℕ, Bool, List, Option, Some, slice_get}
use Rattle.def_text.specs.Keywords.{is_identifier}
use Rattle.ev_heap.specs.Verbs.{text_at}

-- where it is known of one whether it is an identifier, it is so
abbrev pub IsKnown : List (List ℕ) → List (Option Bool) → Type 0
IsKnown verbs known = (place : ℕ) (plain : Bool) → slice_get known place ≡ Some (Some plain) → plain ≡ is_identifier (text_at verbs place)
