-- The last lines about things, in the terms of a table of their places.
use Rattle.std.specs.Prelude.{◌≡◌, ℕ, cond, List, Option, Some, None, slice_get}
use Rattle.std.specs.Map.{lookup}
use Rattle.def_event.specs.declared.event.Event.{Event}
use Rattle.def_event.specs.Uses.{Line}
use Rattle.def_why.specs.declared.mark.Mark.{Mark}
use Rattle.def_why.specs.contracts.mark.MarkPartialEq.TheImpl.{eq-value}
use Rattle.def_why.specs.Marks.{has_mark, last_about}

abbrev pub Table : Type 0
Table = List (Mark × ℕ)

-- the place of the last line about something
unfoldable pub place_in : Table → Mark → Option ℕ
place_in table m = lookup (eq-value.it m) table

-- a line at this place is about all these
pub record Puts (ms : List Mark) (i : ℕ) (old new : Table) : Type 0 where
  pub each : (m : Mark) → place_in new m ≡ cond (has_mark ms m) (Some i) (place_in old m)

abbrev pub event_at : List Event → Option ℕ → Option Event
event_at es None = None
event_at es (Some i) = slice_get es i

abbrev pub last_in : Table → List Event → Mark → Option Event
last_in table es m = event_at es (place_in table m)

-- it has the last of these lines about each thing
pub record Stands (table : Table) (es : List Event) (past : List Line) : Type 0 where
  pub each : (m : Mark) → last_in table es m ≡ last_about past m
