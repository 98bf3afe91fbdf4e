-- What a history has for each message, by a table of places.
use Rattle.std.specs.Prelude.{◌≡◌, ℕ, List, [], map, Option, Some, None, slice_get}
use Rattle.ev_base.specs.declared.names.Msg.{Msg}
use Rattle.def_event.specs.declared.event.Event.{Event}
use Rattle.def_event.specs.Uses.{Line, Thing, carried_with, first_of, had, last_of, sent_with}
use Rattle.ev_uses.specs.declared.sources.Sources.{Sources}
use Rattle.ev_uses.specs.Places.{Table, place_in}
use Rattle.ev_uses.specs.Lines.{carries, holds, sends, things_with}

abbrev pub Having : Type 0
Having = Event → Option (Msg × List Thing)

abbrev pub things_by : Having → Option Event → List Thing
things_by of None = []
things_by of (Some e) = things_with (of e)

-- what the line at a place has
unfoldable pub things_at : Having → List Event → ℕ → List Thing
things_at of es i = things_by of (slice_get es i)

abbrev pub found_at : Having → List Event → Option ℕ → Option (List Thing)
found_at of es None = None
found_at of es (Some i) = Some (things_at of es i)

-- the lines at the places of the table have what is to be found for the messages
pub record Finds (of : Having) (es : List Event) (table : Table) (found : Msg → Option (List Thing)) : Type 0 where
  pub each : (m : Msg) → found_at of es (place_in table m) ≡ found m

-- they find what these lines carry last and send first with each message
pub record SourcesStand (es : List Event) (tables : Sources) (lines : List Event) : Type 0 where
  pub carried : Finds carries es tables.carried (λ m. last_of (carried_with m) lines)
  pub sent : Finds sends es tables.sent (λ m. first_of (sent_with m) lines)

-- it finds what the last line so far has of each message
abbrev pub FindsBefore : List Event → Table → List Line → Type 0
FindsBefore es table past = Finds holds es table (λ m. first_of (had m) (map (λ l. l.event) past))
