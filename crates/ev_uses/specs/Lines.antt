-- What lines have with the messages that they speak of.
use Rattle.std.specs.Prelude.{◌⊎◌, ◌↔◌, List, [], ◌∷◌, ◌++◌, map, Option, Some, None}
use Rattle.ev_base.specs.declared.names.Msg.{Msg}
use Rattle.def_event.specs.declared.note.ShownNote.{ShownNote}
use Rattle.def_event.specs.declared.note.ShownNote.TheVariants.{Deliver, DeliverOnly}
use Rattle.def_event.specs.declared.event.Event.{Event}
use Rattle.def_event.specs.declared.event.Event.TheVariants.{Carry, Send, SendOnly, When}
use Rattle.def_event.specs.Uses.{AName, IsAmong, Thing, all_parts, delivered, parts}
use Rattle.ev_links.specs.declared.label.Label.{Label}
use Rattle.ev_links.specs.Label.{label}

-- the labels of these things are added, as a set
pub record AddsThings (ts : List Thing) (old new : List Label) : Type 0 where
  pub each : (l : Label) → IsAmong l new ↔ (IsAmong l old ⊎ IsAmong l (map label ts))

abbrev pub message_of : Option (Msg × List Thing) → Option Msg
message_of None = None
message_of (Some d) = Some d.0

abbrev pub things_with : Option (Msg × List Thing) → List Thing
things_with None = []
things_with (Some d) = d.1

unfoldable pub given_by : ShownNote → Option (Msg × List Thing)
given_by (Deliver m target verb args) = Some (m, all_parts args)
given_by (DeliverOnly m target verb args) = Some (m, all_parts args)
given_by _ = None

-- what a line carries with its message
unfoldable pub carries : Event → Option (Msg × List Thing)
carries (Carry k v w note) = given_by note
carries _ = None

-- what it sends with its message
unfoldable pub sends : Event → Option (Msg × List Thing)
sends (Send s) = Some (s.message, all_parts s.args)
sends (SendOnly s) = Some (s.message, all_parts s.args)
sends (When w) = Some (w.message, parts w.value)
sends _ = None

-- all that it has of its message, where it sends or carries it
unfoldable pub holds : Event → Option (Msg × List Thing)
holds (Send s) = Some (s.message, parts s.target ++ all_parts s.args ++ AName s.answer ∷ [])
holds (SendOnly s) = Some (s.message, parts s.target ++ all_parts s.args)
holds (Carry k v w note) = delivered note
holds _ = None
