-- What is left at vats at the end of a run, in lines.
use Rattle.std.specs.Prelude.{List, [], ◌∷◌, ◌++◌}
use Rattle.def_event.specs.declared.event.Event.{Event}
use Rattle.ev_resident.specs.declared.resident.Resident.{Resident}
use Rattle.ev_resident.specs.Closing.{left_lines}

-- of one vat, by the names that it has
abbrev pub left_of : Resident → List Event
left_of r = left_lines r.names.naming r.member.vat.host.inside.refs

-- of one vat after the other
unfoldable pub all_left : List Resident → List Event
all_left [] = []
all_left (r ∷ rs) = left_of r ++ all_left rs
