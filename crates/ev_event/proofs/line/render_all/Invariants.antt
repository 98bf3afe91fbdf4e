-- the text, and the lines of the events that are left, are all lines
use Rattle.std.proofs.Common.{◌≡◌, ◌++◌, drop, string_bytes}
use Rattle.def_event.specs.Lines.{render}
use Rattle.ev_event.proofs.line.render_all.Given as goal

abbrev pub invariant-loop-event : goal.invariant-loop-event
invariant-loop-event l = string_bytes l.text ++ render l.names (drop l.event-index l.events) ≡ render l.names l.events
