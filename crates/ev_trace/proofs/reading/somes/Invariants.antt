-- the events so far
use Rattle.std.proofs.Common.{◌≡◌}
use Rattle.ev_trace.specs.Reading.{somes}
use Rattle.ev_trace.proofs.reading.somes.Given as goal

abbrev pub invariant-loop-event : goal.invariant-loop-event
invariant-loop-event l = l.events ≡ somes l.yielded
