-- What is due of what comes next is what was due at first.
use Rattle.std.proofs.Common.{◌≡◌}
use Rattle.ev_frames.specs.Rest.{Nested, due_of}
use Rattle.ev_nodes.proofs.machine.run.Given as goal

abbrev pub invariant-loop : goal.invariant-loop
invariant-loop l = record {
  due : due_of l.program l.now l.frames l.here l.room ≡ due_of l.program l.fn.first l.fn.frames l.fn.here l.fn.room;
  nested : Nested l.frames l.here;
}
