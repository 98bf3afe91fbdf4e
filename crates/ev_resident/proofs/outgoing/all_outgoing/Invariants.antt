-- The frames so far are those of what was sent so far.
use Rattle.std.proofs.Common.{◌≡◌, length, map}
use Rattle.ev_pass.specs.Notes.{sent}
use Rattle.ev_resident.specs.Framing.{all_outgoing}
use Rattle.ev_resident.proofs.outgoing.all_outgoing.Given as goal

abbrev pub invariant-loop-sending : goal.invariant-loop-sending
invariant-loop-sending l = (l.out.items ≡ all_outgoing l.noting l.yielded (map sent l.puts)) × (l.index ≡ length l.yielded)
