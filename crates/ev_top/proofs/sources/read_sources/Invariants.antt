-- the sources so far are read
use Rattle.std.proofs.Common.{take}
use Rattle.ev_top.specs.Programs.{AreRead}
use Rattle.ev_top.proofs.sources.read_sources.Given as goal

abbrev pub invariant-loop-vat : goal.invariant-loop-vat
invariant-loop-vat l = AreRead l.vats (take l.vat-index l.vats) l.programs.items
