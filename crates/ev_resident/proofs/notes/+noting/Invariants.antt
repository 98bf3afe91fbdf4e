use Rattle.std.proofs.Common.{◌≡◌, ◌++◌, drop}
use Rattle.ev_resident.proofs.Passing.{each_shown}
use Rattle.ev_resident.proofs.notes.+noting.Given as goal

-- what was shown, and then the rest, is all of it
abbrev pub invariant-shown_all-loop-part : goal.invariant-shown_all-loop-part
invariant-shown_all-loop-part l = l.all ++ each_shown l.noting (drop l.part-index l.passed) ≡ each_shown l.noting l.passed
