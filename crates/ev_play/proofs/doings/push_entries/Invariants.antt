-- the entries so far are appended
use Rattle.std.proofs.Common.{◌≡◌, ◌++◌, map, take}
use Rattle.ev_play.specs.declared.play.Doing.TheVariants.{Does}
use Rattle.ev_play.proofs.doings.push_entries.Given as goal

abbrev pub invariant-loop-entry : goal.invariant-loop-entry
invariant-loop-entry l = l.out.items ≡ l.fn.out.items ++ map Does (take l.entry-index l.entries)
