use Rattle.std.proofs.Common.{◌≡◌, ◌++◌, map, take}
use Rattle.ev_vat.specs.Closing.{wait_line}
use Rattle.ev_vat.proofs.closing.push_waits.Given as goal

abbrev pub invariant-loop-message : goal.invariant-loop-message
invariant-loop-message l = l.history ≡ l.fn.history ++ map (wait_line l.table l.name) (take l.message-index l.reactions)
