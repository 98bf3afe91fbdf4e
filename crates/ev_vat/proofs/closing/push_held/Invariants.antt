use Rattle.std.proofs.Common.{◌≡◌, ◌++◌, map, take}
use Rattle.ev_vat.specs.Closing.{held_line}
use Rattle.ev_vat.proofs.closing.push_held.Given as goal

abbrev pub invariant-loop-message : goal.invariant-loop-message
invariant-loop-message l = l.history ≡ l.fn.history ++ map (held_line l.table l.name) (take l.message-index l.held)
