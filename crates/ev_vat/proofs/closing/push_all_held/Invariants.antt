use Rattle.std.proofs.Common.{◌≡◌, ◌++◌, drop, zero}
use Rattle.ev_vat.specs.Closing.{held_lines}
use Rattle.ev_vat.proofs.closing.push_all_held.Given as goal

-- the lines so far, and then those of the other names, are the lines of all
abbrev pub invariant-loop-number : goal.invariant-loop-number
invariant-loop-number l = l.history ++ held_lines l.table l.number (drop l.number l.known) ≡ l.fn.history ++ held_lines l.table zero l.known
