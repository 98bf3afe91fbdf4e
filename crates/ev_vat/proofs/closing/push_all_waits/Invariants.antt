use Rattle.std.proofs.Common.{◌≡◌, ◌++◌, drop, zero}
use Rattle.ev_vat.specs.Closing.{wait_lines}
use Rattle.ev_vat.proofs.closing.push_all_waits.Given as goal

-- the lines so far, and then those of the other names, are the lines of all
abbrev pub invariant-loop-number : goal.invariant-loop-number
invariant-loop-number l = l.history ++ wait_lines l.table l.number (drop l.number l.known) ≡ l.fn.history ++ wait_lines l.table zero l.known
