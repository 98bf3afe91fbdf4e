-- the first bad escape of what is left, behind what was passed, is that of the whole
use Rattle.std.proofs.Common.{◌-◌, ◌≡◌, ◌≤◌, ◌+◌, length, drop}
use Rattle.ev_lexer.specs.Pieces.{bad_escape}
use Rattle.ev_lexer.proofs.Scanning.{shifted}
use Rattle.ev_lexer.proofs.literals.bad_escape.Given as goal

abbrev pub invariant-loop-place : goal.invariant-loop-place
invariant-loop-place l = record {
  near : l.place ≤ length l.bytes + 5;
  found : shifted l.place (bad_escape 0 (drop l.place l.bytes)) ≡ bad_escape 0 l.bytes;
}

abbrev pub decreases-loop-place : goal.decreases-loop-place
decreases-loop-place l = length l.bytes - l.place
