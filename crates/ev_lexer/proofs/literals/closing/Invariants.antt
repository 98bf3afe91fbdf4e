-- the closing quote of what is left, behind what was passed, is that of the whole
use Rattle.std.proofs.Common.{◌-◌, ◌≡◌, ◌≤◌, ◌+◌, length, drop}
use Rattle.ev_lexer.specs.Pieces.{closing}
use Rattle.ev_lexer.proofs.Scanning.{shifted}
use Rattle.ev_lexer.proofs.literals.closing.Given as goal

abbrev pub invariant-loop-place : goal.invariant-loop-place
invariant-loop-place l = record {
  near : l.place ≤ length l.bytes + 1;
  found : shifted l.place (closing l.mark (drop l.place l.bytes)) ≡ closing l.mark l.bytes;
}

abbrev pub decreases-loop-place : goal.decreases-loop-place
decreases-loop-place l = length l.bytes - l.place
