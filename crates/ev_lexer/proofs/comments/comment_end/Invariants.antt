-- the end of what is left of a comment, behind what was passed, is the end of the whole
use Rattle.std.proofs.Common.{◌-◌, ◌≡◌, ◌≤◌, length, drop}
use Rattle.ev_lexer.specs.Pieces.{comment_end}
use Rattle.ev_lexer.proofs.Scanning.{shifted}
use Rattle.ev_lexer.proofs.comments.comment_end.Given as goal

abbrev pub invariant-loop-place : goal.invariant-loop-place
invariant-loop-place l = record {
  near : l.place ≤ length l.bytes;
  found : shifted l.place (comment_end (drop l.place l.bytes)) ≡ comment_end l.bytes;
}

abbrev pub decreases-loop-place : goal.decreases-loop-place
decreases-loop-place l = length l.bytes - l.place
