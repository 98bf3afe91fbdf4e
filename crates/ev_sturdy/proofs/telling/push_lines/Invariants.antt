-- what was told so far, and what the other lines tell, is what all tell
use Rattle.std.proofs.Common.{◌≡◌, drop}
use Rattle.std.specs.Prelude.{string_bytes}
use Rattle.ev_sturdy.proofs.Turns.{IsSoFar}
use Rattle.ev_sturdy.proofs.telling.push_lines.Given as goal

abbrev pub invariant-loop-line : goal.invariant-loop-line
invariant-loop-line l = record {
  key : l.words.key ≡ l.fn.words.key;
  so_far : IsSoFar l.fn.words.key l.lines l.sturdy l.words.count (string_bytes l.out) (drop l.line-index l.lines);
}
