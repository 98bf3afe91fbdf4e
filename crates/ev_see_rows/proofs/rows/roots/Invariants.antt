-- the rows so far
use Rattle.std.proofs.Common.{◌≡◌, ◌∷◌, take, map, filter, codes}
use Rattle.def_see.specs.Words.{has, word}
use Rattle.def_see.specs.Rows.{outcome}
use Rattle.ev_see_rows.proofs.rows.roots.Given as goal

abbrev pub invariant-loop-line : goal.invariant-loop-line
invariant-loop-line l = l.found ≡ map (λ k. outcome l.lines (64 ∷ word 1 k.words)) (filter (λ k. has 0 (codes "open") k.words) (take l.line-index l.lines))
