-- the copies so far, and the other parts, are all
use Rattle.std.proofs.Common.{◌≡◌, ◌++◌, map, drop}
use Rattle.ev_make_text.proofs.lines.copies.Given as goal

abbrev pub invariant-loop-part : goal.invariant-loop-part
invariant-loop-part l = l.copies ++ map (λ part. part.now) (drop l.part-index l.parts) ≡ map (λ part. part.now) l.parts
