-- the parts so far, and then the others, are all
use Rattle.std.proofs.Common.{◌≡◌, ◌++◌, ◌∷◌, drop}
use Rattle.std.specs.List.{flat_map}
use Rattle.ev_make_text.proofs.bodies.push_parts.Given as goal

abbrev pub invariant-loop-part : goal.invariant-loop-part
invariant-loop-part l = l.out ++ flat_map (λ part. 10 ∷ part) (drop l.part-index l.parts) ≡ l.fn.out ++ flat_map (λ part. 10 ∷ part) l.parts
