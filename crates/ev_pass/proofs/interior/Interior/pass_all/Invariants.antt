use Rattle.std.proofs.Common.{◌≡◌, drop}
use Rattle.ev_pass.specs.Notes.{all_parcels}
use Rattle.ev_pass.specs.Passing.{pass, packs}
use Rattle.ev_pass.proofs.Packs.{with_front}
use Rattle.ev_pass.proofs.interior.Interior.pass_all.Given as goal

-- what has passed, and then the rest, is all of it
abbrev pub invariant-loop-value : goal.invariant-loop-value
invariant-loop-value l = with_front (all_parcels l.parts.items) (packs (pass l.to) (drop l.value-index l.values) l.self) ≡ packs (pass l.to) l.values l.initial.self
