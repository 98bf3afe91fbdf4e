use Rattle.law_machine.specs.Run.Moves.{Nobody, AnyNotice}
use Rattle.law_machine.proofs.Run.Told.{moves_told}
use Rattle.law_machine.proofs.moves.honest_moves_are_told.Goals as goal

pub returns : goal.returns
returns c = λ script w y m. moves_told script Nobody AnyNotice (λ w v s d. ⊥) (λ w v u s n. ⊥) w y m
