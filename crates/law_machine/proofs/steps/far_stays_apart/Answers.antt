use Rattle.law_machine.proofs.Machine.BreakLaws.{apart_stays}
use Rattle.law_machine.proofs.steps.far_stays_apart.Goals as goal

pub returns : goal.returns
returns c = λ word step s a. apart_stays word step s a
