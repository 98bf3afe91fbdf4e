use Rattle.law_machine.proofs.Machine.BreakLaws.{settled_break_stays}
use Rattle.law_machine.proofs.steps.settled_breaks_stay.Goals as goal

pub returns : goal.returns
returns c = (λ K step s. settled_break_stays K step s, λ K step s. settled_break_stays K step s)
