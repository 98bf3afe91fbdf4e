use Rattle.law_machine.proofs.Machine.BreakLaws.{severing_stays}
use Rattle.law_machine.proofs.steps.severings_stay.Goals as goal

pub returns : goal.returns
returns c = (λ K step s. severing_stays K step s, λ K step s. severing_stays K step s)
