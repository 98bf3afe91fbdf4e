use Rattle.law_machine.proofs.Machine.BreakLaws.{object_break_stays}
use Rattle.law_machine.proofs.steps.severed_objects_stay.Goals as goal

pub returns : goal.returns
returns c = (λ K step s. object_break_stays K step s, λ K step s. object_break_stays K step s)
