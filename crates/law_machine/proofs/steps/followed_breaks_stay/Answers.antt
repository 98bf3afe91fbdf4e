use Rattle.law_machine.proofs.Machine.BreakLaws.{followed_break_stays}
use Rattle.law_machine.proofs.steps.followed_breaks_stay.Goals as goal

pub returns : goal.returns
returns c = (λ K step s. followed_break_stays K step s, λ K step s. followed_break_stays K step s)
