use Rattle.law_machine.proofs.Machine.BreakLaws.{notice_severs}
use Rattle.law_machine.proofs.steps.notices_sever.Goals as goal

pub returns : goal.returns
returns c = (λ K w s. notice_severs K w s, λ K w s. notice_severs K w s)
