use Rattle.law_machine.proofs.Machine.NoticeLaws.{notice_breaks}
use Rattle.law_machine.proofs.steps.notices_break.Goals as goal

pub returns : goal.returns
returns c = (λ K w s t e i. notice_breaks K w s t e i, λ K w s t e i. notice_breaks K w s t e i)
