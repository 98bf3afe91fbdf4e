use Rattle.law_frame.proofs.Frame.Answered.{no_told_answer}
use Rattle.law_frame.proofs.numbers.no_told_answer_is_asked_for.Goals as goal

pub returns : goal.returns
returns c = no_told_answer
