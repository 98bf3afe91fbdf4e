use Rattle.law_frame.proofs.Local.ToldLaws.{lines_named}
use Rattle.law_frame.proofs.told.lines_name_answers.Goals as goal

pub returns : goal.returns
returns c = lines_named
