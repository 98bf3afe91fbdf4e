use Rattle.law_frame.proofs.Local.ToldLaws.{names_told}
use Rattle.law_frame.proofs.told.each_new_name_is_told.Goals as goal

pub returns : goal.returns
returns c = names_told
