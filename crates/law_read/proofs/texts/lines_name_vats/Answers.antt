use Rattle.law_read.proofs.ReadTexts.FewFound.{lines_name}
use Rattle.law_read.proofs.texts.lines_name_vats.Goals as goal

pub returns : goal.returns
returns c = lines_name
