use Rattle.law_read.proofs.ReadTexts.FewFound.{only_vats}
use Rattle.law_read.proofs.texts.only_vats_are_found.Goals as goal

pub returns : goal.returns
returns c = only_vats
