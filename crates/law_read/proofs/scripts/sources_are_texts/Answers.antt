use Rattle.law_read.proofs.ReadScripts.Sources.{sources_are_texts}
use Rattle.law_read.proofs.scripts.sources_are_texts.Goals as goal

pub returns : goal.returns
returns c = sources_are_texts
