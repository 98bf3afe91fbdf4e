use Rattle.law_read.proofs.ReadScripts.Vats.{vats_named}
use Rattle.law_read.proofs.scripts.accepted_vats_are_named.Goals as goal

pub returns : goal.returns
returns c = vats_named
