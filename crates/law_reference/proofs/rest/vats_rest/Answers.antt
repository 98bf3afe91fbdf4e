use Rattle.law_reference.proofs.Reference.RestLaws.{vats_rest}
use Rattle.law_reference.proofs.rest.vats_rest.Goals as goal

pub returns : goal.returns
returns c = vats_rest
