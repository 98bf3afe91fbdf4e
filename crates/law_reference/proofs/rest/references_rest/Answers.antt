use Rattle.law_reference.proofs.Reference.RestLaws.{references_rest}
use Rattle.law_reference.proofs.rest.references_rest.Goals as goal

pub returns : goal.returns
returns c = references_rest
