use Rattle.law_never_astray.proofs.Finds.{nouns_are_found}
use Rattle.law_never_astray.proofs.covered.nouns_are_found.Goals as goal

pub returns : goal.returns
returns c = nouns_are_found
