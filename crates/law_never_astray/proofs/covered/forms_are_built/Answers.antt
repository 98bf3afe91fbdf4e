use Rattle.law_never_astray.proofs.Finds.{forms_are_built}
use Rattle.law_never_astray.proofs.covered.forms_are_built.Goals as goal

pub returns : goal.returns
returns c = forms_are_built
