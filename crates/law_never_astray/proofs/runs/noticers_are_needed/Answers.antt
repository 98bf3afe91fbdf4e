use Rattle.law_never_astray.proofs.Needed.{noticers_are_needed}
use Rattle.law_never_astray.proofs.runs.noticers_are_needed.Goals as goal

pub returns : goal.returns
returns c = noticers_are_needed
