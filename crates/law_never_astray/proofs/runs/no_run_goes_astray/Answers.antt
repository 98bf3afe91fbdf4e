use Rattle.law_never_astray.proofs.Final.{never_astray}
use Rattle.law_never_astray.proofs.runs.no_run_goes_astray.Goals as goal

pub returns : goal.returns
returns c = never_astray
