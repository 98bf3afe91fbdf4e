use Rattle.law_never_astray.proofs.Ejections.{ejections_awaited}
use Rattle.law_never_astray.proofs.astray.ejections_are_awaited.Goals as goal

pub returns : goal.returns
returns c = ejections_awaited
