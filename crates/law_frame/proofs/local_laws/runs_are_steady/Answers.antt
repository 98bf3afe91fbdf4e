use Rattle.law_frame.proofs.local_laws.runs_are_steady.Goals as goal
use Rattle.law_frame.proofs.Steady.Anew.{steady}

pub returns : goal.returns
returns c = steady
