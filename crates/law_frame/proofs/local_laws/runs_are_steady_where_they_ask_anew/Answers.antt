use Rattle.law_frame.proofs.local_laws.runs_are_steady_where_they_ask_anew.Goals as goal
use Rattle.law_frame.proofs.Steady.Steady.{runs_steady}

pub returns : goal.returns
returns c = runs_steady
