use Rattle.law_frame.proofs.local_laws.lawful_runs_are_steady.Goals as goal
use Rattle.law_frame.proofs.Steady.Anew.{lawful_steady}

pub returns : goal.returns
returns c = lawful_steady
