use Rattle.law_frame.proofs.Local.Named.{states_are_named}
use Rattle.law_frame.proofs.parts.states_are_named.Goals as goal

pub returns : goal.returns
returns c = states_are_named
