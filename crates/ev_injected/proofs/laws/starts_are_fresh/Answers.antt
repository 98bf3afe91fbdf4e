use Rattle.ev_injected.proofs.Starts.{starts_are_fresh}
use Rattle.ev_injected.proofs.laws.starts_are_fresh.Goals as goal

pub returns : goal.returns
returns c = starts_are_fresh
