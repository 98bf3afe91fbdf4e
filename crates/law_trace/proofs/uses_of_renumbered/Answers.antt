use Rattle.law_trace.proofs.UsesSeen.RenumberedAlike.{uses_of_renumbered}
use Rattle.law_trace.proofs.uses_of_renumbered.Goals as goal

pub returns : goal.returns
returns c = uses_of_renumbered
