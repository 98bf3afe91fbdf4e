use Rattle.ev_sturdy.proofs.Reached.{references_are_to_registered as law}
use Rattle.ev_sturdy.proofs.text_laws.references_are_to_registered.Goals as goal

pub returns : goal.returns
returns c = law
