use Rattle.law_evaluation.proofs.Arrivals.Machine.{receives}
use Rattle.law_evaluation.proofs.arrival_laws.receives_in_the_vat.Goals as goal

pub returns : goal.returns
returns c = λ w more h n x there sight from see note sound fits sees front key. receives w more h n x there sight from see note sound fits sees front key
