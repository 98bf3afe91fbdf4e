use Rattle.law_evaluation.proofs.Arrivals.Machine.{arrives}
use Rattle.law_evaluation.proofs.arrival_laws.arrives_in_the_vat.Goals as goal

pub returns : goal.returns
returns c = λ w more h n x there from note sound fits front key. arrives w more h n x there from note sound fits front key
