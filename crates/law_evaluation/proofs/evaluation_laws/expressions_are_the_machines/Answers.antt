use Rattle.law_evaluation.proofs.Evaluation.Statements.{expressions_met}
use Rattle.law_evaluation.proofs.evaluation_laws.expressions_are_the_machines.Goals as goal

pub returns : goal.returns
returns c = expressions_met
