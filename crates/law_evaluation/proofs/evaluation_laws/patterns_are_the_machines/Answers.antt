use Rattle.law_evaluation.proofs.Evaluation.Statements.{patterns_met}
use Rattle.law_evaluation.proofs.evaluation_laws.patterns_are_the_machines.Goals as goal

pub returns : goal.returns
returns c = patterns_met
