use Rattle.law_evaluation.proofs.Evaluation.Statements.{messages_met}
use Rattle.law_evaluation.proofs.evaluation_laws.messages_are_the_machines.Goals as goal

pub returns : goal.returns
returns c = messages_met
