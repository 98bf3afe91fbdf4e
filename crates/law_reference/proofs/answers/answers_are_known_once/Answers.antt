use Rattle.law_reference.proofs.Reference.OnceLaws.{answers_are_known_once}
use Rattle.law_reference.proofs.answers.answers_are_known_once.Goals as goal

pub returns : goal.returns
returns c = answers_are_known_once
