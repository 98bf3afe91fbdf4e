use Rattle.law_reference.proofs.Reference.Closing.{tests_suffice}
use Rattle.law_reference.proofs.waits.cycle_tests_suffice.Goals as goal

pub returns : goal.returns
returns c = tests_suffice
