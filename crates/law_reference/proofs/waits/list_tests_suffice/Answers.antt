use Rattle.law_reference.proofs.Reference.ListChains.{list_tests_suffice}
use Rattle.law_reference.proofs.waits.list_tests_suffice.Goals as goal

pub returns : goal.returns
returns c = list_tests_suffice
