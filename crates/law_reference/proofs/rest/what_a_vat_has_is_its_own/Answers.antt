use Rattle.law_reference.proofs.Reference.OwnRuns.{own_in_runs}
use Rattle.law_reference.proofs.rest.what_a_vat_has_is_its_own.Goals as goal

pub returns : goal.returns
returns c = own_in_runs
