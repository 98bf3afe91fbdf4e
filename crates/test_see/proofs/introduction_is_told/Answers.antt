use Rattle.std.proofs.Common.{refl}
use Rattle.test_see.specs.Introduction.{opened_introduction}
use Rattle.test_see.proofs.introduction_is_told.Goals as goal

pub returns-clause-whole : goal.returns-clause-whole
unfolding opened_introduction
returns-clause-whole c = (refl, refl)

pub returns-clause-middle : goal.returns-clause-middle
unfolding opened_introduction
returns-clause-middle c = (refl, refl)
