use Rattle.law_reading.proofs.Sized.Small.{what_is_read_is_small}
use Rattle.law_reading.proofs.what_is_read_is_small.Goals as goal

pub returns : goal.returns
returns c = what_is_read_is_small
