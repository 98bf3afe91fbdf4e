use Rattle.law_fate.proofs.Fates.Finding.{sends_find_places}
use Rattle.law_fate.proofs.fate.sends_find_places.Goals as goal

pub returns : goal.returns
returns c = sends_find_places
