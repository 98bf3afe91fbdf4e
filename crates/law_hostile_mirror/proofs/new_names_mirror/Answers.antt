use Rattle.law_hostile_mirror.proofs.Made.{new_names_mirror}
use Rattle.law_hostile_mirror.proofs.new_names_mirror.Goals as goal

pub returns : goal.returns
returns c = new_names_mirror
