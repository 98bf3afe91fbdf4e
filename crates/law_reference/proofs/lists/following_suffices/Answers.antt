use Rattle.law_reference.proofs.Reference.ListLaws.{following_suffices}
use Rattle.law_reference.proofs.lists.following_suffices.Goals as goal

pub returns : goal.returns
returns c = following_suffices
