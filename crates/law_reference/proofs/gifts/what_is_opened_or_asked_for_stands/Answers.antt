use Rattle.law_reference.proofs.Reference.Standing.{what_is_opened_stands}
use Rattle.law_reference.proofs.gifts.what_is_opened_or_asked_for_stands.Goals as goal

pub returns : goal.returns
returns c = what_is_opened_stands
