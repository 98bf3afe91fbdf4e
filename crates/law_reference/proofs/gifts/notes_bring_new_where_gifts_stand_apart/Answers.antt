use Rattle.law_reference.proofs.Reference.GiftApart.{new_where_apart}
use Rattle.law_reference.proofs.gifts.notes_bring_new_where_gifts_stand_apart.Goals as goal

pub returns : goal.returns
returns c = new_where_apart
