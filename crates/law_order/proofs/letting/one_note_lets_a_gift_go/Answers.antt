use Rattle.law_order.proofs.Cuts.Reached.{one_note_lets_a_gift_go}
use Rattle.law_order.proofs.letting.one_note_lets_a_gift_go.Goals as goal

pub returns : goal.returns
returns c = one_note_lets_a_gift_go
