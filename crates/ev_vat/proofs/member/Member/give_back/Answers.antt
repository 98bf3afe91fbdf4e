use Rattle.ev_vat.proofs.Readies.{is_between}
use Rattle.ev_vat.proofs.member.Member.give_back.Goals as goal

pub returns-clause-member : goal.returns-clause-member
returns-clause-member c = λ m same is. is_between 0 _ m c.ready.new.self (c.ready.ensures.found m same is)
