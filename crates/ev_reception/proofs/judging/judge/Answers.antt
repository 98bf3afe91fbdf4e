use Rattle.ev_reception.proofs.Judged.{judged}
use Rattle.ev_reception.proofs.judging.judge.Goals as goal

pub returns : goal.returns
returns c = λ m is. judged m c.args.member.now is c.args.from c.args.vats c.args.frame.now c.judged_on.result c.judged_on.ensures
