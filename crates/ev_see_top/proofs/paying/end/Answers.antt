use Rattle.std.proofs.Common.{refl, take, inr}
use Rattle.ev_see_top.proofs.PayLemmas.{front}
use Rattle.ev_see_top.proofs.paying.end.Goals as goal

pub returns-in-Err-clause-text : goal.returns-in-Err-clause-text
returns-in-Err-clause-text g c =
    let n = c.in-Err.ensures.bytes.0 in
    (take n c.args.text.now, c.in-Err.ensures.bytes.1, inr (refl, front n c.args.text.now))

pub returns-in-Err-clause-fault : goal.returns-in-Err-clause-fault
returns-in-Err-clause-fault g c = inr (refl, c.in-Err.ensures.cause.failed)
