use Rattle.std.proofs.Common.{refl, take, inr}
use Rattle.ev_make_top.proofs.PayLemmas.{front}
use Rattle.ev_make_top.proofs.paying.end.Goals as goal

pub returns-in-Err : goal.returns-in-Err
returns-in-Err g c =
    let n = c.in-Err.ensures.bytes.0 in
    (take n c.args.text.now, c.in-Err.ensures.bytes.1, inr (refl, front n c.args.text.now))
