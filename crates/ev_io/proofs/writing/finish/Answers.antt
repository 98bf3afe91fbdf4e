use Rattle.std.proofs.Common.{refl, sym, take, drop, inr}
use Rattle.std.proofs.lemmas.List.{take-append-drop}
use Rattle.ev_io.proofs.writing.finish.Goals as goal

pub returns-in-Err-clause-text : goal.returns-in-Err-clause-text
returns-in-Err-clause-text g c =
    let n = c.in-Err.ensures.bytes.0 in
    (take n c.args.text.now, c.in-Err.ensures.bytes.1, inr (refl, (drop n c.args.text.now, sym (take-append-drop n c.args.text.now))))
