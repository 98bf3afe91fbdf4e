use Rattle.std.proofs.Common.{sym, take, drop}
use Rattle.std.proofs.lemmas.List.{take-append-drop}
use Rattle.ev_world.proofs.writing.write_text.Goals as goal

pub returns-in-Err-clause-text : goal.returns-in-Err-clause-text
returns-in-Err-clause-text g c =
    let n = c.in-Err.ensures.bytes.0 in
    (take n c.args.text.now, c.in-Err.ensures.bytes.1, (drop n c.args.text.now, sym (take-append-drop n c.args.text.now)))
