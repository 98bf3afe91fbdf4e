use Rattle.std.proofs.Common.{◌≡◌, Some, length}
use Rattle.std.specs.Prelude.{slice_get}
use Rattle.ev_frames.proofs.Auditing.{auditors_next}
use Rattle.ev_frames.proofs.audits.object_on.Goals as goal

pub returns-in_ok-again-in-Some-clause-rest : goal.returns-in_ok-again-in-Some-clause-rest
returns-in_ok-again-in-Some-clause-rest c =
    let a = c.as_slice.ensures in
    let n = c.len.ensures in
    let s = c.in-Some.ensures in
    let at : slice_get c.args.auditors (length c.args.so_far) ≡ Some c.in-Some.part = cc in
    auditors_next c.args.program.now c.args.depth c.args.mark c.args.frames.now c.args.here.now c.args.room.now c.requires.mark c.requires.nested
    c.again.new.frames c.args.id c.args.pattern c.in-Some.part c.args.auditors c.args.so_far at c.in_ok-again-in-Some.ensures.pushed
