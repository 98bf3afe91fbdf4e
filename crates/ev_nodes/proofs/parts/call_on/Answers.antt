use Rattle.std.proofs.Common.{◌≡◌, Some, length}
use Rattle.std.specs.Prelude.{slice_get}
use Rattle.ev_nodes.proofs.Ending.{args_on}
use Rattle.ev_nodes.proofs.parts.call_on.Goals as goal

pub returns-in_ok-again-in-Some-clause-rest : goal.returns-in_ok-again-in-Some-clause-rest
returns-in_ok-again-in-Some-clause-rest c =
    let n = c.len.ensures in
    let s = c.in-Some.ensures in
    let at : slice_get c.args.args.now (length c.args.so_far) ≡ Some c.in-Some.part = cc in
    args_on c.args.program.now c.args.depth c.args.mark c.args.frames.now c.args.here.now c.args.room.now c.requires.mark c.requires.nested
    c.again.new.frames c.args.id c.in-Some.part c.args.receiver c.args.verb.now c.args.so_far c.args.args.now c.requires.verb c.requires.args at c.in_ok-again-in-Some.ensures.pushed
