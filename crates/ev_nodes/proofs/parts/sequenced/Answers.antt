use Rattle.std.proofs.Common.{◌≡◌, Some}
use Rattle.std.specs.Prelude.{slice_get}
use Rattle.ev_nodes.proofs.Ending.{sequence_on}
use Rattle.ev_nodes.proofs.parts.sequenced.Goals as goal

pub returns-in_ok-again-in-Some-clause-rest : goal.returns-in_ok-again-in-Some-clause-rest
returns-in_ok-again-in-Some-clause-rest c =
    let s = c.in-Some.ensures in
    let at : slice_get c.args.parts.now c.args.begun ≡ Some c.in-Some.part = cc in
    sequence_on c.args.program.now c.args.depth c.args.mark c.args.frames.now c.args.here.now c.args.room.now c.requires.mark c.requires.nested
    c.again.new.frames c.args.id c.args.begun c.in-Some.part c.args.parts.now c.args.value c.requires.node at c.in_ok-again-in-Some.ensures.pushed
