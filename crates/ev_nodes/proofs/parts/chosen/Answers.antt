use Rattle.std.proofs.Common.{◌≡◌, true, false}
use Rattle.ev_base.specs.declared.values.Value.TheVariants.{Bool}
use Rattle.ev_nodes.proofs.Ending.{yes_begins, no_begins}
use Rattle.ev_nodes.proofs.parts.chosen.Goals as goal

pub returns-in_ok-again-in-Bool-true-clause-rest : goal.returns-in_ok-again-in-Bool-true-clause-rest
returns-in_ok-again-in-Bool-true-clause-rest c =
    let i = c.in-Bool-true.is in
    let t = c.in-Bool-true.field-0-test in
    let v : c.args.value ≡ Bool true = cc in
    rw v (yes_begins c.args.program.now c.args.depth c.args.mark c.args.frames.now c.args.here.now c.args.room.now c.requires.mark c.requires.nested
    c.again.new.frames c.args.yes c.args.no c.in_ok-again-in-Bool-true.ensures.pushed)

pub returns-in_ok-again-in-Bool-false-clause-rest : goal.returns-in_ok-again-in-Bool-false-clause-rest
returns-in_ok-again-in-Bool-false-clause-rest c =
    let i = c.in-Bool-false.is in
    let t = c.in-Bool-false.field-0-test in
    let v : c.args.value ≡ Bool false = cc in
    rw v (no_begins c.args.program.now c.args.depth c.args.mark c.args.frames.now c.args.here.now c.args.room.now c.requires.mark c.requires.nested
    c.again-in-Bool-false.new.frames c.cut.new.here c.args.yes c.args.no c.cut.ensures c.in_ok-again-in-Bool-false.ensures.pushed)
