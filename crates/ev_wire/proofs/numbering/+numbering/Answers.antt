use Rattle.ev_wire.proofs.Loops.{numbers_done, numbers_on}
use Rattle.ev_wire.specs.Writing.{numbered_parcels}
use Rattle.ev_pass.specs.Notes.{all_parcels}
use Rattle.ev_wire.proofs.numbering.+numbering.Goals as goal

pub number_all-loop-part-preserved : goal.number_all-loop-part-preserved
number_all-loop-part-preserved t c =
    numbers_on c.args.inside.now.refs c.args.passed.now c.loop-part.part-index c.part-item.result c.loop-part.connection c.number_passed.new.connection
    (numbered_parcels c.args.inside.now.refs (all_parcels c.args.passed.now) c.args.connection.now) c.loop-part-test.true c.part-item.is c.in_ok-number_passed.ensures c.loop-part.invariant

pub number_all-returns : goal.number_all-returns
number_all-returns t c =
    numbers_done c.args.inside.now.refs c.args.passed.now c.loop-part.part-index c.loop-part.connection (numbered_parcels c.args.inside.now.refs (all_parcels c.args.passed.now) c.args.connection.now) c.loop-part-test.false c.loop-part.invariant
