use Rattle.ev_wire.specs.Taking.{imported_all}
use Rattle.ev_wire.proofs.Taken.{imports_done, imports_on}
use Rattle.ev_wire.proofs.taking.import_all.Goals as goal

pub loop-value-preserved : goal.loop-value-preserved
loop-value-preserved c =
    imports_on c.args.values.now c.loop-value.value-index c.value-item.result c.loop-value.connection c.import_next.new.connection (imported_all c.args.values.now c.args.connection.now) c.loop-value-test.true c.value-item.is c.in_ok-import_next.ensures c.loop-value.invariant

pub returns : goal.returns
returns c = imports_done c.args.values.now c.loop-value.value-index c.loop-value.connection (imported_all c.args.values.now c.args.connection.now) c.loop-value-test.false c.loop-value.invariant
