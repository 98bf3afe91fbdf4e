use Rattle.ev_resident.specs.Brought.{exported_name}
use Rattle.ev_resident.proofs.Brought.{imports_done, imports_on}
use Rattle.ev_resident.proofs.hearing.tell_imports.Goals as goal

pub loop-value-preserved : goal.loop-value-preserved
loop-value-preserved c =
    imports_on (exported_name c.args.exporter.now c.args.me) c.args.values.now c.loop-value.value-index c.loop-value.position c.in_ok-next.next c.value-item.result c.loop-value.told c.tell_import.new.told _ c.in_ok-next.ensures
    c.loop-value-test.true c.value-item.is c.in_ok-tell_import.ensures c.loop-value.invariant

pub returns : goal.returns
returns c = imports_done (exported_name c.args.exporter.now c.args.me) c.args.values.now c.loop-value.value-index c.loop-value.position c.loop-value.told _ c.loop-value-test.false c.loop-value.invariant
