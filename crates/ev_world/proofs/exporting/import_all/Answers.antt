use Rattle.std.proofs.Common.{get_or}
use Rattle.std.proofs.lemmas.Option.{slice_get-get_or}
use Rattle.ev_world.proofs.Telling.{imports_next}
use Rattle.ev_world.proofs.exporting.import_all.Goals as goal

pub loop-object-preserved : goal.loop-object-preserved
loop-object-preserved c =
    let all = c.args.objects.now in
    let k = c.loop-object.object-index in
    imports_next c.args.vat all c.loop-object.names c.import.new.self c.args.names.now k (get_or all k 0) c.loop-object.invariant (slice_get-get_or all k 0 c.loop-object-test.true) c.in_ok-import.ensures.ok
