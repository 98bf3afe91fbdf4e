use Rattle.std.proofs.Common.{◌≡◌}
use Rattle.std.specs.Prelude.{drop}
use Rattle.ev_world.specs.Exporting.{with_imports}
use Rattle.ev_world.proofs.exporting.import_all.Given as goal

abbrev pub invariant-loop-object : goal.invariant-loop-object
invariant-loop-object l = with_imports l.vat (drop l.object-index l.objects) l.names ≡ with_imports l.vat l.objects l.fn.names
