use Rattle.std.proofs.Common.{◌≡◌, map, take}
use Rattle.def_run.specs.World.{name_at}
use Rattle.ev_script.specs.declared.script.VatScript.{VatScript}
use Rattle.ev_world.specs.Starting.{bare}
use Rattle.ev_world.proofs.starting.all_nouns.Given as goal

abbrev pub invariant-loop-vat : goal.invariant-loop-vat
invariant-loop-vat l = l.nouns.items ≡ map (λ (vat : VatScript). map (name_at (bare l.vats)) vat.knows) (take l.vat-index l.vats)
