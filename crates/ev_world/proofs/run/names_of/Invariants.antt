use Rattle.std.proofs.Common.{◌≡◌, map, take}
use Rattle.ev_script.specs.declared.script.VatScript.{VatScript}
use Rattle.ev_world.proofs.run.names_of.Given as goal

abbrev pub invariant-loop-vat : goal.invariant-loop-vat
invariant-loop-vat l = l.names ≡ map (λ (v : VatScript). v.name) (take l.vat-index l.vats)
