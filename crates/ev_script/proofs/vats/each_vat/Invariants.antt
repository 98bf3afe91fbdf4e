-- the vats so far, and then those of the others, are those of all
use Rattle.std.proofs.Common.{◌≡◌, drop}
use Rattle.serde_json.specs.View.{view}
use Rattle.ev_script.specs.Json.{each}
use Rattle.ev_script.specs.Vats.{vat_of}
use Rattle.ev_script.proofs.EachLemmas.{done_and}
use Rattle.ev_script.proofs.vats.each_vat.Given as goal

abbrev pub invariant-loop-value : goal.invariant-loop-value
invariant-loop-value l = done_and l.vats (each (λ v. vat_of (view v)) (drop l.value-index l.values)) ≡ each (λ v. vat_of (view v)) l.values
