-- the vats so far, and then those of the other values, are those of all
use Rattle.std.proofs.Common.{◌≡◌, drop}
use Rattle.serde_json.specs.View.{view}
use Rattle.ev_script.specs.Json.{each}
use Rattle.ev_script.proofs.EachLemmas.{done_and}
use Rattle.ev_play.specs.Hostile.{vat_named}
use Rattle.ev_play.proofs.hostile.vats_named.Given as goal

abbrev pub invariant-loop-value : goal.invariant-loop-value
invariant-loop-value l = done_and l.places (each (λ v. vat_named l.names (view v)) (drop l.value-index l.values)) ≡ each (λ v. vat_named l.names (view v)) l.values
