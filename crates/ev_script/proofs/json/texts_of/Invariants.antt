-- the texts so far, and then those of the others, are those of all
use Rattle.std.proofs.Common.{◌≡◌, drop}
use Rattle.serde_json.specs.Find.{as_str}
use Rattle.serde_json.specs.View.{view}
use Rattle.ev_script.specs.Json.{each}
use Rattle.ev_script.proofs.EachLemmas.{done_and}
use Rattle.ev_script.proofs.json.texts_of.Given as goal

abbrev pub invariant-loop-value : goal.invariant-loop-value
invariant-loop-value l = done_and l.texts (each (λ v. as_str (view v)) (drop l.value-index l.values)) ≡ each (λ v. as_str (view v)) l.values
