-- the steps so far, and then those of the others, are those of all
use Rattle.std.proofs.Common.{◌≡◌, drop}
use Rattle.serde_json.specs.View.{view}
use Rattle.ev_script.specs.Json.{each}
use Rattle.ev_play.specs.Doings.{play_step_in}
use Rattle.ev_script.proofs.EachLemmas.{done_and}
use Rattle.ev_play.proofs.doings.steps_of.Given as goal

abbrev pub invariant-loop-value : goal.invariant-loop-value
invariant-loop-value l = done_and l.steps (each (λ v. play_step_in l.names (view v)) (drop l.value-index l.values)) ≡ each (λ v. play_step_in l.names (view v)) l.values
