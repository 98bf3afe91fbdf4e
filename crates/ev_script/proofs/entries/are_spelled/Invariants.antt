-- all are spelled exactly where those left are
use Rattle.std.proofs.Common.{◌≡◌, drop}
use Rattle.std.specs.List.{list_all}
use Rattle.serde_json.specs.View.{view}
use Rattle.ev_script.specs.Schedule.{is_spelled}
use Rattle.ev_script.proofs.entries.are_spelled.Given as goal

abbrev pub invariant-loop-value : goal.invariant-loop-value
invariant-loop-value l = list_all (λ v. is_spelled l.names (view v)) (drop l.value-index l.values) ≡ list_all (λ v. is_spelled l.names (view v)) l.values
