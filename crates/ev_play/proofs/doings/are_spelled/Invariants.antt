-- all are spelled exactly where those left are
use Rattle.std.proofs.Common.{◌≡◌, drop}
use Rattle.std.specs.List.{list_all}
use Rattle.serde_json.specs.View.{view}
use Rattle.ev_play.specs.Doings.{is_spelling}
use Rattle.ev_play.proofs.doings.are_spelled.Given as goal

abbrev pub invariant-loop-value : goal.invariant-loop-value
invariant-loop-value l = list_all (λ v. is_spelling l.names (view v)) (drop l.value-index l.values) ≡ list_all (λ v. is_spelling l.names (view v)) l.values
