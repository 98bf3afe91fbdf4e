-- What it is for an evaluator over the state of the code to be the machine's.
use Rattle.std.proofs.Common.{◌≡◌, ℕ, true}
use Rattle.ev_base.specs.declared.values.Value.{Value as Held}
use Rattle.def_machine.specs.Values.{Local}
use Rattle.def_machine.specs.Scopes as scopes
use Rattle.ev_pass.specs.declared.interior.Interior.{Interior as Room}
use Rattle.ev_room.specs.declared.scope.Scope.{Scope}
use Rattle.ev_room.specs.Reading.{World, value_of}
use Rattle.ev_room.specs.Sound.{IsSound, is_there, are_bound}
use Rattle.ev_steps.specs.Steps.{Evaluator}
use Rattle.law_evaluation.proofs.Evaluation.Grows.{IsGrowing}
use Rattle.law_evaluation.proofs.Acts.Stands.{Met, vat, an_answer, a_scope, scope_of}

pub record IsMet (w : World) (rec : Evaluator) (their : scopes.Evaluator Local) : Type 0 where
  pub expression : (id : ℕ) (here : Scope) (s : Room) → IsSound s → are_bound s.heap here.nouns ≡ true
      → Met w an_answer s (rec.expression id here s) (their.expression id (scope_of w here) (vat w s))
  pub pattern : (id : ℕ) (v j : Held) (here : Scope) (s : Room) → IsSound s → is_there s.heap v ≡ true → is_there s.heap j ≡ true → are_bound s.heap here.nouns ≡ true
      → Met w a_scope s (rec.pattern id v j here s) (their.pattern id (value_of w v) (value_of w j) (scope_of w here) (vat w s))
  pub grows : IsGrowing rec
