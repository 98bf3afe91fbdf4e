-- What is to be done of a settling, in the code's terms: the next part first.
use Rattle.std.specs.Prelude.{ℕ, List, map}
use Rattle.ev_base.specs.declared.values.Value.{Value}
use Rattle.ev_refs.specs.declared.known.Message.{Message}
use Rattle.ev_settle.specs.declared.tasks.Task.{Task}
use Rattle.ev_settle.specs.declared.tasks.Task.TheVariants.{SendOn, Settle, Enqueue, Inform}

abbrev pub sends : ℕ → List Message → List Task
sends d ms = map (λ m. SendOn m d) ms

abbrev pub settles : ℕ → Value → List ℕ → List Task
settles d v ps = map (λ p. Settle p v d) ps

abbrev pub enqueues : List Message → List Task
enqueues ms = map Enqueue ms

abbrev pub informs : ℕ → List ℕ → List Task
informs p ws = map (Inform p) ws
