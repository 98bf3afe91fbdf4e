use Rattle.law_machine.proofs.Run.BreakRuns.{begins_at_rest}
use Rattle.law_machine.proofs.runs.vats_begin_at_rest.Goals as goal

pub returns : goal.returns
returns c = λ script v p. begins_at_rest script v p
