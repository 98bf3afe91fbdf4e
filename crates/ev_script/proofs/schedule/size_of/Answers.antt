use Rattle.ev_script.proofs.RoundLemmas.{sized}
use Rattle.ev_script.proofs.schedule.size_of.Goals as goal

pub returns-in-Rounds : goal.returns-in-Rounds
returns-in-Rounds c = sized c.checked_mul.result c.from.result c.in-Rounds.rounds c.args.round.now c.args.step c.from.ensures c.in-Rounds.is c.checked_mul.ensures
