use Rattle.ev_nodes.proofs.Patterning.{asks_on}
use Rattle.ev_nodes.proofs.patterns.asks.Goals as goal

pub returns-clause-rest : goal.returns-clause-rest
returns-clause-rest c =
    asks_on c.args.program.now c.args.depth c.args.mark c.args.frames.now c.again.new.frames c.calling.new.frames c.args.here.now c.calling.new.here c.args.room.now c.calling.new.room c.calling.result
    c.args.pattern c.args.specimen c.args.ejector c.handed-by.result c.args.asked _ c.requires.mark c.requires.nested c.in_ok-again.ensures.pushed c.run-run.ensures c.handed-by.ensures c.calling.ensures.rest
