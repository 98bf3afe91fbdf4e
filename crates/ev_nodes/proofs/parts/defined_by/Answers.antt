use Rattle.ev_nodes.proofs.Patterning.{define_on}
use Rattle.ev_nodes.proofs.parts.defined_by.Goals as goal

pub returns-clause-rest : goal.returns-clause-rest
returns-clause-rest c =
    define_on c.args.program.now c.args.depth c.args.mark c.args.pattern c.args.value c.args.ejector c.args.frames.now c.again.new.frames c.args.here.now c.args.room.now c.requires.mark c.requires.nested c.in_ok-again.ensures.pushed
