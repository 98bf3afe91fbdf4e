use Rattle.ev_parser.proofs.Turns.{close_not, close_some}
use Rattle.ev_parser.proofs.read.close_node.Goals as goal

pub returns-in-None-clause-comes : goal.returns-in-None-clause-comes
returns-in-None-clause-comes c = λ ws o h. close_not _ ws c.args.stand o c.in-None.ensures h

pub returns-in_ok-tree-in-Some-clause-comes : goal.returns-in_ok-tree-in-Some-clause-comes
returns-in_ok-tree-in-Some-clause-comes c = λ ws o h. close_some _ _ ws c.args.stand c.in-Some.shape _ o c.in-Some.ensures c.in_ok-tree-in-Some.ensures h
