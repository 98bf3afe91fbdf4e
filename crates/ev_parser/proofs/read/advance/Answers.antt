use Rattle.ev_parser.proofs.read.advance.Goals as goal

pub returns-in-Moved : goal.returns-in-Moved
returns-in-Moved c = λ o h. rw c.in-Moved.is at (c.turns.invariant o h)

pub returns-in-Failed : goal.returns-in-Failed
returns-in-Failed c = λ o h. rw c.in-Failed.is at (c.turns.invariant o h)

pub turns-preserved-in_ok-turn-in-At : goal.turns-preserved-in_ok-turn-in-At
turns-preserved-in_ok-turn-in-At c = λ o h. c.in_ok-turn-in-At.ensures.comes o (rw c.in-At.is at (c.turns.invariant o h))

pub turns-preserved : goal.turns-preserved
turns-preserved c = λ o h. c.in_ok-turn-in-Have.ensures.comes o (rw c.in-Have.is at (c.turns.invariant o h))
