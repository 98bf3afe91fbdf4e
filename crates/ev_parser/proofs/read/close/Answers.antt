use Rattle.ev_parser.proofs.Turns.{at_last, put_after, put_inside}
use Rattle.ev_parser.proofs.read.close.Goals as goal

pub returns-in-None : goal.returns-in-None
returns-in-None c = λ o h. at_last _ _ _ o c.in-None.ensures.0 (rw c.in-Have.is at (c.turns.invariant o h))

pub returns-in-Moved : goal.returns-in-Moved
returns-in-Moved c = λ o h. rw c.in-Moved.is at (c.turns.invariant o h)

pub returns-in-Failed : goal.returns-in-Failed
returns-in-Failed c = λ o h. rw c.in-Failed.is at (c.turns.invariant o h)

pub turns-preserved-in_ok-turn-in-At : goal.turns-preserved-in_ok-turn-in-At
turns-preserved-in_ok-turn-in-At c = λ o h. c.in_ok-turn-in-At.ensures.comes _ o (rw c.in-At.is at (c.turns.invariant o h))

pub turns-preserved-in-Some-After : goal.turns-preserved-in-Some-After
turns-preserved-in-Some-After c = λ o h. put_after _ _ _ _ _ o (rw c.in-Some-After.field-0-is at c.in-Some-After.ensures) (rw c.in-Have.is at (c.turns.invariant o h))

pub turns-preserved : goal.turns-preserved
turns-preserved c = λ o h. put_inside _ _ _ _ _ _ o (rw c.in-Some-Inside.field-0-is at c.in-Some-Inside.ensures) c.in_ok-turn-in-Some-Inside.ensures (rw c.in-Have.is at (c.turns.invariant o h))
