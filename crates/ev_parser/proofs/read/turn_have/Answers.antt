use Rattle.std.proofs.Common.{◌≡◌, slice_get, Some, None}
use Rattle.ev_parser.proofs.Turns.{have_none, have_inside, have_missing, have_ends, have_goes}
use Rattle.ev_parser.proofs.read.turn_have.Goals as goal

pub returns-in-None-clause-comes : goal.returns-in-None-clause-comes
returns-in-None-clause-comes c = λ o h. have_none _ _ _ _ o c.in-None.ensures.0 h

pub returns-in_ok-turn-in-Some-Inside-clause-comes : goal.returns-in_ok-turn-in-Some-Inside-clause-comes
returns-in_ok-turn-in-Some-Inside-clause-comes c = λ o h. have_inside _ _ _ _ _ c.in-Some-Inside.stand _ o (rw c.in-Some-Inside.field-0-is at c.in-Some-Inside.ensures) c.in_ok-turn-in-Some-Inside.ensures h

pub returns-in-None-node_at-clause-comes : goal.returns-in-None-node_at-clause-comes
returns-in-None-node_at-clause-comes c = λ o h.
    let k : slice_get c.args.nodes.now.items c.args.tree ≡ None = rw c.deref.ensures.value at c.in-None-node_at.ensures in
    have_missing _ _ _ _ o k h

pub returns-in-None-more_of-clause-comes : goal.returns-in-None-more_of-clause-comes
returns-in-None-more_of-clause-comes c = λ o h.
    let k : slice_get c.args.nodes.now.items c.args.tree ≡ Some c.in-Some.node.now = rw c.deref.ensures.value at c.in-Some.ensures in
    have_ends _ _ _ _ _ c.in-Some.node.now c.in-Some-After.tail o (rw c.in-Some-After.field-0-is at c.in-Some-After.ensures) k c.in-None-more_of.ensures h

pub returns-in_ok-push_after-in-Some-more_of-clause-comes : goal.returns-in_ok-push_after-in-Some-more_of-clause-comes
returns-in_ok-push_after-in-Some-more_of-clause-comes c = λ o h.
    let k : slice_get c.args.nodes.now.items c.args.tree ≡ Some c.in-Some.node.now = rw c.deref.ensures.value at c.in-Some.ensures in
    have_goes _ _ c.pop.new.self _ _ _ c.in-Some.node.now c.in-Some-After.tail c.once_more.result c.in-Some-more_of.place c.in_ok-stand-in-Some-more_of.stand o (rw c.in-Some-After.field-0-is at c.in-Some-After.ensures) k c.in-Some-more_of.ensures c.in_ok-stand-in-Some-more_of.ensures c.in_ok-push_after-in-Some-more_of.ensures.ok c.once_more.ensures h
