use Rattle.std.proofs.Common.{string_bytes}
use Rattle.ev_event.proofs.ValueLemmas.{on_to_members, on_to_rest, members_less, rest_less}
use Rattle.ev_event.proofs.values.push_value.Goals as goal

pub loop-next-smaller-in_ok-next-in-Some-2 : goal.loop-next-smaller-in_ok-next-in-Some-2
loop-next-smaller-in_ok-next-in-Some-2 c =
    let begun = rw c.in-Some-2.is at c.in_ok-begin_value.ensures in
    members_less c.in-Some.member c.in-Some-2.members.now _ _ _ _ c.in-Some.is begun.1 c.in_ok-next-in-Some-2.ensures.less

pub loop-next-preserved-in_ok-next-in-Some-2 : goal.loop-next-preserved-in_ok-next-in-Some-2
loop-next-preserved-in_ok-next-in-Some-2 c =
    let begun = rw c.in-Some-2.is at c.in_ok-begin_value.ensures in
    on_to_members c.args.names.now c.in-Some.member c.in-Some-2.members.now c.loop-next.next c.in_ok-next-in-Some-2.next c.loop-next.lists.items c.enter.new.lists.items (string_bytes c.loop-next.out) (string_bytes c.begin_value.new.out) (string_bytes c.enter.new.out) _ c.in-Some.is begun.1 begun.0 (c.in_ok-next-in-Some-2.ensures.text c.args.names.now) c.loop-next.invariant

pub loop-next-smaller : goal.loop-next-smaller
loop-next-smaller c = rest_less c.in-Some-pop.rest _ _ _ _ _ c.in_default.is c.in-Some-pop.ensures.items c.in_ok-next.ensures.less

pub loop-next-preserved : goal.loop-next-preserved
loop-next-preserved c = on_to_rest c.args.names.now c.in-Some-pop.rest c.loop-next.next c.in_ok-next.next c.loop-next.lists.items c.pop.new.self.items c.enter-in_default.new.lists.items (string_bytes c.loop-next.out) (string_bytes c.enter-in_default.new.out) _ c.in_default.is c.in-Some-pop.ensures.items (c.in_ok-next.ensures.text c.args.names.now) c.loop-next.invariant
