use Rattle.std.proofs.Common.{refl}
use Rattle.ev_uses.proofs.Adding.{members_leave, members_less, plain_leaves, plain_less}
use Rattle.ev_uses.proofs.parts.add_first.Goals as goal

pub returns-in_default-2-clause-left : goal.returns-in_default-2-clause-left
returns-in_default-2-clause-left c =
    let begun = rw c.in_default-2.is at c.in_ok-members.ensures in
    plain_leaves c.in-Some.first.now c.in-Some.more.now c.args.values.now c.in-Some.more c.args.labels.now c.begin_value.new.labels c.args.lists.now.items c.push.new.self.items
    c.in-Some.ensures.cases.0 refl c.in_ok-push.ensures.items begun

pub returns-in_default-2-clause-less : goal.returns-in_default-2-clause-less
returns-in_default-2-clause-less c =
    plain_less c.in-Some.first.now c.in-Some.more.now c.args.values.now c.in-Some.more c.args.lists.now.items c.push.new.self.items c.in-Some.ensures.cases.0 refl c.in_ok-push.ensures.items

pub returns-clause-left : goal.returns-clause-left
returns-clause-left c =
    let begun = rw c.in-Some-2.is at c.in_ok-members.ensures in
    members_leave c.in-Some.first.now c.in-Some.more.now c.args.values.now c.in-Some-2.members.now c.in-Some.more c.in-Some-2.members c.args.labels.now c.begin_value.new.labels
    c.args.lists.now.items c.push.new.self.items c.push-2.new.self.items c.in-Some.ensures.cases.0 refl c.in_ok-push.ensures.items begun.0 begun.1 refl c.in_ok-push-2.ensures.items

pub returns-clause-less : goal.returns-clause-less
returns-clause-less c =
    let begun = rw c.in-Some-2.is at c.in_ok-members.ensures in
    members_less c.in-Some.first.now c.in-Some.more.now c.args.values.now c.in-Some-2.members.now c.in-Some.more c.in-Some-2.members c.args.lists.now.items c.push.new.self.items c.push-2.new.self.items
    c.in-Some.ensures.cases.0 refl c.in_ok-push.ensures.items begun.1 refl c.in_ok-push-2.ensures.items
