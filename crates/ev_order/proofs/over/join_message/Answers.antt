use Rattle.std.proofs.Common.{sym, ◌∙◌}
use Rattle.ev_order.proofs.JoiningAll.{joins_not_carried, joins_message}
use Rattle.ev_order.proofs.over.join_message.Goals as goal

pub returns : goal.returns
returns c =
    joins_message c.args.references.now c.args.sent.now c.args.carried.now c.args.number c.in-Some.message c.in-Some.send c.in-Some-find.carry c.args.places.now c.join_arguments.new.places
    c.requires.single (sym c.get.ensures ∙ c.in-Some.is) c.in-Some-find.ensures c.join_arguments.ensures

pub returns-in_default-find : goal.returns-in_default-find
returns-in_default-find c =
    joins_not_carried c.args.references.now c.args.sent.now c.args.carried.now c.args.number c.in-Some.message c.in-Some.send c.args.places.now (sym c.get.ensures ∙ c.in-Some.is) c.in_default-find.ensures
