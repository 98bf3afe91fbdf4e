use Rattle.ev_links.proofs.Planning.{grown_nameless, settles_to}
use Rattle.def_event.specs.declared.event.Event.TheVariants.{Settle}
use Rattle.ev_links.proofs.chains.Plan.settle.Goals as goal

pub returns-in-Name : goal.returns-in-Name
returns-in-Name c past h =
    c.extend.ensures past (Settle c.args.name.now c.args.value.now)
    (settles_to c.args.name.now c.in-Name.other c.args.value.now c.name_label-from.result c.name_label-to.result c.name_label-from.ensures c.name_label-to.ensures c.in-Name.is) h

pub returns-in_default : goal.returns-in_default
returns-in_default c past h = grown_nameless past c.args.at c.args.name.now c.args.value.now c.args.self.now c.in_default.not-Name h
