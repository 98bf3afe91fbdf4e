use Rattle.std.proofs.Common.{List, subst}
use Rattle.std.proofs.lemmas.Result.{on_ok_weaker}
use Rattle.def_event.specs.Uses.{Thing}
use Rattle.ev_uses.specs.Lines.{AddsThings}
use Rattle.ev_uses.proofs.Adding.{none_added}
use Rattle.ev_uses.proofs.Finding.{source_carried, source_none, source_sent}
use Rattle.ev_uses.proofs.sources.Sources.add_arguments.Goals as goal

pub returns-in-Some : goal.returns-in-Some
returns-in-Some c stand =
    on_ok_weaker c.add_carried_at.result
    (subst (λ (ts : List Thing). AddsThings ts c.args.labels.now c.add_carried_at.new.labels)
    (source_carried c.args.events.now c.args.self.now c.args.message.now stand c.in-Some.place c.find.result c.find.ensures c.in-Some.is)) c.add_carried_at.ensures

pub returns-in_default-find : goal.returns-in_default-find
returns-in_default-find c stand =
    subst (λ (ts : List Thing). AddsThings ts c.args.labels.now c.args.labels.now)
    (source_none c.args.events.now c.args.self.now c.args.message.now stand c.find.result c.find-2.result c.find.ensures c.in_default.is c.find-2.ensures c.in_default-find.is) (none_added c.args.labels.now)

pub returns : goal.returns
returns c stand =
    on_ok_weaker c.add_sent_at.result
    (subst (λ (ts : List Thing). AddsThings ts c.args.labels.now c.add_sent_at.new.labels)
    (source_sent c.args.events.now c.args.self.now c.args.message.now stand c.in-Some-find.place c.find.result c.find-2.result c.find.ensures c.in_default.is c.find-2.ensures c.in-Some-find.is))
    c.add_sent_at.ensures
