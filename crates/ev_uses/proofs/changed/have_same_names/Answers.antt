use Rattle.std.proofs.Common.{◌≡◌, sym, ap, ◌∙◌}
use Rattle.def_event.specs.Uses.{all_parts, arguments_in}
use Rattle.ev_uses.specs.declared.sought.Sought.TheVariants.{Names}
use Rattle.ev_uses.specs.Sought.{has_sought}
use Rattle.ev_uses.proofs.Deciding.{stands_in, takes_alike, takes_other, takes_same}
use Rattle.ev_uses.proofs.changed.have_same_names.Goals as goal

pub returns-then-are_same : goal.returns-then-are_same
returns-then-are_same c events past taken o there sent =
    let same : c.args.there.now ≡ c.args.sent.now = sym c.as_slice.ensures ∙ c.are_same.ensures.0 c.if-are_same.true ∙ c.as_slice-2.ensures in
    takes_alike events past taken c.args.there.now c.args.sent.now there sent same

pub returns-then-not-has_sought : goal.returns-then-not-has_sought
returns-then-not-has_sought c events past taken o there sent =
    let reached = stands_in c.args.links.now past (all_parts taken.args) c.args.there.now c.reach.new.labels o there c.in_ok-reach.ensures in
    let reached_sent = stands_in c.args.links.now past (arguments_in events taken.message) c.args.sent.now c.reach-2.new.labels o sent c.in_ok-reach-2.ensures in
    takes_other events past taken c.reach.new.labels c.reach-2.new.labels reached reached_sent
    (sym (c.has_sought.ensures ∙ ap (has_sought Names c.reach-2.new.labels) c.as_slice-3.ensures) ∙ c.if-not-has_sought.true)

pub returns : goal.returns
returns c events past taken o there sent =
    let reached = stands_in c.args.links.now past (all_parts taken.args) c.args.there.now c.reach.new.labels o there c.in_ok-reach.ensures in
    let reached_sent = stands_in c.args.links.now past (arguments_in events taken.message) c.args.sent.now c.reach-2.new.labels o sent c.in_ok-reach-2.ensures in
    takes_same events past taken c.reach.new.labels c.reach-2.new.labels reached reached_sent c.has_sought-2.result
    (sym (c.has_sought.ensures ∙ ap (has_sought Names c.reach-2.new.labels) c.as_slice-3.ensures) ∙ c.if-not-has_sought.false)
    (c.has_sought-2.ensures ∙ ap (has_sought Names c.reach.new.labels) c.as_slice-4.ensures)
