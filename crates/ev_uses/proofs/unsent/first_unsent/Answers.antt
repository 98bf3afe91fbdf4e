use Rattle.ev_uses.proofs.Walking.{none_held}
use Rattle.ev_uses.proofs.unsent.first_unsent.Goals as goal

pub returns : goal.returns
returns c =
    let held = none_held c.args.events.now c.new-before.result c.new-links.result c.new-before.ensures c.new-links.ensures in
    c.first_carried_unsent.ensures held.0 held.1
