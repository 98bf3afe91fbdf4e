use Rattle.std.proofs.Common.{subst}
use Rattle.def_event.specs.declared.reference.Reference.{Reference}
use Rattle.ev_order.specs.Last.{LastList, Sets}
use Rattle.ev_order.proofs.Same.{sets}
use Rattle.ev_order.proofs.last.LastPlaces.put.Goals as goal

pub returns : goal.returns
returns c =
    let r : Reference = record { vat = c.args.vat; name = c.args.name } in
    subst (λ (es : LastList). Sets r c.args.place es c.insert.new.self.entries) c.self.view_is
    (sets r c.args.place c.self.inside.places.entries c.insert.new.self.entries c.in_ok-insert.ensures.updates.1 c.in_ok-insert.ensures.updates.2)
