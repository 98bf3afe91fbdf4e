use Rattle.std.proofs.Common.{◌∷◌, [], sym, subst, refl}
use Rattle.std.proofs.lemmas.Result.{on_ok_weaker}
use Rattle.def_event.specs.declared.event.Event.{Event}
use Rattle.def_event.specs.Uses.{AName, Settled, leads}
use Rattle.ev_links.specs.declared.label.Label.{Label}
use Rattle.ev_links.specs.declared.links.Way.TheVariants.{Settled as Settling}
use Rattle.ev_uses.specs.Onward.{AddsOnward, LeadsTo}
use Rattle.ev_uses.proofs.Leading.{leads_onward}
use Rattle.ev_uses.proofs.onward.tell_event.Goals as goal

pub returns-in-View : goal.returns-in-View
unfolding leads
returns-in-View c =
    on_ok_weaker c.lead_to.result (
    λ added.
    subst (λ (e : Event). AddsOnward (leads c.args.at e) c.args.links.now c.lead_to.new.links) (sym c.in-View.is)
    (leads_onward (Settled c.args.at) (AName c.in-View.name) (AName c.in-View.view ∷ []) c.name_label-in-View.result (Settling c.args.at) c.args.links.now c.lead_to.new.links
    (subst (λ (t : Label). LeadsTo c.name_label-in-View.result (Settling c.args.at) (t ∷ []) c.args.links.now c.lead_to.new.links) c.name_label-to.ensures added)
    c.name_label-in-View.ensures refl)
    ) c.lead_to.ensures
