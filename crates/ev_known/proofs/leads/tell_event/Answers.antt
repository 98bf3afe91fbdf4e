use Rattle.std.proofs.Common.{[], ◌∷◌, sym, ap, subst, ◌∙◌}
use Rattle.std.proofs.lemmas.Result.{on_ok_weaker}
use Rattle.def_event.specs.declared.event.Event.{Event}
use Rattle.def_event.specs.Uses.{AName, Settled, leads}
use Rattle.ev_links.specs.declared.label.Label.{Label}
use Rattle.ev_links.specs.declared.links.Way.TheVariants.{Settled as Settling}
use Rattle.ev_known.specs.Leads.{AddsLeads}
use Rattle.ev_known.proofs.Leading.{led_added}
use Rattle.ev_known.proofs.leads.tell_event.Goals as goal

pub returns-in-View : goal.returns-in-View
unfolding leads
returns-in-View c =
    on_ok_weaker c.lead_to_name.result (
    λ added.
    subst (λ (e : Event). AddsLeads (leads c.args.at e) c.args.links.now c.lead_to_name.new.links) (sym c.in-View.is)
    (led_added (Settled c.args.at) (AName c.in-View.name) (AName c.in-View.view ∷ []) c.settled_link-link-in-View.result c.args.links.now c.lead_to_name.new.links
    added
    (c.settled_link-link-in-View.ensures ∙ ap (λ (from : Label). record { way = Settling c.args.at; other = from }) c.name_label-in-View.ensures))
    ) c.lead_to_name.ensures
