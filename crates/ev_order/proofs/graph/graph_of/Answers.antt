-- What joins the places keeps to the walk, and what it leaves is the graph.
use Rattle.std.proofs.Common.{◌≡◌, List, Option, length, drop, sym, ap, ◌∙◌, subst}
use Rattle.std.proofs.lemmas.List.{take_at}
use Rattle.def_event.specs.declared.reference.Reference.{Reference}
use Rattle.ev_order.specs.declared.spread.Place.{Place}
use Rattle.ev_order.specs.Over.{FitIn, Joins, IsJoined}
use Rattle.ev_order.specs.Walk.{Walked, IsWalked}
use Rattle.ev_order.specs.Graph.{IsGraph}
use Rattle.ev_order.proofs.Graphs.{asks_fit, asks_carried, asks_single, makes_graph}
use Rattle.ev_order.proofs.graph.graph_of.Goals as goal

pub join_all-requires : goal.join_all-requires
join_all-requires c =
    let w : Walked = record { here = c.chains.inside.here; chain = c.chains.inside.chains; sent = c.chains.inside.sent; carried = c.chains.inside.carried; taken = c.chains.inside.taken } in
    let h : IsWalked c.args.events.now w = subst (IsWalked c.args.events.now) (sym c.chains.view_is) c.in_ok-chains.ensures in
    let refs = c.deref.ensures.value ∙ c.into_parts-places.ensures.references in
    record {
      same_length = ap length (c.deref_mut.ensures.value ∙ c.into_parts-places.ensures.places) ∙ h.chain.linked.same_length ∙ sym (ap length refs);
      sent = subst (λ (rs : List (Option Reference)). FitIn rs c.chains.inside.sent) (sym refs) (asks_fit c.args.events.now w h);
      carried = subst (λ (rs : List (Option Reference)). FitIn rs c.chains.inside.carried) (sym refs) (asks_carried c.args.events.now w h);
      single = asks_single c.args.events.now w h;
    }

pub returns : goal.returns
returns c =
    let w : Walked = record { here = c.chains.inside.here; chain = c.chains.inside.chains; sent = c.chains.inside.sent; carried = c.chains.inside.carried; taken = c.chains.inside.taken } in
    let h : IsWalked c.args.events.now w = subst (IsWalked c.args.events.now) (sym c.chains.view_is) c.in_ok-chains.ensures in
    let refs = c.deref.ensures.value ∙ c.into_parts-places.ensures.references in
    let places = c.deref_mut.ensures.value ∙ c.into_parts-places.ensures.places in
    let new = c.join_all.new.places in
    let one = subst (λ (rs : List (Option Reference)). Joins (IsJoined rs c.chains.inside.sent c.chains.inside.carried) c.deref_mut.result.now new) refs c.join_all.ensures in
    let two = subst (λ (ps : List Place). Joins (IsJoined c.chains.inside.chains.references c.chains.inside.sent c.chains.inside.carried) ps new) places one in
    let same : length new ≡ c.into_parts-places.result.0.len = c.join_all.auto.places ∙ c.deref_mut.ensures.len in
    record {
      places = subst (IsGraph c.args.events.now) (sym (take_at new (drop (length new) c.into_parts-places.result.0.items) c.into_parts-places.result.0.len same)) (makes_graph c.args.events.now w h new two);
      sent = h.sent;
      taken = h.taken;
    }
