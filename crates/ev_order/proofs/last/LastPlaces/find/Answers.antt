use Rattle.std.proofs.Common.{sym, ◌∙◌, subst, MatchOption}
use Rattle.ev_order.specs.Last.{LastList, IsLast, HasNone}
use Rattle.ev_order.proofs.Same.{finds_last}
use Rattle.ev_order.proofs.last.LastPlaces.find.Goals as goal

pub returns : goal.returns
returns c = subst (λ (es : LastList). MatchOption c.copied.result (HasNone c.args.reference.now es) (λ i. IsLast c.args.reference.now i es)) c.self.view_is
    (finds_last c.args.reference.now c.self.inside.places.entries c.copied.result (sym (c.copied.ensures ∙ c.get.ensures.value)))
