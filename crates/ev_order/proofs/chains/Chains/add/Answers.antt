use Rattle.std.proofs.Common.{◌∷◌, ◌++◌, [], ℕ, List, Option, sym, ◌∙◌, subst}
use Rattle.def_event.specs.declared.reference.Reference.{Reference}
use Rattle.ev_order.specs.declared.spread.Place.{Place}
use Rattle.ev_order.specs.Chains.{Chain, IsChain, LinksLast, reference}
use Rattle.ev_order.proofs.Chaining.{grows}
use Rattle.ev_order.proofs.chains.Chains.add.Goals as goal

pub returns-clause-chain : goal.returns-clause-chain
returns-clause-chain c =
    let old : Chain = record { places = c.self.inside.places.items; references = c.self.inside.references.items; last = c.self.inside.last } in
    let o = reference c.args.vat c.args.value.now in
    let h = subst IsChain (sym c.self.view_is) c.requires in
    let n = c.len-place.ensures ∙ c.self.inside.places.ok.0 ∙ h.linked.same_length in
    let links = subst (λ (k : ℕ). LinksLast o k c.self.inside.places.items c.link_last.new.places.items c.self.inside.last c.link_last.new.last) n c.in_ok-link_last.ensures in
    let one = grows old h o c.link_last.new.places.items c.link_last.new.last links in
    let two = subst (λ (ps : List Place). IsChain (record { places = ps; references = c.self.inside.references.items ++ o ∷ []; last = c.link_last.new.last })) (sym c.in_ok-push.ensures.items) one in
    subst (λ (rs : List (Option Reference)). IsChain (record { places = c.push.new.self.items; references = rs; last = c.link_last.new.last })) (sym c.in_ok-note.ensures) two
