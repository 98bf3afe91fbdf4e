use Rattle.std.proofs.Common.{◌≡◌, ℕ, ◌∙◌, Some, length, refl, slice_get, subst, sym, ap}
use Rattle.std.proofs.lemmas.Bool.{ltb-true}
use Rattle.std.proofs.lemmas.Option.{slice_get_read}
use Rattle.ev_resident.specs.declared.Vat.{Vat}
use Rattle.ev_world.proofs.CarryingFrames.{tells_frame}
use Rattle.ev_world.proofs.carrying.told_for.Goals as goal

pub returns : goal.returns
returns c =
    let rs = c.args.residents.now in
    let x = c.in-Some.exporter.now in
    let y = c.in-Some-get.receiver.now in
    let at_x : slice_get rs c.args.from ≡ Some x =
    subst (λ (k : ℕ). slice_get rs k ≡ Some x) c.from.view_is
    (slice_get_read rs (length rs) c.from.inside.0 x refl (ltb-true c.from.inside.0 (length rs) (sym c.in-Some.ensures.lookup.0)) c.in-Some.ensures.lookup.1) in
    let at_y : slice_get rs c.args.to ≡ Some y =
    subst (λ (k : ℕ). slice_get rs k ≡ Some y) c.to.view_is
    (slice_get_read rs (length rs) c.to.inside.0 y refl (ltb-true c.to.inside.0 (length rs) (sym c.in-Some-get.ensures.lookup.0)) c.in-Some-get.ensures.lookup.1) in
    tells_frame rs c.args.from c.args.to c.args.first c.args.news.now c.args.frame.now x y c.inside.result.now.words c.told_of.result at_x at_y
    (ap (λ i. i.words) c.inside.ensures ∙ ap (λ (v : Vat). v.host.inside.words) c.vat.ensures)
    (λ ms a m p h n last there is names objects first brings message asks. c.told_of.ensures ms a m p h n last there is names objects first brings message asks)
