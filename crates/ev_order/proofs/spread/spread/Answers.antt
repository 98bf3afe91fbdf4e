-- Each step of the loop goes on from one place.
use Rattle.std.proofs.Common.{◌≡◌, ℕ, ◌+◌, List, Some, arith, length, refl, sym, ap, ◌∙◌, subst}
use Rattle.std.specs.Prelude.{slice_get}
use Rattle.std.proofs.lemmas.Option.{slice_get_read}
use Rattle.ev_order.specs.Spread.{Labels, IsLabelled, reached_by, gone_on, reached_from}
use Rattle.ev_order.proofs.Spreading.{Spreading, begins, is_labelled, goes_on, labels_stay, ends, free_places, going_keeps_sum}
use Rattle.ev_order.proofs.spread.spread.Goals as goal

pub loop-at-init : goal.loop-at-init
loop-at-init c =
    let places = c.args.places.now in
    let labels = sym c.in_ok-label_place.ensures.labels in
    let reached = sym c.in_ok-label_place.ensures.reached in
    let start = begins places c.args.seed c.args.label c.args.labels.now c.args.reached.now.items c.requires in
    let one = subst (λ (ls : Labels). Spreading places c.args.seed c.args.label c.args.labels.now ls (reached_by c.args.seed c.args.labels.now c.args.reached.now.items) (length c.args.reached.now.items)) labels start in
    let two = subst (λ (rs : List ℕ). Spreading places c.args.seed c.args.label c.args.labels.now c.label_place.new.labels rs (length c.args.reached.now.items)) reached one in (
      subst (λ (n : ℕ). Spreading places c.args.seed c.args.label c.args.labels.now c.label_place.new.labels c.label_place.new.reached.items n) (sym (c.len-at.ensures ∙ c.args.reached.now.ok.0)) two,
      λ inside. subst (λ (ls : Labels). IsLabelled ls c.args.seed) labels (is_labelled c.args.seed c.args.label c.args.labels.now (rw c.requires.same_length inside)),
    )

pub loop-at-smaller : goal.loop-at-smaller
loop-at-smaller c =
    let o = slice_get c.args.places.now c.index-from.result.now in
    let sum : free_places c.go_on.new.labels + length c.go_on.new.reached.items ≡ free_places c.loop-at.labels + length c.loop-at.reached.items =
    ap (λ (ls : Labels). free_places ls + length c.go_on.new.reached.items) c.in_ok-go_on.ensures.labels
    ∙ ap (λ (rs : List ℕ). free_places (gone_on o c.args.label c.loop-at.labels) + length rs) c.in_ok-go_on.ensures.reached
    ∙ going_keeps_sum o c.args.label c.loop-at.labels c.loop-at.reached.items in
    let test = c.loop-at-test.true in
    let len = c.len.ensures ∙ c.loop-at.reached.ok.0 in
    omega (arith, sum, test, len)

pub loop-at-preserved : goal.loop-at-preserved
loop-at-preserved c =
    let places = c.args.places.now in
    let from = c.index-from.result.now in
    let o = slice_get places from in
    let at : slice_get c.loop-at.reached.items c.loop-at.at ≡ Some from =
    slice_get_read c.loop-at.reached.items (length c.loop-at.reached.items) c.loop-at.at from refl (omega (arith, c.loop-at-test.true, c.len.ensures ∙ c.loop-at.reached.ok.0)) c.index-from.ensures in
    let next = goes_on places c.args.seed c.args.label c.args.labels.now c.loop-at.labels c.loop-at.reached.items c.loop-at.at from o refl c.loop-at.invariant.0 at in
    let one = subst (λ (ls : Labels). Spreading places c.args.seed c.args.label c.args.labels.now ls (reached_from o c.args.label c.loop-at.labels c.loop-at.reached.items) (c.loop-at.at + 1)) (sym c.in_ok-go_on.ensures.labels) next in (
      subst (λ (rs : List ℕ). Spreading places c.args.seed c.args.label c.args.labels.now c.go_on.new.labels rs (c.loop-at.at + 1)) (sym c.in_ok-go_on.ensures.reached) one,
      λ inside. subst (λ (ls : Labels). IsLabelled ls c.args.seed) (sym c.in_ok-go_on.ensures.labels) (labels_stay o c.args.label c.loop-at.labels c.args.seed (c.loop-at.invariant.1 inside)),
    )

pub returns : goal.returns
returns c = ends c.args.places.now c.args.seed c.args.label c.args.labels.now c.loop-at.labels c.loop-at.reached.items c.loop-at.at c.loop-at.invariant.0 (omega (arith, c.loop-at-test.false, c.len.ensures ∙ c.loop-at.reached.ok.0)) c.loop-at.invariant.1
