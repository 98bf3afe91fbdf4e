use Rattle.std.proofs.Common.{◌<◌, None, length, sym, ap, ◌∙◌, arith}
use Rattle.std.specs.Prelude.{slice_get}
use Rattle.std.proofs.Math.ListN.{get_or}
use Rattle.std.proofs.lemmas.Option.{slice_get-get_or}
use Rattle.ev_order.specs.Over.{IsPair}
use Rattle.ev_order.proofs.Joining.{joins_none, joins_pair, reference_within, none_is, some_is}
use Rattle.ev_order.proofs.over.join.Goals as goal

pub returns-then-is_none : goal.returns-then-is_none
returns-then-is_none c =
    let refs = c.args.references.now in
    let here = sym c.is_reference.ensures ∙ c.if-not-is_reference.false in
    let there = sym c.is_reference-else-not-is_reference.ensures ∙ c.if-not-is_reference-2.false in
    let inside : c.args.from < length c.args.places.now = omega (arith, reference_within refs c.args.from here, c.requires) in
    joins_pair refs c.args.from c.args.to c.args.places.now (get_or c.args.places.now c.args.from (record { next = None; over = None })) (slice_get-get_or c.args.places.now c.args.from (record { next = None; over = None }) inside) (none_is _ c.is_none.result c.is_none.ensures c.if-is_none.true) here there

pub returns-else-is_none : goal.returns-else-is_none
returns-else-is_none c =
    let refs = c.args.references.now in
    let here = sym c.is_reference.ensures ∙ c.if-not-is_reference.false in
    let inside : c.args.from < length c.args.places.now = omega (arith, reference_within refs c.args.from here, c.requires) in
    let p = get_or c.args.places.now c.args.from (record { next = None; over = None }) in
    let k = some_is p.over c.is_none.result c.is_none.ensures c.if-is_none.false in
    joins_none (IsPair refs c.args.from c.args.to) c.args.places.now (λ i j h. (k.0, (p, ap (slice_get c.args.places.now) h.first ∙ slice_get-get_or c.args.places.now c.args.from (record { next = None; over = None }) inside, k.1)))
