use Rattle.std.proofs.Common.{length, refl, subst}
use Rattle.std.proofs.lemmas.Option.{slice_get_read}
use Rattle.def_event.specs.Uses.{names_of}
use Rattle.ev_uses.specs.Using.{DecidesAll}
use Rattle.ev_uses.proofs.Known.{values_fail, values_next}
use Rattle.ev_uses.proofs.using.are_known.Goals as goal

pub returns-then-not-branch : goal.returns-then-not-branch
returns-then-not-branch c =
    let i = c.loop-value.value-index in
    let x = slice_get_read c.args.values.now (length c.args.values.now) i c.value-item.result refl c.loop-value-test.true c.value-item.is in
    values_fail c.args.knowledge.now c.loop-value.knowledge c.is_known.new.knowledge c.args.activation c.args.made c.args.values.now i c.value-item.result x c.loop-value.invariant
    (subst (DecidesAll c.loop-value.knowledge c.is_known.new.knowledge c.args.activation c.args.made (names_of c.value-item.result)) c.if-not-branch.true c.in_ok-is_known.ensures)

pub loop-value-preserved : goal.loop-value-preserved
loop-value-preserved c =
    let i = c.loop-value.value-index in
    let x = slice_get_read c.args.values.now (length c.args.values.now) i c.value-item.result refl c.loop-value-test.true c.value-item.is in
    values_next c.args.knowledge.now c.loop-value.knowledge c.is_known.new.knowledge c.args.activation c.args.made c.args.values.now i c.value-item.result x c.loop-value.invariant
    (subst (DecidesAll c.loop-value.knowledge c.is_known.new.knowledge c.args.activation c.args.made (names_of c.value-item.result)) c.if-not-branch.false c.in_ok-is_known.ensures)
