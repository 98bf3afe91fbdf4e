use Rattle.std.proofs.Common.{List, ◌∙◌, sym, ap, take}
use Rattle.ev_script.specs.declared.script.Entry.{Entry}
use Rattle.ev_script.specs.Schedule.{may_follow}
use Rattle.ev_script.proofs.CutLemmas.{follow_alike, kept_goes, order_goes, order_stops}
use Rattle.ev_script.proofs.schedule.are_in_order.Goals as goal

pub returns-else-may_follow : goal.returns-else-may_follow
returns-else-may_follow c =
    order_stops c.entry-item.result _ c.args.entries.now c.loop-entry.entry-index c.loop-entry-test.true c.entry-item.is c.loop-entry.invariant.1
    (sym (follow_alike c.loop-entry.kept.items (take c.loop-entry.entry-index c.args.entries.now) c.entry-item.result c.loop-entry.invariant.0)
    ∙ ap (λ (es : List Entry). may_follow es c.entry-item.result) (sym c.as_slice.ensures.value) ∙ sym c.may_follow.ensures ∙ c.if-may_follow.false)

pub loop-entry-preserved : goal.loop-entry-preserved
loop-entry-preserved c = (
  kept_goes c.loop-entry.kept.items c.note_cut.new.kept.items c.entry-item.result c.args.entries.now c.loop-entry.entry-index c.loop-entry-test.true c.entry-item.is
      c.loop-entry.invariant.0 c.in_ok-note_cut.ensures,
  order_goes c.entry-item.result _ c.args.entries.now c.loop-entry.entry-index c.loop-entry-test.true c.entry-item.is c.loop-entry.invariant.1
      (sym (follow_alike c.loop-entry.kept.items (take c.loop-entry.entry-index c.args.entries.now) c.entry-item.result c.loop-entry.invariant.0)
      ∙ ap (λ (es : List Entry). may_follow es c.entry-item.result) (sym c.as_slice.ensures.value) ∙ sym c.may_follow.ensures ∙ c.if-may_follow.true),
)
