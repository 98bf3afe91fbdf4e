use Rattle.std.proofs.Common.{◌∙◌, sym, ap, is_some, not}
use Rattle.serde_json.specs.View.{view}
use Rattle.ev_script.specs.Schedule.{is_spelled}
use Rattle.ev_script.proofs.EachLemmas.{passes, fails, all_pass, list_all_map}
use Rattle.ev_script.proofs.entries.are_spelled.Goals as goal

pub returns-then-is_none : goal.returns-then-is_none
returns-then-is_none c =
    fails (λ v. is_spelled c.args.names.now (view v)) c.value-item.result _ c.args.values.now c.loop-value.value-index c.loop-value-test.true c.value-item.is
    c.loop-value.invariant (sym (ap is_some c.spelled_in.ensures) ∙ c.is_none.ensures ∙ ap not c.if-is_none.true) ∙ sym (list_all_map (is_spelled c.args.names.now) view c.args.values.now)

pub loop-value-preserved : goal.loop-value-preserved
loop-value-preserved c =
    passes (λ v. is_spelled c.args.names.now (view v)) c.value-item.result _ c.args.values.now c.loop-value.value-index c.loop-value-test.true c.value-item.is
    c.loop-value.invariant (sym (ap is_some c.spelled_in.ensures) ∙ c.is_none.ensures ∙ ap not c.if-is_none.false)

pub returns : goal.returns
returns c =
    all_pass (λ v. is_spelled c.args.names.now (view v)) _ c.args.values.now c.loop-value.value-index c.loop-value-test.false c.loop-value.invariant
    ∙ sym (list_all_map (is_spelled c.args.names.now) view c.args.values.now)
