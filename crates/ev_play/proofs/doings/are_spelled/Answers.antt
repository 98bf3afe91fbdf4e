use Rattle.std.proofs.Common.{◌∙◌, sym}
use Rattle.serde_json.specs.View.{view}
use Rattle.ev_play.specs.Doings.{is_spelling}
use Rattle.ev_script.proofs.EachLemmas.{passes, fails, all_pass, list_all_map}
use Rattle.ev_play.proofs.doings.are_spelled.Goals as goal

pub returns-then-not-is_spelling : goal.returns-then-not-is_spelling
returns-then-not-is_spelling c =
    fails (λ v. is_spelling c.args.names.now (view v)) c.value-item.result _ c.args.values.now c.loop-value.value-index c.loop-value-test.true c.value-item.is
    c.loop-value.invariant (sym c.is_spelling.ensures ∙ c.if-not-is_spelling.true) ∙ sym (list_all_map (is_spelling c.args.names.now) view c.args.values.now)

pub loop-value-preserved : goal.loop-value-preserved
loop-value-preserved c =
    passes (λ v. is_spelling c.args.names.now (view v)) c.value-item.result _ c.args.values.now c.loop-value.value-index c.loop-value-test.true c.value-item.is
    c.loop-value.invariant (sym c.is_spelling.ensures ∙ c.if-not-is_spelling.false)

pub returns : goal.returns
returns c =
    all_pass (λ v. is_spelling c.args.names.now (view v)) _ c.args.values.now c.loop-value.value-index c.loop-value-test.false c.loop-value.invariant
    ∙ sym (list_all_map (is_spelling c.args.names.now) view c.args.values.now)
