use Rattle.std.proofs.Common.{◌∙◌, sym}
use Rattle.serde_json.specs.Find.{as_str}
use Rattle.serde_json.specs.View.{view}
use Rattle.ev_script.proofs.EachLemmas.{goes, stops, ends, each_map}
use Rattle.ev_script.proofs.json.texts_of.Goals as goal

pub returns-in_default : goal.returns-in_default
returns-in_default c =
    stops (λ v. as_str (view v)) c.value-item.result c.loop-value.texts _ c.args.values.now c.loop-value.value-index c.loop-value-test.true c.value-item.is
    c.loop-value.invariant (sym (rw c.in_default.is at c.as_str.ensures)) ∙ sym (each_map as_str view c.args.values.now)

pub loop-value-preserved : goal.loop-value-preserved
loop-value-preserved c =
    goes (λ v. as_str (view v)) c.value-item.result c.in-Some.text.now c.loop-value.texts _ _ c.args.values.now c.loop-value.value-index c.loop-value-test.true
    c.value-item.is c.loop-value.invariant (sym (rw c.in-Some.is at c.as_str.ensures)) (rw c.in_ok-copy_of.ensures at c.in_ok-push.ensures.ok)

pub returns : goal.returns
returns c =
    ends (λ v. as_str (view v)) c.loop-value.texts _ c.args.values.now c.loop-value.value-index c.loop-value-test.false c.loop-value.invariant
    ∙ sym (each_map as_str view c.args.values.now)
