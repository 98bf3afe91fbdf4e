use Rattle.std.proofs.Common.{◌∙◌, sym}
use Rattle.serde_json.specs.View.{view}
use Rattle.ev_play.specs.Doings.{play_step_in}
use Rattle.ev_script.proofs.EachLemmas.{goes, stops, ends, each_map}
use Rattle.ev_play.proofs.doings.steps_of.Goals as goal

pub returns-in_default : goal.returns-in_default
returns-in_default c =
    stops (λ v. play_step_in c.args.names.now (view v)) c.value-item.result c.loop-value.steps _ c.args.values.now c.loop-value.value-index c.loop-value-test.true
    c.value-item.is c.loop-value.invariant (sym c.in_ok-step.ensures ∙ c.in_default.is) ∙ sym (each_map (play_step_in c.args.names.now) view c.args.values.now)

pub loop-value-preserved : goal.loop-value-preserved
loop-value-preserved c =
    goes (λ v. play_step_in c.args.names.now (view v)) c.value-item.result c.in-Some.step c.loop-value.steps _ _ c.args.values.now c.loop-value.value-index
    c.loop-value-test.true c.value-item.is c.loop-value.invariant (sym c.in_ok-step.ensures ∙ c.in-Some.is) c.in_ok-push.ensures.ok

pub returns : goal.returns
returns c =
    ends (λ v. play_step_in c.args.names.now (view v)) c.loop-value.steps _ c.args.values.now c.loop-value.value-index c.loop-value-test.false c.loop-value.invariant
    ∙ sym (each_map (play_step_in c.args.names.now) view c.args.values.now)
