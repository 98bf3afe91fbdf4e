use Rattle.std.proofs.Common.{◌∙◌, sym}
use Rattle.serde_json.specs.View.{view}
use Rattle.ev_script.proofs.EachLemmas.{goes, stops, ends, each_map}
use Rattle.ev_play.specs.Hostile.{vat_named}
use Rattle.ev_play.proofs.hostile.vats_named.Goals as goal

pub returns-in_default : goal.returns-in_default
returns-in_default c =
    stops (λ v. vat_named c.args.names.now (view v)) c.value-item.result c.loop-value.places _ c.args.values.now c.loop-value.value-index c.loop-value-test.true
    c.value-item.is c.loop-value.invariant (sym c.vat_named.ensures ∙ c.in_default.is) ∙ sym (each_map (vat_named c.args.names.now) view c.args.values.now)

pub loop-value-preserved : goal.loop-value-preserved
loop-value-preserved c =
    goes (λ v. vat_named c.args.names.now (view v)) c.value-item.result c.in-Some.place c.loop-value.places _ _ c.args.values.now c.loop-value.value-index
    c.loop-value-test.true c.value-item.is c.loop-value.invariant (sym c.vat_named.ensures ∙ c.in-Some.is) c.in_ok-push.ensures.ok

pub returns : goal.returns
returns c =
    ends (λ v. vat_named c.args.names.now (view v)) c.loop-value.places _ c.args.values.now c.loop-value.value-index c.loop-value-test.false c.loop-value.invariant
    ∙ sym (each_map (vat_named c.args.names.now) view c.args.values.now)
