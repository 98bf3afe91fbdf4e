use Rattle.std.proofs.Common.{◌∙◌, sym}
use Rattle.serde_json.specs.View.{view}
use Rattle.ev_script.specs.Vats.{vat_of}
use Rattle.ev_script.proofs.EachLemmas.{goes, stops, ends, each_length, each_map}
use Rattle.ev_script.proofs.vats.each_vat.Goals as goal

pub returns-in_default-clause-vats : goal.returns-in_default-clause-vats
returns-in_default-clause-vats c =
    stops (λ v. vat_of (view v)) c.value-item.result c.loop-value.vats _ c.args.values.now c.loop-value.value-index c.loop-value-test.true c.value-item.is
    c.loop-value.invariant (sym c.in_ok-vat.ensures ∙ c.in_default.is) ∙ sym (each_map vat_of view c.args.values.now)

pub loop-value-preserved : goal.loop-value-preserved
loop-value-preserved c =
    goes (λ v. vat_of (view v)) c.value-item.result c.in-Some.vat c.loop-value.vats _ _ c.args.values.now c.loop-value.value-index c.loop-value-test.true
    c.value-item.is c.loop-value.invariant (sym c.in_ok-vat.ensures ∙ c.in-Some.is) c.in_ok-push.ensures.ok

pub returns-clause-vats : goal.returns-clause-vats
returns-clause-vats c =
    ends (λ v. vat_of (view v)) c.loop-value.vats _ c.args.values.now c.loop-value.value-index c.loop-value-test.false c.loop-value.invariant
    ∙ sym (each_map vat_of view c.args.values.now)

pub returns-clause-as_many : goal.returns-clause-as_many
returns-clause-as_many c =
    each_length (λ v. vat_of (view v)) c.args.values.now c.loop-value.vats
    (sym (ends (λ v. vat_of (view v)) c.loop-value.vats _ c.args.values.now c.loop-value.value-index c.loop-value-test.false c.loop-value.invariant))
