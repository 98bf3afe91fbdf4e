use Rattle.std.proofs.Common.{◌≡◌, ◌∙◌, ℕ, List, Some, ap, arith, length, refl, slice_get, subst, sym}
use Rattle.std.proofs.lemmas.Option.{slice_get_read}
use Rattle.ev_script.specs.declared.script.VatScript.{VatScript}
use Rattle.ev_world.specs.Starting.{AreStarted, IsStarted}
use Rattle.ev_world.proofs.StartingResidents.{none_started, started_as, started_next}
use Rattle.ev_world.proofs.starting.residents_of.Goals as goal

pub loop-place-init : goal.loop-place-init
loop-place-init c = subst (AreStarted c.args.script.now 0) (sym c.new-residents.ensures.items) (none_started c.args.script.now)

pub loop-place-preserved : goal.loop-place-preserved
loop-place-preserved c =
    let vats = c.as_slice-vats.result.now in
    let vat = c.index-vats-place.result in
    let here : slice_get c.args.script.now.vats c.loop-place.place ≡ Some vat =
    subst (λ (vs : List VatScript). slice_get vs c.loop-place.place ≡ Some vat) c.as_slice-vats.ensures
    (slice_get_read vats (length vats) c.loop-place.place vat refl c.loop-place-test.true c.index-vats-place.is) in
    let started : IsStarted c.args.script.now c.loop-place.place vat c.in_ok-resident.resident =
    started_as c.args.script.now c.loop-place.place vat c.in_ok-resident.resident c.in_ok-me.me c.args.count vats c.as_slice.result.now c.as_slice-in-loop-place.result.now
    c.in_ok-me.ensures (sym c.requires) c.as_slice-vats.ensures c.as_slice.ensures (c.as_slice-in-loop-place.ensures.value ∙ c.in_ok-known_by.ensures)
    (record {
      member = c.in_ok-resident.ensures.begins;
      ready = c.in_ok-resident.ensures.ready;
      key = c.in_ok-resident.ensures.key;
      names = c.in_ok-resident.ensures.names;
      objects = c.in_ok-resident.ensures.objects;
    }) in
    started_next c.args.script.now c.loop-place.place vat c.in_ok-resident.resident c.loop-place.residents.items c.push.new.self.items here started c.in_ok-push.ensures.items c.loop-place.invariant

pub returns : goal.returns
returns c =
    let many : length c.as_slice-vats.result.now ≡ length c.args.script.now.vats = ap length c.as_slice-vats.ensures in
    let all : c.loop-place.place ≡ length c.args.script.now.vats = omega (arith, many, c.loop-place-test.false, c.loop-place.auto.place-end) in
    subst (λ (n : ℕ). AreStarted c.args.script.now n c.loop-place.residents.items) all c.loop-place.invariant
