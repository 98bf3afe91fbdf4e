use Rattle.std.proofs.Common.{◌≡◌, ℕ, Bool, false, List, Some, ◌∙◌, get_or, length, map, refl, slice_get, slice_set, subst, sym, ap}
use Rattle.std.proofs.lemmas.Bool.{ltb-true}
use Rattle.std.proofs.lemmas.Option.{slice_get_read}
use Rattle.def_run.specs.Numbers.{link_of}
use Rattle.ev_resident.specs.declared.Member.{Member}
use Rattle.ev_resident.specs.Printing.{TellsCuts}
use Rattle.ev_resident.specs.declared.resident.Resident.{Resident}
use Rattle.ev_resident.specs.Vat.{IsReady}
use Rattle.ev_ways.proofs.Links.{cuts_stand}
use Rattle.ev_world.specs.Midway.{having_of}
use Rattle.ev_world.specs.declared.world.World.{World}
use Rattle.ev_world.proofs.Left.{IsRested, left_is}
use Rattle.ev_world.proofs.Objects.{is_within, set_there}
use Rattle.ev_world.proofs.Readies.{set_ready, told_ready}
use Rattle.ev_world.proofs.world.World.finish.Goals as goal

pub returns-clause-finished : goal.returns-clause-finished
returns-clause-finished c = λ S w m head b s mid.
    let u = c.args.vat in
    let was = c.args.self.now in
    let rs = was.residents.items in
    let r = c.in-Some.resident.now in
    let p = c.finish.new.self in
    let q = c.rest-self.new.self in
    let there : slice_get rs u ≡ Some r =
    subst (λ (k : ℕ). slice_get rs k ≡ Some r) c.vat.view_is
    (slice_get_read rs (length rs) c.vat.inside.0 r refl (ltb-true c.vat.inside.0 (length rs) (sym c.in-Some.ensures.item.0)) c.in-Some.ensures.item.1) in
    let acts = mid.own r there in
    let cuts : TellsCuts u (map link_of w.ways) c.as_slice.result.now =
    λ h. (cuts_stand s.drawn (length S.vats) u h w.ways was.ways mid.ways).of_all ∙ ap (λ (bs : List Bool). get_or bs h false) (sym (c.as_slice.ensures.value ∙ c.in_ok-cut.ensures)) in
    let rested : IsRested p q was.words c.rest-self.result c.rest-self.new.words = record {
      fuel = c.rest-self.ensures.fuel;
      words = c.rest-self.ensures.words;
      member = c.rest-self.ensures.member;
      key = c.rest-self.ensures.key;
      ready = c.rest-self.ensures.ready;
      names = c.rest-self.ensures.names;
    } in
    let same : slice_set rs c.vat.inside.0 q ≡ slice_set rs u q = ap (λ (k : ℕ). slice_set rs k q) c.vat.view_is in
    let here : slice_get (slice_set rs c.vat.inside.0 q) u ≡ Some q = ap (λ (ts : List Resident). slice_get ts u) same ∙ set_there rs u q (is_within rs u r there) in
    let e : World = record was { residents = c.tell_exports.new.residents; ways = c.push_out.new.ways; words = c.rest-self.new.words; fuel = c.rest-self.result; history = c.finish.new.account } in
    left_is S w u m head b s c.args.before.now c.args.sendings.items c.args.carried c.args.told was mid r p q c.in_ok-outgoing.outgoing.items c.finish.new.account c.rest-self.result c.rest-self.new.words
    there c.in_ok-outgoing.ensures.member c.in_ok-outgoing.ensures.objects
    (c.in_ok-outgoing.ensures.told w u m (having_of b) s b.carried b.told acts.stepped acts.names acts.objects mid.mails acts.says cuts) rested
    e (slice_set rs c.vat.inside.0 q) same (c.in_ok-tell_exports.ensures q here) refl refl refl refl refl refl c.in_ok-push_out.ensures refl

pub returns-clause-ready : goal.returns-clause-ready
returns-clause-ready c = λ all.
    let u = c.args.vat in
    let k = c.vat.inside.0 in
    let rs = c.args.self.now.residents.items in
    let r = c.in-Some.resident.now in
    let q = c.rest-self.new.self in
    let found : slice_get rs k ≡ Some r = slice_get_read rs (length rs) k r refl (ltb-true k (length rs) (sym c.in-Some.ensures.item.0)) c.in-Some.ensures.item.1 in
    let there : slice_get rs u ≡ Some r = subst (λ (i : ℕ). slice_get rs i ≡ Some r) c.vat.view_is found in
    let here : slice_get (slice_set rs k q) u ≡ Some q = ap (λ (i : ℕ). slice_get (slice_set rs i q) u) c.vat.view_is ∙ set_there rs u q (is_within rs u r there) in
    let ready : IsReady q.member.vat = c.rest-self.ensures.ready (subst (λ (x : Member). IsReady x.vat) (sym c.in_ok-outgoing.ensures.member) (all k r found)) in
    told_ready u q.member c.args.before.now (slice_set rs k q) c.tell_exports.new.residents.items (c.in_ok-tell_exports.ensures q here) (set_ready rs k q all ready)
