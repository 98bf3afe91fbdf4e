use Rattle.std.proofs.Common.{◌≡◌, ℕ, List, Option, Ok, Some, ◌∙◌, length, refl, slice_get, slice_set, subst, sym, ap}
use Rattle.std.proofs.lemmas.Bool.{ltb-true}
use Rattle.std.proofs.lemmas.Option.{slice_get_read}
use Rattle.std.specs.Prelude.{IfSome}
use Rattle.std.specs.Vec.{with_item}
use Rattle.def_run.specs.Text.{vat_names}
use Rattle.ev_resident.specs.MemberHearing.{BringsSo, frame_heard}
use Rattle.ev_resident.specs.declared.Arrival.{Arrival}
use Rattle.ev_resident.specs.declared.resident.Resident.{Resident}
use Rattle.ev_world.specs.Carrying.{TellsFrame, with_ways}
use Rattle.ev_world.specs.Exporting.{AreCounted}
use Rattle.ev_world.proofs.Acting.{Took}
use Rattle.ev_world.proofs.CarryingSteps.{CallHears, call_astray, call_comes, call_halts, hears_stops}
use Rattle.ev_world.proofs.Readies.{set_ready}
use Rattle.ev_world.proofs.world.World.hear.Goals as goal

pub hear-requires : goal.hear-requires
hear-requires c =
    let rs = c.args.self.now.residents.items in
    let r = c.in-Some.receiver.now in
    record { ready = c.requires.ready c.to.inside.0 r (slice_get_read rs (length rs) c.to.inside.0 r refl (ltb-true c.to.inside.0 (length rs) (sym c.in-Some.ensures.item.0)) c.in-Some.ensures.item.1) }

pub returns-in_err-arrival-clause-step : goal.returns-in_err-arrival-clause-step
returns-in_err-arrival-clause-step c = λ S w rows k at next left steady.
    let rs = c.args.self.now.residents.items in
    let there : slice_get rs c.args.to ≡ Some c.in-Some.receiver.now =
    subst (λ (i : ℕ). slice_get rs i ≡ Some c.in-Some.receiver.now) c.to.view_is
    (slice_get_read rs (length rs) c.to.inside.0 c.in-Some.receiver.now refl (ltb-true c.to.inside.0 (length rs) (sym c.in-Some.ensures.item.0)) c.in-Some.ensures.item.1) in
    hears_stops S w c.args.from c.args.to k c.args.frame.now
    (record c.args.self.now { residents = with_item c.args.self.now.residents c.to.inside.0 c.hear.new.self; words = c.hear.new.words }) c.from_residual-in_err-arrival.result c.in_err-arrival.field-0.0 c.from_residual-in_err-arrival.ensures
    (call_halts S w c.args.from c.args.to k (with_ways rows c.args.self.now) c.args.frame.now c.in-Some.receiver.now at next there (λ (a : Arrival). a.sendings.items) c.in_err-arrival.field-0.0 c.hear.new.self.member c.as_slice.result.now
    c.args.self.now.wire c.args.self.now.history c.as_slice.ensures c.in_err-arrival.ensures.step (record { names = vat_names S; is = at.history }))

pub returns-in_default-2-clause-step : goal.returns-in_default-2-clause-step
returns-in_default-2-clause-step c = λ S w rows k at next left steady.
    let rs = c.args.self.now.residents.items in
    let r = c.in-Some.receiver.now in
    let there : slice_get rs c.args.to ≡ Some r =
    subst (λ (i : ℕ). slice_get rs i ≡ Some r) c.to.view_is
    (slice_get_read rs (length rs) c.to.inside.0 r refl (ltb-true c.to.inside.0 (length rs) (sym c.in-Some.ensures.item.0)) c.in-Some.ensures.item.1) in
    call_astray S w c.args.from c.args.to k (with_ways rows c.args.self.now) c.args.frame.now r at next there (λ (a : Arrival). a.sendings.items) c.hear.new.self.member c.as_slice.result.now c.args.self.now.wire c.args.self.now.history c.as_slice.ensures
    (subst (λ (o : Option Arrival). CallHears (with_ways rows c.args.self.now) c.args.from (λ (a : Arrival). a.sendings.items) (Ok o) r c.hear.new.self.member c.as_slice.result.now) c.in_default-2.is c.in_ok-arrival.ensures.step) (record { names = vat_names S; is = at.history })

pub returns-clause-step : goal.returns-clause-step
returns-clause-step c = λ S w rows k at next left steady lines e tells finished.
    let was = with_ways rows c.args.self.now in
    let rs = c.args.self.now.residents.items in
    let r = c.in-Some.receiver.now in
    let q = c.hear.new.self in
    let before = c.in_ok-before.before.items in
    let there : slice_get rs c.args.to ≡ Some r =
    subst (λ (i : ℕ). slice_get rs i ≡ Some r) c.to.view_is
    (slice_get_read rs (length rs) c.to.inside.0 r refl (ltb-true c.to.inside.0 (length rs) (sym c.in-Some.ensures.item.0)) c.in-Some.ensures.item.1) in
    let mid = record c.args.self.now { residents = with_item c.args.self.now.residents c.to.inside.0 q; words = c.hear.new.words; history = lines } in
    let took : Took c.args.to before was mid r q = record {
      found = there;
      counted = subst (λ (n : ℕ). AreCounted r.member n before) (c.len-count.ensures ∙ c.args.self.now.residents.ok.0) c.in_ok-before.ensures;
      residents = ap (λ (i : ℕ). slice_set rs i q) c.to.view_is;
      words = c.in_ok-arrival.ensures.lent;
      names = c.in_ok-arrival.ensures.names;
      ready = c.in_ok-arrival.ensures.ready;
      key = c.in_ok-arrival.ensures.key;
      limits = refl;
      programs = refl;
      nouns = refl;
      wire = refl;
    } in
    call_comes S w c.args.from c.args.to k was c.args.frame.now r at next there (λ (a : Arrival). a.sendings.items) c.in-Some-2.arrival c.as_slice.result.now before c.imports-first.result c.in-Some-2.arrival.news c.in_ok-told.told mid e q c.as_slice.ensures
    (subst (λ (o : Option Arrival). CallHears was c.args.from (λ (a : Arrival). a.sendings.items) (Ok o) r q.member c.as_slice.result.now) c.in-Some-2.is c.in_ok-arrival.ensures.step)
    (λ m same is. subst (λ (o : Option Arrival). IfSome o (λ a. BringsSo c.args.from m (frame_heard c.args.from m c.as_slice.result.now) a.news)) c.in-Some-2.is (c.in_ok-arrival.ensures.news m same is))
    c.imports-first.ensures took steady
    (subst (λ (xs : List Resident). TellsFrame xs c.args.from c.args.to c.imports-first.result c.in-Some-2.arrival.news c.args.frame.now c.in_ok-told.told) c.as_slice-2.ensures.value c.in_ok-told.ensures)
    left tells finished

pub returns-clause-ready : goal.returns-clause-ready
returns-clause-ready c = set_ready c.args.self.now.residents.items c.to.inside.0 c.hear.new.self c.requires.ready c.in_ok-arrival.ensures.ready
