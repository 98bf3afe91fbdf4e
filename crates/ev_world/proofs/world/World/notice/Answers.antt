use Rattle.std.proofs.Common.{◌≡◌, ◌∙◌, ℕ, None, List, [], ◌∷◌, Some, Global, Vec, ap, length, refl, slice_get, slice_set, subst, sym}
use Rattle.std.proofs.lemmas.Bool.{ltb-true}
use Rattle.std.proofs.lemmas.Option.{slice_get_read}
use Rattle.std.specs.Vec.{with_item}
use Rattle.def_run.specs.Numbers.{nothing_brought, step, step_number}
use Rattle.def_run.specs.World.{NoticeLink, NoticedAt}
use Rattle.ev_resident.specs.declared.Sending.{Sending}
use Rattle.ev_resident.specs.Names.{Entry}
use Rattle.ev_world.specs.Exporting.{AreCounted}
use Rattle.ev_world.specs.Midway.{IsMidway}
use Rattle.ev_world.specs.declared.world.World.{World}
use Rattle.ev_world.proofs.Acting.{Took, stops_with}
use Rattle.ev_world.proofs.Readies.{set_ready}
use Rattle.ev_world.proofs.Stepping.{notice_comes, notice_halts}
use Rattle.ev_world.proofs.world.World.notice.Goals as goal

pub notice-requires : goal.notice-requires
notice-requires c =
    let k = c.vat.inside.0 in
    let rs = c.args.self.now.residents.items in
    let r = c.in-Some.resident.now in
    record { ready = c.requires.ready k r (slice_get_read rs (length rs) k r refl (ltb-true k (length rs) (sym c.in-Some.ensures.item.0)) c.in-Some.ensures.item.1) }

pub returns-in_err-sendings-clause-step : goal.returns-in_err-sendings-clause-step
returns-in_err-sendings-clause-step c = λ S w is_at steady.
    let k = c.vat.inside.0 in
    let u = c.args.vat in
    let was = c.args.self.now in
    let rs = was.residents.items in
    let r = c.in-Some.resident.now in
    let found : slice_get rs u ≡ Some r =
    subst (λ (i : ℕ). slice_get rs i ≡ Some r) c.vat.view_is (slice_get_read rs (length rs) k r refl (ltb-true k (length rs) (sym c.in-Some.ensures.item.0)) c.in-Some.ensures.item.1) in
    stops_with S c.from_residual-in_err-sendings.result c.in_err-sendings.field-0.0 (step_number S c.args.number) (step S (NoticeLink u c.args.peer) c.args.number w) (record was { residents = with_item was.residents k c.notice.new.self; words = c.notice.new.words })
    c.from_residual-in_err-sendings.ensures
    (notice_halts S w u c.args.peer c.args.number was r is_at found {A = Vec Sending Global} (λ (xs : Vec Sending Global). xs.items) c.in_err-sendings.field-0.0 c.notice.new.self.member (λ m same is. c.in_err-sendings.ensures.step m same is))

pub returns-clause-step : goal.returns-clause-step
returns-clause-step c = λ S w is_at steady.
    let k = c.vat.inside.0 in
    let u = c.args.vat in
    let was = c.args.self.now in
    let rs = was.residents.items in
    let r = c.in-Some.resident.now in
    let q = c.notice.new.self in
    let before = c.as_slice.result.now in
    let found : slice_get rs u ≡ Some r =
    subst (λ (i : ℕ). slice_get rs i ≡ Some r) c.vat.view_is (slice_get_read rs (length rs) k r refl (ltb-true k (length rs) (sym c.in-Some.ensures.item.0)) c.in-Some.ensures.item.1) in
    let mid : World = record was { residents = with_item was.residents k q; words = c.notice.new.words; history = c.push.new.self } in
    let took : Took u before was mid r q = record {
      found = found;
      counted = subst (λ (ks : List ℕ). AreCounted r.member (length rs) ks) (sym c.as_slice.ensures.value) (subst (λ (n : ℕ). AreCounted r.member n c.in_ok-before.before.items) (c.len-count.ensures ∙ c.args.self.now.residents.ok.0) c.in_ok-before.ensures);
      residents = ap (λ (i : ℕ). slice_set rs i q) c.vat.view_is;
      words = c.in_ok-sendings.ensures.lent;
      names = c.in_ok-sendings.ensures.names;
      ready = c.in_ok-sendings.ensures.ready;
      key = c.in_ok-sendings.ensures.key;
      limits = refl;
      programs = refl;
      nouns = refl;
      wire = refl;
    } in
    notice_comes S w u c.args.peer c.args.number was r is_at found {A = Vec Sending Global} (λ (xs : Vec Sending Global). xs.items) c.in_ok-sendings.sendings before mid c.finish.new.self q
    steady took (λ m same is. c.in_ok-sendings.ensures.step m same is) refl c.in_ok-push.ensures
    (λ m s midway. c.in_ok-finish.ensures.finished S w m (NoticedAt c.args.number u c.args.peer ∷ []) (nothing_brought m) s
    (subst (λ (es : List Entry). IsMidway S w u m (NoticedAt c.args.number u c.args.peer ∷ []) (nothing_brought m) s before c.in_ok-sendings.sendings.items None es mid) (sym c.new.ensures) midway))

pub returns-clause-ready : goal.returns-clause-ready
returns-clause-ready c = c.in_ok-finish.ensures.ready (set_ready c.args.self.now.residents.items c.vat.inside.0 c.notice.new.self c.requires.ready c.notice.ensures.ready)
