use Rattle.std.proofs.Common.{◌≡◌, ◌∙◌, ℕ, None, List, [], ◌∷◌, Some, Global, Vec, length, refl, slice_get, subst, sym}
use Rattle.std.proofs.lemmas.Bool.{ltb-true}
use Rattle.std.proofs.lemmas.Option.{slice_get_read}
use Rattle.std.specs.Vec.{with_item}
use Rattle.def_kernel.specs.declared.node.Node.{Node}
use Rattle.def_run.specs.Numbers.{nothing_brought, open_member}
use Rattle.def_machine.specs.Values.{Words}
use Rattle.def_run.specs.World.{Opens}
use Rattle.ev_resident.specs.declared.Sending.{Sending}
use Rattle.ev_resident.specs.Names.{Entry}
use Rattle.ev_world.specs.Exporting.{AreCounted}
use Rattle.ev_world.specs.Midway.{IsMidway}
use Rattle.ev_world.specs.declared.world.World.{World}
use Rattle.ev_world.proofs.Acting.{Took, stops_with}
use Rattle.ev_world.proofs.Readies.{set_ready}
use Rattle.ev_world.proofs.Stepping.{open_comes, open_halts}
use Rattle.ev_world.proofs.world.World.open.Goals as goal

pub first_turn-requires : goal.first_turn-requires
first_turn-requires c =
    let rs = c.args.self.now.residents.items in
    let r = c.in-Some-get_mut.resident.now in
    record { ready = c.requires.ready c.args.vat r (slice_get_read rs (length rs) c.args.vat r refl (ltb-true c.args.vat (length rs) (sym c.in-Some-get_mut.ensures.item.0)) c.in-Some-get_mut.ensures.item.1) }

pub returns-in_err-sendings-clause-step : goal.returns-in_err-sendings-clause-step
returns-in_err-sendings-clause-step c = λ S w p there is_at steady.
    let u = c.args.vat in
    let was = c.args.self.now in
    let rs = was.residents.items in
    let r = c.in-Some-get_mut.resident.now in
    let x = c.in-Some.program.now in
    let ns = c.in-Some-get.nouns.now in
    let ps = c.deref.result.now in
    let vs = c.deref-2.result.now in
    let found : slice_get rs u ≡ Some r = slice_get_read rs (length rs) u r refl (ltb-true u (length rs) (sym c.in-Some-get_mut.ensures.item.0)) c.in-Some-get_mut.ensures.item.1 in
    let program : slice_get was.programs.items u ≡ Some x =
    subst (λ (xs : List (List Node)). slice_get xs u ≡ Some x) c.deref.ensures.value (slice_get_read ps (length ps) u x refl (ltb-true u (length ps) (sym c.in-Some.ensures.lookup.0)) c.in-Some.ensures.lookup.1) in
    let nouns : slice_get was.nouns.items u ≡ Some ns =
    subst (λ (xs : List (List Words)). slice_get xs u ≡ Some ns) c.deref-2.ensures.value (slice_get_read vs (length vs) u ns refl (ltb-true u (length vs) (sym c.in-Some-get.ensures.lookup.0)) c.in-Some-get.ensures.lookup.1) in
    stops_with S c.from_residual-in_err-sendings.result c.in_err-sendings.field-0.0 u (open_member S u p w (slice_get w.members u)) (record was { residents = with_item was.residents u c.first_turn.new.self; words = c.first_turn.new.words })
    c.from_residual-in_err-sendings.ensures
    (open_halts S w u p was r x ns x c.as_slice.result.now there is_at found program nouns refl c.as_slice.ensures {A = Vec Sending Global} (λ (xs : Vec Sending Global). xs.items) c.in_err-sendings.field-0.0 c.first_turn.new.self.member
    (λ m same is. c.in_err-sendings.ensures.step m same is))

pub returns-clause-step : goal.returns-clause-step
returns-clause-step c = λ S w p there is_at steady.
    let u = c.args.vat in
    let was = c.args.self.now in
    let rs = was.residents.items in
    let r = c.in-Some-get_mut.resident.now in
    let q = c.first_turn.new.self in
    let x = c.in-Some.program.now in
    let ns = c.in-Some-get.nouns.now in
    let ps = c.deref.result.now in
    let vs = c.deref-2.result.now in
    let before = c.as_slice-2.result.now in
    let found : slice_get rs u ≡ Some r = slice_get_read rs (length rs) u r refl (ltb-true u (length rs) (sym c.in-Some-get_mut.ensures.item.0)) c.in-Some-get_mut.ensures.item.1 in
    let program : slice_get was.programs.items u ≡ Some x =
    subst (λ (xs : List (List Node)). slice_get xs u ≡ Some x) c.deref.ensures.value (slice_get_read ps (length ps) u x refl (ltb-true u (length ps) (sym c.in-Some.ensures.lookup.0)) c.in-Some.ensures.lookup.1) in
    let nouns : slice_get was.nouns.items u ≡ Some ns =
    subst (λ (xs : List (List Words)). slice_get xs u ≡ Some ns) c.deref-2.ensures.value (slice_get_read vs (length vs) u ns refl (ltb-true u (length vs) (sym c.in-Some-get.ensures.lookup.0)) c.in-Some-get.ensures.lookup.1) in
    let mid : World = record was { residents = with_item was.residents u q; words = c.first_turn.new.words; history = c.push.new.self } in
    let took : Took u before was mid r q = record {
      found = found;
      counted = subst (λ (ks : List ℕ). AreCounted r.member (length rs) ks) (sym c.as_slice-2.ensures.value) (subst (λ (n : ℕ). AreCounted r.member n c.in_ok-before.before.items) (c.len-count.ensures ∙ c.args.self.now.residents.ok.0) c.in_ok-before.ensures);
      residents = refl;
      words = c.in_ok-sendings.ensures.lent;
      names = c.in_ok-sendings.ensures.names;
      ready = c.in_ok-sendings.ensures.ready;
      key = c.in_ok-sendings.ensures.key;
      limits = refl;
      programs = refl;
      nouns = refl;
      wire = refl;
    } in
    open_comes S w u p was r x ns x c.as_slice.result.now there is_at found program nouns refl c.as_slice.ensures {A = Vec Sending Global} (λ (xs : Vec Sending Global). xs.items) c.in_ok-me.me c.in_ok-sendings.sendings before mid c.finish.new.self q
    c.in_ok-me.ensures steady took (λ m same is. c.in_ok-sendings.ensures.step m same is) refl c.in_ok-push.ensures
    (λ m s midway. c.in_ok-finish.ensures.finished S w m (Opens c.in_ok-me.me ∷ []) (nothing_brought m) s
    (subst (λ (es : List Entry). IsMidway S w c.in_ok-me.me m (Opens c.in_ok-me.me ∷ []) (nothing_brought m) s before c.in_ok-sendings.sendings.items None es mid) (sym c.new.ensures) midway))

pub returns-clause-ready : goal.returns-clause-ready
returns-clause-ready c = c.in_ok-finish.ensures.ready (set_ready c.args.self.now.residents.items c.args.vat c.first_turn.new.self c.requires.ready c.first_turn.ensures.ready)
