use Rattle.std.proofs.Common.{◌≡◌, ◌∙◌, ℕ, None, List, [], ◌∷◌, Ok, Option, Some, Global, Vec, ap, length, refl, slice_get, slice_set, subst, sym}
use Rattle.std.proofs.lemmas.Bool.{ltb-true}
use Rattle.std.proofs.lemmas.Option.{slice_get_read}
use Rattle.std.specs.Vec.{with_item}
use Rattle.def_kernel.specs.declared.node.Node.{Node}
use Rattle.def_run.specs.Numbers.{nothing_brought, step, step_number}
use Rattle.def_run.specs.World.{Turn, Turned}
use Rattle.ev_resident.specs.declared.Sending.{Sending}
use Rattle.ev_resident.specs.Names.{Entry}
use Rattle.ev_world.specs.Exporting.{AreCounted}
use Rattle.ev_world.specs.Midway.{IsMidway}
use Rattle.ev_world.specs.declared.world.World.{World}
use Rattle.ev_world.proofs.Acting.{Took, stops_with}
use Rattle.ev_world.proofs.Left.{IsRested}
use Rattle.ev_world.proofs.Readies.{set_ready}
use Rattle.ev_world.proofs.Stepping.{TurnsTo, turn_comes, turn_idles, turn_stops_so}
use Rattle.ev_world.proofs.world.World.turn.Goals as goal

pub turn-requires : goal.turn-requires
turn-requires c =
    let k = c.vat.inside.0 in
    let rs = c.args.self.now.residents.items in
    let r = c.in-Some-get_mut.resident.now in
    record { ready = c.requires.ready k r (slice_get_read rs (length rs) k r refl (ltb-true k (length rs) (sym c.in-Some-get_mut.ensures.item.0)) c.in-Some-get_mut.ensures.item.1) }

pub returns-in_err-sendings-clause-step : goal.returns-in_err-sendings-clause-step
returns-in_err-sendings-clause-step c = λ S w is_at steady.
    let k = c.vat.inside.0 in
    let u = c.args.vat in
    let was = c.args.self.now in
    let rs = was.residents.items in
    let r = c.in-Some-get_mut.resident.now in
    let x = c.in-Some.program.now in
    let ps = c.deref.result.now in
    let found : slice_get rs u ≡ Some r =
    subst (λ (i : ℕ). slice_get rs i ≡ Some r) c.vat.view_is (slice_get_read rs (length rs) k r refl (ltb-true k (length rs) (sym c.in-Some-get_mut.ensures.item.0)) c.in-Some-get_mut.ensures.item.1) in
    let program : slice_get was.programs.items u ≡ Some x =
    subst (λ (xs : List (List Node)). slice_get xs u ≡ Some x) c.deref.ensures.value
    (subst (λ (i : ℕ). slice_get ps i ≡ Some x) c.vat.view_is (slice_get_read ps (length ps) k x refl (ltb-true k (length ps) (sym c.in-Some.ensures.lookup.0)) c.in-Some.ensures.lookup.1)) in
    stops_with S c.from_residual-in_err-sendings.result c.in_err-sendings.field-0.0 (step_number S c.args.number) (step S (Turn u) c.args.number w) (record was { residents = with_item was.residents k c.turn.new.self; words = c.turn.new.words })
    c.from_residual-in_err-sendings.ensures
    (turn_stops_so S w u c.args.number was r x x is_at found program refl {A = Vec Sending Global} (λ (xs : Vec Sending Global). xs.items) c.in_err-sendings.field-0.0 c.turn.new.self.member (λ m same is. c.in_err-sendings.ensures.step m same is))

pub returns-in_default-2-clause-step : goal.returns-in_default-2-clause-step
returns-in_default-2-clause-step c = λ S w is_at steady.
    let k = c.vat.inside.0 in
    let u = c.args.vat in
    let was = c.args.self.now in
    let rs = was.residents.items in
    let r = c.in-Some-get_mut.resident.now in
    let q = c.turn.new.self in
    let z = c.rest-self.new.self in
    let x = c.in-Some.program.now in
    let ps = c.deref.result.now in
    let before = c.in_ok-before.before.items in
    let found : slice_get rs u ≡ Some r =
    subst (λ (i : ℕ). slice_get rs i ≡ Some r) c.vat.view_is (slice_get_read rs (length rs) k r refl (ltb-true k (length rs) (sym c.in-Some-get_mut.ensures.item.0)) c.in-Some-get_mut.ensures.item.1) in
    let program : slice_get was.programs.items u ≡ Some x =
    subst (λ (xs : List (List Node)). slice_get xs u ≡ Some x) c.deref.ensures.value
    (subst (λ (i : ℕ). slice_get ps i ≡ Some x) c.vat.view_is (slice_get_read ps (length ps) k x refl (ltb-true k (length ps) (sym c.in-Some.ensures.lookup.0)) c.in-Some.ensures.lookup.1)) in
    let mid : World = record was { residents = with_item was.residents k q; words = c.turn.new.words } in
    let e : World = record was { residents = with_item was.residents k z; words = c.rest-self.new.words; fuel = c.rest-self.result; history = c.push.new.self } in
    let took : Took u before was mid r q = record {
      found = found;
      counted = subst (λ (n : ℕ). AreCounted r.member n before) (c.len-count.ensures ∙ c.args.self.now.residents.ok.0) c.in_ok-before.ensures;
      residents = ap (λ (i : ℕ). slice_set rs i q) c.vat.view_is;
      words = c.in_ok-sendings.ensures.lent;
      names = c.in_ok-sendings.ensures.names;
      ready = c.in_ok-sendings.ensures.ready;
      key = c.in_ok-sendings.ensures.key;
      limits = refl;
      programs = refl;
      nouns = refl;
      wire = refl;
    } in
    let rested : IsRested q z mid.words e.fuel e.words = record {
      fuel = c.rest-self.ensures.fuel;
      words = c.rest-self.ensures.words;
      member = c.rest-self.ensures.member;
      key = c.rest-self.ensures.key;
      ready = c.rest-self.ensures.ready;
      names = c.rest-self.ensures.names;
    } in
    turn_idles S w u c.args.number was r x x is_at found program refl {A = Vec Sending Global} (λ (xs : Vec Sending Global). xs.items) before mid e q z took
    (λ m same is. subst (λ (o : Option (Vec Sending Global)). TurnsTo {A = Vec Sending Global} was x (λ (xs : Vec Sending Global). xs.items) (Ok o) q.member m) c.in_default-2.is (c.in_ok-sendings.ensures.step m same is))
    rested (ap (λ (i : ℕ). slice_set rs i z) c.vat.view_is) refl refl refl refl refl c.in_ok-push.ensures

pub returns-in_default-2-clause-ready : goal.returns-in_default-2-clause-ready
returns-in_default-2-clause-ready c = set_ready c.args.self.now.residents.items c.vat.inside.0 c.rest-self.new.self c.requires.ready (c.rest-self.ensures.ready c.in_ok-sendings.ensures.ready)

pub returns-clause-step : goal.returns-clause-step
returns-clause-step c = λ S w is_at steady.
    let k = c.vat.inside.0 in
    let u = c.args.vat in
    let was = c.args.self.now in
    let rs = was.residents.items in
    let r = c.in-Some-get_mut.resident.now in
    let q = c.turn.new.self in
    let x = c.in-Some.program.now in
    let ps = c.deref.result.now in
    let sendings = c.in-Some-2.sendings in
    let before = c.as_slice.result.now in
    let found : slice_get rs u ≡ Some r =
    subst (λ (i : ℕ). slice_get rs i ≡ Some r) c.vat.view_is (slice_get_read rs (length rs) k r refl (ltb-true k (length rs) (sym c.in-Some-get_mut.ensures.item.0)) c.in-Some-get_mut.ensures.item.1) in
    let program : slice_get was.programs.items u ≡ Some x =
    subst (λ (xs : List (List Node)). slice_get xs u ≡ Some x) c.deref.ensures.value
    (subst (λ (i : ℕ). slice_get ps i ≡ Some x) c.vat.view_is (slice_get_read ps (length ps) k x refl (ltb-true k (length ps) (sym c.in-Some.ensures.lookup.0)) c.in-Some.ensures.lookup.1)) in
    let mid : World = record was { residents = with_item was.residents k q; words = c.turn.new.words; history = c.push-2.new.self } in
    let took : Took u before was mid r q = record {
      found = found;
      counted = subst (λ (ks : List ℕ). AreCounted r.member (length rs) ks) (sym c.as_slice.ensures.value) (subst (λ (n : ℕ). AreCounted r.member n c.in_ok-before.before.items) (c.len-count.ensures ∙ c.args.self.now.residents.ok.0) c.in_ok-before.ensures);
      residents = ap (λ (i : ℕ). slice_set rs i q) c.vat.view_is;
      words = c.in_ok-sendings.ensures.lent;
      names = c.in_ok-sendings.ensures.names;
      ready = c.in_ok-sendings.ensures.ready;
      key = c.in_ok-sendings.ensures.key;
      limits = refl;
      programs = refl;
      nouns = refl;
      wire = refl;
    } in
    turn_comes S w u c.args.number was r x x is_at found program refl {A = Vec Sending Global} (λ (xs : Vec Sending Global). xs.items) sendings before mid c.finish.new.self q steady took
    (λ m same is. subst (λ (o : Option (Vec Sending Global)). TurnsTo {A = Vec Sending Global} was x (λ (xs : Vec Sending Global). xs.items) (Ok o) q.member m) c.in-Some-2.is (c.in_ok-sendings.ensures.step m same is))
    refl c.in_ok-push-2.ensures
    (λ m s midway. c.in_ok-finish.ensures.finished S w m (Turned c.args.number u ∷ []) (nothing_brought m) s
    (subst (λ (es : List Entry). IsMidway S w u m (Turned c.args.number u ∷ []) (nothing_brought m) s before sendings.items None es mid) (sym c.new.ensures) midway))

pub returns-clause-ready : goal.returns-clause-ready
returns-clause-ready c = c.in_ok-finish.ensures.ready (set_ready c.args.self.now.residents.items c.vat.inside.0 c.turn.new.self c.requires.ready c.in_ok-sendings.ensures.ready)
