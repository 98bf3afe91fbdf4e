-- What a vat sends, and on what, is good: what is cared for, with the lines of sends.
use Rattle.std.proofs.Common.{◌≡◌, ℕ, suc, ◌-◌, List, [], ◌∷◌, ◌++◌, Some, None, refl, sym, subst}
use Rattle.def_machine.specs.Values.{Words, Value, Null, Broken, Ref, Naming}
use Rattle.def_machine.specs.State.{Message, Happened, Sends, Reacts, Vat, change, dead, holding, Done, Gives, Throws, Ejects, Stops, Act, ◌>>=◌, ◌>>◌, give, look, tell}
use Rattle.def_machine.specs.Refs as refs
use Rattle.def_machine.specs.Refs.{Place, standing_of}
use Rattle.law_fate.specs.Name.Names.{Bit, AllOf, ValueOk, ValuesOk}
use Rattle.law_fate.proofs.Name.Facts.{all_map, all_append, value_up, values_up, Fact, Also, IsName, IsMail, IsVat, IsPlace, IsValue, AreValues, nothing, Holds}
use Rattle.law_fate.proofs.Name.Care.{TellsOfNone, Care, Spots, Under, Makes, Sound, Gets, Ends, Fine, got_left, got, got_entry, fine_bind, bind_value, bind_place, bind_vat, bind_names, then_unit, fine_give, fine_tell, fine_promise, fine_new_message, fine_lone_message}
use Rattle.law_fate.proofs.Name.CareRefs.{fine_settle, fine_resolve, fine_send_first, fine_react_at}
use Rattle.law_fate.proofs.Name.Looks.{got_answer_host, look_follow, look_number, look_place, look_place_of}
use Rattle.law_fate.proofs.Name.Serves.{Serves, Closing}
use Rattle.law_uses.specs.Connectivity.Known as lines
use Rattle.law_uses.proofs.Connectivity.Idle.{IsIdle, Idles, IdleEnds, Idle, idle_promise, idle_message, idle_lone_message}
use Rattle.law_uses.proofs.Connectivity.RefsIdle.{idle_settle, idle_resolve, idle_send_first, idle_react_at}

-- what the line of a send names is good
abbrev pub SendOk : {N : Type 0} → (Bit N → Type 0) → Happened N → Type 0
SendOk P (Sends act m) = ValueOk P m.target × ValuesOk P m.args
SendOk P _ = Unit {0}

-- a line of no send
abbrev pub IsNoSend : {N : Type 0} → Happened N → Type 0
IsNoSend (Sends act m) = ⊥
IsNoSend _ = Unit {0}

pub send_up : {N : Type 0} (P Q : Bit N → Type 0) → ((b : Bit N) → P b → Q b) → (e : Happened N) → SendOk P e → SendOk Q e
send_up P Q up (Sends act m) h = (value_up P Q up m.target h.0, values_up P Q up m.args h.1)
send_up P Q up other h = tt

pub no_send : {N : Type 0} (P : Bit N → Type 0) (e : Happened N) → IsNoSend e → SendOk P e
no_send P (Sends act m) h = absurd h
no_send P other h = tt

pub of_none : {N : Type 0} (e : Happened N) → TellsOfNone e → IsNoSend e
of_none (Sends act m) h = h
of_none other h = tt

idle_send : {N : Type 0} (e : Happened N) → IsIdle e → IsNoSend e
idle_send (Sends act m) h = h
idle_send other h = tt

pub idle_sends : {N : Type 0} (P : Bit N → Type 0) (es : List (Happened N)) → lines.AllOf IsIdle es → AllOf (SendOk P) es
idle_sends P [] h = tt
idle_sends P (e ∷ es) h = (no_send P e (idle_send e h.0), idle_sends P es h.1)

module _ {N : Type 0} (T : Care N) where
  -- so are the lines told so far
  abbrev pub Lined : Vat N → Type 0
  Lined s = AllOf (SendOk (T.ok s)) s.happened

  pub more_lined : (s t : Vat N) (es : List (Happened N)) → T.rel s t → t.happened ≡ s.happened ++ es → AllOf (SendOk (T.ok t)) es → Lined s → Lined t
  more_lined s t es r e new h = subst (λ all. AllOf (SendOk (T.ok t)) all) (sym e) (all_append (SendOk (T.ok t)) s.happened es (all_map (send_up (T.ok s) (T.ok t) (T.up s t r)) s.happened h) new)

  pub still_lined : (s t : Vat N) → T.rel s t → t.happened ≡ s.happened → Lined s → Lined t
  still_lined s t r e h = subst (λ all. AllOf (SendOk (T.ok t)) all) (sym e) (all_map (send_up (T.ok s) (T.ok t) (T.up s t r)) s.happened h)

  abbrev pub WithLines : Care N
  WithLines = record {
    ok = T.ok;
    more = λ s. T.more s × Lined s;
    rel = T.rel;
    same = T.same;
    trans = T.trans;
    up = T.up;
    here = λ s m. T.here s m.0;
    near = T.near;
    entered = T.entered;
    owned = T.owned;
    owner = T.owner;
    drew = T.drew;
    fuel = λ s n. let r = T.fuel s n in (r.0, λ m. (r.1 m.0, still_lined s (record s { fuel = s.fuel - n }) r.0 refl m.1));
    told = λ s e n. let r = T.told s e n in let t = record s { happened = s.happened ++ e ∷ [] } in (r.0, λ m. (r.1 m.0, more_lined s t (e ∷ []) r.0 refl (no_send (T.ok t) e (of_none e n), tt) m.1));
    activations = λ s. let r = T.activations s in (r.0, λ m. (r.1 m.0, still_lined s (record s { activations = suc s.activations }) r.0 refl m.1));
    thing = λ s x. let r = T.thing s x in (r.0, λ m. (r.1 m.0, still_lined s (record s { things = s.things ++ x ∷ [] }) r.0 refl m.1));
    killed = λ s n. let r = T.killed s n in (r.0, λ m. (r.1 m.0, still_lined s (record s { things = change dead n s.things }) r.0 refl m.1));
    slot = λ s c. let r = T.slot s c in (r.0, λ m. (r.1 m.0, still_lined s (record s { slots = s.slots ++ c ∷ [] }) r.0 refl m.1));
    written = λ s n y. let r = T.written s n y in (r.0, λ m. (r.1 m.0, still_lined s (record s { slots = change (holding y) n s.slots }) r.0 refl m.1));
    list = λ s ys. let r = T.list s ys in (r.0, λ m. (r.1 m.0, still_lined s (record s { lists = s.lists ++ ys ∷ [] }) r.0 refl m.1));
  }

  pub with_lines : (s : Vat N) → Sound T s → Lined s → Sound WithLines s
  with_lines s h l = record { parts = h.parts; more = (h.more, l) }

  without : (s : Vat N) → Sound WithLines s → Sound T s
  without s h = let m = h.more in record { parts = h.parts; more = m.0 }

  pub lines_of : (s : Vat N) → Sound WithLines s → Lined s
  lines_of s h = let m = h.more in m.1

  idle_lined : (s t : Vat N) → T.rel s t → Idles s t → Lined s → Lined t
  idle_lined s t r i h = more_lined s t i.more r i.lines (idle_sends (T.ok t) i.more i.idle) h

  idle_ends : {A : Type 0} (G : A → Fact N) (s : Vat N) (d : Done N A) → Ends T G s d → IdleEnds s d → Lined s → Ends WithLines G s d
  idle_ends G s (Gives a t) h i l = (h.0, with_lines t h.1 (idle_lined s t h.0 i l), h.2)
  idle_ends G s (Throws p t) h i l = (h.0, with_lines t h.1 (idle_lined s t h.0 i l))
  idle_ends G s (Ejects n y t) h i l = absurd i
  idle_ends G s (Stops c t) h i l = tt

  -- what tells no line of an activation
  pub idles : {A : Type 0} {C : Fact N} {m : Act N A} {G : A → Fact N} → Fine T C m G → Idle m → Fine WithLines C m G
  idles {m = m} {G = G} f i = record { after = λ s h c. idle_ends G s (m s) (f.after s (without s h) c) (i.after s) (lines_of s h) }

module _ {N W : Type 0} (K : Naming N W) (T : Care N) (under : Under K T) where
  abbrev V : Care N
  V = WithLines T

  pub lined_spots : Spots K V
  lined_spots = record { alike = λ a b e. let spots = under.spots in spots.alike a b e; placed = λ t m n i. let spots = under.spots in spots.placed t m.0 n i }

  -- a line whose names are in hand
  pub tells : {C : Fact N} (e : Happened N) → ((s : Vat N) → Holds (T.ok s) C → SendOk (T.ok s) e) → Fine V C (tell e) nothing
  unfolding tell
  tells {C = C} e good = record {
    after = λ s h c. let t : Vat N = record s { happened = s.happened ++ e ∷ [] } in let f = (fine_tell K T under {C = C} e).after s (without T s h) c in
        (f.0, with_lines T t f.1 (more_lined T s t (e ∷ []) f.0 refl (send_up (T.ok s) (T.ok t) (T.up s t f.0) e (good s c), tt) (lines_of T s h)), tt);
  }

  settles : {C : Fact N} (p : N) → Gets V C (IsName p) → (y : Value N) → Gets V C (IsValue y) → Fine V C (refs.settle K p y) nothing
  settles {C = C} p g y i = idles T (fine_settle K T under p (got_entry T C p (record { at = λ s c. g.at s c })) y (record { at = λ s c. i.at s c })) (idle_settle K p y)

  resolves : {C : Fact N} (p : N) → Gets V C (IsName p) → (y : Value N) → Gets V C (IsValue y) → Fine V C (refs.resolve K p y) nothing
  resolves {C = C} p g y i = idles T (fine_resolve K T under p (got_entry T C p (record { at = λ s c. g.at s c })) y (record { at = λ s c. i.at s c })) (idle_resolve K p y)

  -- a turn ends with any name
  pub lined_closing : (p : N) → Closing K V p
  lined_closing p = record { breaks = λ C g t. settles p g (Broken t) (record { at = λ s c. tt }); closes = λ C g y i. resolves p g y i }

  module _ (makes : Makes K T) where
    sends : (C : Fact N) (act : ℕ) (x : Value N) → Gets V C (IsValue x) → (verb : Words) (args : List (Value N)) → Gets V C (AreValues args) → Fine V C (refs.send K act x verb args) IsValue
    unfolding refs.send
    sends C act x g verb args h = bind_value V (look_follow K V x g) (λ y. bind_place V (look_place K V lined_spots y (got V C (IsValue y))) (λ p. bind_vat V (look_number V) (λ v.
        bind_names V (idles T (fine_new_message K T under makes (refs.answer_host K v p) (got_answer_host T K _ v p (got T _ (IsVat v)) (got_left T _ (IsVat v) (IsPlace p) (got T _ (IsPlace p))))) (idle_message K (refs.answer_host K v p))) (λ new. sent y p v new.0 new.1))))
      where
        sent : (y : Value N) (p : Place N) (v : ℕ) (id a : N) → Fine V (Also (Also (Also (Also C (IsValue y)) (IsPlace p)) (IsVat v)) (Also (IsMail id) (IsName a))) (tell (Sends act (record { id = id; target = x; verb = verb; args = args; answer = Some a })) >> (refs.send_first K (record { id = id; target = y; verb = verb; args = args; answer = Some a }) y p >> give (Ref a))) IsValue
        sent y p v id a = let m : Message N = record { id = id; target = y; verb = verb; args = args; answer = Some a } in
            then_unit V (tells (Sends act (record { id = id; target = x; verb = verb; args = args; answer = Some a })) (λ s c. (g.at s c.0.0.0.0, h.at s c.0.0.0.0)))
            (then_unit V (idles T (fine_send_first K T under m (record { at = λ s c. (c.1.0, c.0.0.0.1, h.at s c.0.0.0.0, c.1.1) }) y (record { at = λ s c. c.0.0.0.1 }) p (record { at = λ s c. c.0.0.1 })) (idle_send_first K m y p)) (fine_give V (Ref a) (record { at = λ s c. c.1.1 })))

    sends_only : (C : Fact N) (act : ℕ) (x : Value N) → Gets V C (IsValue x) → (verb : Words) (args : List (Value N)) → Gets V C (AreValues args) → Fine V C (refs.send_only K act x verb args) IsValue
    unfolding refs.send_only
    sends_only C act x g verb args h = bind_value V (look_follow K V x g) (λ y. bind_place V (look_place K V lined_spots y (got V C (IsValue y))) (λ p. fine_bind V IsMail (idles T (fine_lone_message K T under makes) (idle_lone_message K)) (λ id. sent y p id)))
      where
        sent : (y : Value N) (p : Place N) (id : N) → Fine V (Also (Also (Also C (IsValue y)) (IsPlace p)) (IsMail id)) (tell (Sends act (record { id = id; target = x; verb = verb; args = args; answer = None })) >> (refs.send_first K (record { id = id; target = y; verb = verb; args = args; answer = None }) y p >> give Null)) IsValue
        sent y p id = let m : Message N = record { id = id; target = y; verb = verb; args = args; answer = None } in
            then_unit V (tells (Sends act (record { id = id; target = x; verb = verb; args = args; answer = None })) (λ s c. (g.at s c.0.0.0, h.at s c.0.0.0)))
            (then_unit V (idles T (fine_send_first K T under m (record { at = λ s c. (c.1, c.0.0.1, h.at s c.0.0.0, tt) }) y (record { at = λ s c. c.0.0.1 }) p (record { at = λ s c. c.0.1 })) (idle_send_first K m y p)) (fine_give V Null (record { at = λ s c. tt })))

    reacts : (C : Fact N) (act : ℕ) (x : Value N) → Gets V C (IsValue x) → (o : Value N) → (near : Value N) → Gets V C (IsValue near) → Fine V C (refs.react K act x o near) IsValue
    unfolding refs.react refs.reaction
    reacts C act x g o near h = bind_vat V (look_number V) (λ v. bind_names V (idles T (fine_new_message K T under makes v (got T C (IsVat v))) (idle_message K v)) (λ new. reacted v new.0 new.1))
      where
        reacted : (v : ℕ) (id a : N) → Fine V (Also (Also C (IsVat v)) (Also (IsMail id) (IsName a))) (tell (Reacts act x o (refs.reaction K id near x a)) >> (look (λ s. refs.place K s (refs.follow K s x)) >>= (λ p. refs.react_at K (refs.reaction K id near x a) p >> give (Ref a)))) IsValue
        reacted v id a = let m : Message N = refs.reaction K id near x a in
            then_unit V (tells (Reacts act x o m) (λ s c. tt)) (bind_place V (look_place_of K V lined_spots x (record { at = λ s c. g.at s c.0.0 })) (λ p.
            then_unit V (idles T (fine_react_at K T under m (record { at = λ s c. (c.0.1.0, h.at s c.0.0.0, (g.at s c.0.0.0, tt), c.0.1.1) }) p (record { at = λ s c. c.1 })) (idle_react_at K m p)) (fine_give V (Ref a) (record { at = λ s c. c.0.1.1 }))))

    pub lined_serves : Serves K V
    lined_serves = record {
      spots = lined_spots;
      object = λ s i l. under.object s i l;
      promises = λ C. idles T (fine_promise K T under makes) (idle_promise K);
      smashes = λ C p g t s h c r u. (settles p g (Broken t) (record { at = λ r d. tt })).after s h c;
      resolves = λ C p g y i s h c r u. (resolves p g y i).after s h c;
      sends = λ C act x g verb args h. sends C act x g verb args h;
      sends_only = λ C act x g verb args h. sends_only C act x g verb args h;
      reacts = λ C act x g o i near h. reacts C act x g o near h;
    }
