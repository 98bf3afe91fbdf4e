-- No vat asks itself for a gift: in every world of a run the notes that its last step put ask others.
use Rattle.std.proofs.Common.{◌≡◌, ℕ, zero, suc, Bool, true, false, List, [], ◌∷◌, ◌++◌, Option, Some, None, ◌⊎◌, inl, inr, refl, sym, ◌∙◌, subst, codes, ◌==◌, length, append-nil, if◌then◌else◌}
use Rattle.std.specs.Prelude.{slice_get}
use Rattle.std.proofs.lemmas.Bool.{eq-eqb}
use Rattle.def_machine.specs.Values.{Value, Null, Flag, Number, Letter, Text, Prim, Broken, Items, Ref, Name, Naming, Coming, IsGift, IsLearnt, under, host_of}
use Rattle.def_machine.specs.State.{Passed, Passeds, Plain, AGift, Many, NoMore, More, Note, Deliver, Open, Ask, SettledTo, Elsewhere, Shorten, Put, Vat, Done, Gives, Throws, Ejects, Stops, Act, ◌>>=◌, ◌>>◌, and_then, give, look, come, send_out, draw, draws, drawn_at, begun, is_in}
use Rattle.def_machine.specs.Refs as refs
use Rattle.def_machine.specs.Refs.{host_at}
use Rattle.def_machine.specs.Arrive as arrive
use Rattle.def_machine.specs.Arrive.{Incoming, Old, New}
use Rattle.def_run.specs.World as world
use Rattle.def_run.specs.World.{Script, Program, Entry, Link, World, Goes, names, readied}
use Rattle.law_machine.specs.Machine.Steps.{Step, Opens as Starts, Takes, Receives, Notices, does}
use Rattle.law_fate.specs.Fates.Lasting.{Each}
use Rattle.law_fate.proofs.Fates.Leads.{Leads, Ends, IsLed, leads_bind, leads_then, leads_if, leads_give, leads_look, widen}
use Rattle.law_fate.specs.Name.Names.{AllOf}
use Rattle.law_fate.specs.Name.Runs.{KnowsOnce}
use Rattle.law_fate.proofs.Name.Facts.{all_map, all_append, all_end}
use Rattle.law_fate.proofs.Name.Run.{Stands, opened_stands, steps_stand}
use Rattle.law_reference.specs.Reference.GiftPassing.{PassesFrom, AllPassFrom, Provides}
use Rattle.law_reference.proofs.Reference.GiftLaws.{Fits, fits_opened, fits_stepped}
use Rattle.law_reference.proofs.Reference.GiftLinks.{found_tells}
use Rattle.law_reference.proofs.Reference.Moves.{IsAlone, Does, Moved, Still, Severs, Drops, Steps, Arrives, opened_hold, stepped_hold}
use Rattle.law_reference.proofs.Reference.RunLift.{put_at_or}
use Rattle.law_frame.proofs.Frame.AlikeAsking.{Any, IsNoAsk, Quiet, quiet_settle, quiet_taking, quiet_opening, quiet_learn_name, quiet_learn_message, quiet_have_gift, quiet_arrive_ask, quiet_arrive_open, quiet_arrive_shorten, quiet_see, quiet_make_list, quiet_sent, quiet_notice}

-- a note that asks for a gift is put to another vat than that one
abbrev pub AsksOther : ℕ → ℕ → Note Name → Type 0
AsksOther v to (Ask p i n) = to ≡ v → ⊥
AsksOther v to other = Unit {0}

abbrev pub PutAway : ℕ → Put Name → Type 0
PutAway v p = AsksOther v p.to p.note

-- so are all that are put from one state to another
record Away (v : ℕ) (s t : Vat Name) : Type 0 where
  asks : AllOf (PutAway v) s.outbox → AllOf (PutAway v) t.outbox

no_ask : (v to : ℕ) (n : Note Name) → IsNoAsk n → AsksOther v to n
no_ask v to (Ask p i n) h = absurd h
no_ask v to other h = tt

module _ (v : ℕ) where
  abbrev R : Vat Name → Vat Name → Type 0
  R = Away v

  same : (s t : Vat Name) → t.outbox ≡ s.outbox → R s t
  same s t e = record { asks = λ a. subst (AllOf (PutAway v)) (sym e) a }

  on : {s t u : Vat Name} → R s t → R t u → R s u
  on h k = record { asks = λ a. k.asks (h.asks a) }

  base : IsLed Any R
  base = record {
    same = λ s. same s s refl;
    trans = λ h k. on h k;
    stops = λ s. tt;
    stopped = λ h k. tt;
    fuel = λ s n. record { asks = λ a. a };
    told = λ s e h. record { asks = λ a. a };
    activations = λ s. record { asks = λ a. a };
    thing = λ s t. record { asks = λ a. a };
    killed = λ s n. record { asks = λ a. a };
    slot = λ s c. record { asks = λ a. a };
    written = λ s n y. record { asks = λ a. a };
    list = λ s vs. record { asks = λ a. a };
  }

  -- what puts no note that asks for a gift is so
  from_quiet : (s t : Vat Name) → Quiet s t → R s t
  from_quiet s t h = record { asks = λ a. subst (AllOf (PutAway v)) (sym h.outbox) (all_append (PutAway v) s.outbox h.puts a (all_map (λ (p : Put Name) k. no_ask v p.to p.note k) h.puts h.none)) }

  ends_away : {A : Type 0} (s : Vat Name) (d : Done Name A) → Ends Any Quiet s d → Ends Any R s d
  ends_away s (Gives a t) h = from_quiet s t h
  ends_away s (Throws p t) h = from_quiet s t h
  ends_away s (Ejects n y t) h = from_quiet s t h
  ends_away s (Stops c t) h = tt

  away : {A : Type 0} (m : Act Name A) → Leads Any Quiet m → Leads Any R m
  away m h = record { after = λ s. ends_away s (m s) (h.after s) }

  away_out : (to : ℕ) (n : Note Name) → AsksOther v to n → Leads Any R (send_out to n)
  unfolding send_out
  away_out to n k = record { after = λ s. record { asks = λ a. all_end (PutAway v) s.outbox (record { to = to; note = n }) a k } }

  draws_after : (s : Vat Name) (w : ℕ) (o : Option ℕ) → Ends Any R s (draws w o s)
  unfolding draws
  draws_after s w (Some i) = tt
  draws_after s w None = record { asks = λ a. a }

  module _ (K : Naming Name Name) where
    away_draw : Leads Any R (draw K)
    unfolding draw
    away_draw = record { after = λ s. draws_after s (K.word (length s.drawn)) (drawn_at zero (K.word (length s.drawn)) s.drawn) }

    away_come : (c : Coming Name Name) (h : ℕ) → Leads Any R (come K c h)
    unfolding come
    away_come c h = record { after = λ s. record { asks = λ a. a } }

    away_name : (x : Incoming Name Name) → Leads Any R (arrive.learn_name K x)
    away_name x = away (arrive.learn_name K x) (quiet_learn_name K x)

    away_settle : (n : Name) (y : Value Name) → Leads Any R (refs.settle K n y)
    away_settle n y = away (refs.settle K n y) (quiet_settle K n y)

    -- ---- what is learnt

    learn_value : (y : Value (Incoming Name Name)) → Leads Any R (arrive.learn_value K y)
    unfolding arrive.learn_value
    learn_value Null = leads_give Any R base Null
    learn_value (Flag b) = leads_give Any R base (Flag b)
    learn_value (Number z) = leads_give Any R base (Number z)
    learn_value (Letter c) = leads_give Any R base (Letter c)
    learn_value (Text t) = leads_give Any R base (Text t)
    learn_value (Prim n) = leads_give Any R base (Prim n)
    learn_value (Broken p) = leads_give Any R base (Broken p)
    learn_value (Items k) = leads_give Any R base (Items k)
    learn_value (Ref x) = leads_bind Any R base (away_name x) (λ n. leads_give Any R base (Ref n))

    ask_for : (p h i : ℕ) (n : Name) → (h ≡ v → ⊥) → Leads Any R (arrive.ask_for K p h i n)
    unfolding arrive.ask_for
    ask_for p h i n f = leads_bind Any R base (leads_look Any R base (λ s. is_in h s.noticed)) (λ gone. leads_if Any R base gone (away_settle n (Broken (codes "partition"))) (away_out h (Ask p i n) f))

    learn_gift : (p h i : ℕ) → (h ≡ v → ⊥) → Leads Any R (arrive.learn_gift K p h i)
    unfolding arrive.learn_gift
    learn_gift p h i f = leads_bind Any R base (away_come (IsGift h i) h) (λ n. leads_then Any R base (ask_for p h i n f) (leads_give Any R base (Ref n)))

    module _ (P : ℕ → ℕ) (d : List ℕ) (from : ℕ) where
      mutual
        unfolding arrive.learn arrive.learn_all world.read_passed world.read_all world.plain_read world.many_read world.more_read

        learn : (y : Passed Name) (ks : List Name) → PassesFrom P d from v y → Leads Any R (arrive.learn K from (world.read_passed y ks).read)
        learn (Plain y) ks o = learn_value (world.read_value ks y).read
        learn (AGift h i) ks o = learn_gift from h i o.2
        learn (Many ys) ks o = leads_bind Any R base (learn_all ys ks o) (λ vs. away (arrive.make_list K vs) (quiet_make_list K vs))

        learn_all : (ys : Passeds Name) (ks : List Name) → AllPassFrom P d from v ys → Leads Any R (arrive.learn_all K from (world.read_all ys ks).read)
        learn_all NoMore ks o = leads_give Any R base []
        learn_all (More y ys) ks o = leads_bind Any R base (learn y ks o.0) (λ x. leads_bind Any R base (learn_all ys (world.read_passed y ks).known o.1) (λ xs. leads_give Any R base (x ∷ xs)))

    -- ---- views

    there_or : (u h c i : ℕ) (b : Bool) → u ≡ v → (c == u) ≡ b → Leads Any R (if b then arrive.have_gift K h i else (come K (IsGift c i) c >>= (λ g. send_out c (Ask h i g) >> give g)))
    there_or u h c i true e f = away (arrive.have_gift K h i) (quiet_have_gift K h i)
    there_or u h c i false e f = leads_bind Any R base (away_come (IsGift c i) c) (λ g. leads_then Any R base (away_out c (Ask h i g) (λ x. differ (c == u) (eq-eqb c u (x ∙ sym e)) f)) (leads_give Any R base g))
      where
        differ : (b : Bool) → b ≡ true → b ≡ false → ⊥
        differ b j k = cc

    there : (u h c i : ℕ) → u ≡ v → Leads Any R (arrive.gift_there K u h c i)
    unfolding arrive.gift_there
    there u h c i e = there_or u h c i (c == u) e refl

    -- in a state of that vat
    view_at : (n : Name) (c : ℕ) (s : Vat Name) → s.number ≡ v → Ends Any R s (arrive.view_there K n c s)
    unfolding arrive.view_there ◌>>=◌ ◌>>◌ and_then look
    view_at n c s e = let u : ℕ = s.number in let h : ℕ = host_at K s.number s.known n in
        (leads_bind Any R base away_draw (λ i. leads_then Any R base (away_out h (Shorten n c (under h i)) tt)
        (leads_bind Any R base (there u h c (under h i) e) (λ g. away (arrive.see K n g) (quiet_see K n g))))).after s

    seen_or : (n : Name) (c : ℕ) (s : Vat Name) → s.number ≡ v → (b : Bool) → Ends Any R s ((if b then refs.settle K n (Broken (codes "partition")) else arrive.view_there K n c) s)
    seen_or n c s e true = (away_settle n (Broken (codes "partition"))).after s
    seen_or n c s e false = view_at n c s e

    elsewhere : (x : Incoming Name Name) (c : ℕ) (s : Vat Name) → s.number ≡ v → Ends Any R s (arrive.arrive_elsewhere K x c s)
    unfolding arrive.arrive_elsewhere arrive.learn_name ◌>>=◌ and_then look give come
    elsewhere (Old n) c s e = seen_or n c s e (is_in c s.noticed)
    elsewhere (New x h) c s e = let n : Name = K.made (IsLearnt x) (length s.known) in let t : Vat Name = record s { known = s.known ++ begun n h ∷ [] } in
        widen Any R base {s = s} {t = t} (record { asks = λ a. a }) _ (seen_or n c t e (is_in c s.noticed))

    -- ---- what arrives

    arrival : (P : ℕ → ℕ) (d : List ℕ) (from : ℕ) (ks : List Name) (n : Note Name) → Provides P d from v n → (s : Vat Name) → s.number ≡ v → Ends Any R s (arrive.arrive K from (world.read_note ks n) s)
    unfolding arrive.arrive world.read_note arrive.arrive_deliver arrive.arrive_settled
    arrival P d from ks (Deliver m n verb ys) o s e =
        (leads_bind Any R base (away _ (quiet_learn_message K (New m.message (host_of m.message)))) (λ id. leads_bind Any R base (learn_all P d from ys ks o) (λ args. away _ (quiet_sent K m.asks from (world.read_name (world.read_all ys ks).known n) verb id args)))).after s
    arrival P d from ks (Open i n) o s e = (away _ (quiet_arrive_open K from i (world.read_name ks n))).after s
    arrival P d from ks (Ask p i n) o s e = (away _ (quiet_arrive_ask K from p i)).after s
    arrival P d from ks (SettledTo n y) o s e = (leads_bind Any R base (away_name (world.read_name ks n)) (λ x. leads_bind Any R base (learn P d from y (world.known_after ks n) o) (λ z. away_settle x z))).after s
    arrival P d from ks (Elsewhere n c) o s e = elsewhere (world.read_name ks n) c s e
    arrival P d from ks (Shorten n c i) o s e = (away _ (quiet_arrive_shorten K (world.read_name ks n) i)).after s

-- ---- in runs

abbrev pub VatsAway : List (Vat Name) → Type 0
VatsAway vats = (v : ℕ) (s : Vat Name) → slice_get vats v ≡ Some s → AllOf (PutAway v) s.outbox

vats_put : (vats : List (Vat Name)) (v : ℕ) (t : Vat Name) → VatsAway vats → AllOf (PutAway v) t.outbox → VatsAway (world.put_at v t vats)
vats_put vats v t h a u r e = go (put_at_or v t vats u r e)
  where
    go : ((u ≡ v) × (t ≡ r)) ⊎ (slice_get vats u ≡ Some r) → AllOf (PutAway u) r.outbox
    go (inl i) = subst (λ (z : Vat Name). AllOf (PutAway u) z.outbox) i.1 (subst (λ (z : ℕ). AllOf (PutAway z) t.outbox) (sym i.0) a)
    go (inr i) = h u r i

given : (v : ℕ) (s t : Vat Name) (d : Done Name (Unit {0})) → d ≡ Gives tt t → Ends Any (Away v) s d → AllOf (PutAway v) s.outbox → AllOf (PutAway v) t.outbox
given v s t d e h a = let r : Away v s t = subst (λ (z : Done Name (Unit {0})). Ends Any (Away v) s z) e h in r.asks a

module _ (script : Script) where
  abbrev Past : World → Type 0
  Past w = Stands script w × Fits w

  alone : (w : World) (v : ℕ) (s q t : Vat Name) (what : Step Name Name) → IsAlone what → Does script w v s q t what → AllOf (PutAway v) t.outbox
  unfolding does readied
  alone w v s q t (Starts tree depth root gs) a d = given v (readied w q) t _ d.gives ((away v _ (quiet_opening (names script v) tree depth root gs)).after (readied w q)) tt
  alone w v s q t (Takes tree depth m) a d = given v (readied w q) t _ d.gives ((away v _ (quiet_taking (names script v) tree depth m)).after (readied w q)) tt
  alone w v s q t (Notices u) a d = given v (readied w q) t _ d.gives ((away v _ (quiet_notice (names script v) u)).after (readied w q)) tt
  alone w v s q t (Receives from n) a d = absurd a

  arrived : (w : World) (a v : ℕ) (s t : Vat Name) (n : Note Name) (ns : List (Note Name)) (l : Link) → Fits w → world.link_at a v w.links ≡ Some l → l.notes ≡ n ∷ ns → Does script w v s s t (Receives a (world.read_note (world.names_of s) n)) → AllOf (PutAway v) t.outbox
  unfolding does readied
  arrived w a v s t n ns l f at notes d =
      let told : Each (Provides f.0 w.drawn a v) (n ∷ ns) = subst (Each (Provides f.0 w.drawn a v)) notes (found_tells f.0 w.drawn a v l w.links (let h = f.1 in h.links) at) in
      given v (readied w s) t _ d.gives (arrival v (names script v) f.0 w.drawn a (world.names_of s) n told.0 (readied w s) (let h = f.1 in let k = h.vats v s d.there in k.0)) tt

  away_on : (w y : World) → Past w → Past y → Moved script w y → VatsAway w.vats → VatsAway y.vats
  away_on w y p q (Still v l d) h = subst VatsAway (sym v) h
  away_on w y p q (Severs c e v l d) h = subst VatsAway (sym v) h
  away_on w y p q (Drops c v note ns k at notes none vats links drawn) h = subst VatsAway (sym vats) h
  away_on w y p q (Steps v s z t what one d vats links drawn first fresh) h = subst VatsAway (sym vats) (vats_put w.vats v t h (alone w v s z t what one d))
  away_on w y p q (Arrives c v s t note ns k at cut notes d vats links drawn first fresh) h = subst VatsAway (sym vats) (vats_put w.vats v t h (arrived w c v s t note ns k p.1 at notes d))

  fresh_away : (u : ℕ) (ps : List Program) (n v : ℕ) (s : Vat Name) → slice_get (world.fresh_from script u ps) n ≡ Some s → AllOf (PutAway v) s.outbox
  unfolding world.fresh_from world.fresh
  fresh_away u [] n v s e = cc
  fresh_away u (p ∷ ps) zero v s e = subst (λ (z : Vat Name). AllOf (PutAway v) z.outbox) (some_is (world.fresh script u p) s e) tt
    where
      some_is : (x y : Vat Name) → Some x ≡ Some y → x ≡ y
      some_is x y i = cc
  fresh_away u (p ∷ ps) (suc n) v s e = fresh_away (suc u) ps n v s e

  begun_away : VatsAway (let w : World = world.begins script in w.vats)
  unfolding world.begins
  begun_away v s e = fresh_away zero script.vats v v s e

  module _ (once : KnowsOnce script) where
    opened_past : (ps rest : List Program) (w : World) → script.vats ≡ ps ++ rest → world.open_from script zero ps (world.begins script) ≡ Goes w → Past w
    opened_past ps rest w e o = (opened_stands script once ps rest w e o, fits_opened script ps w o)

    stepped_past : (w x : World) (es : List Entry) (k : ℕ) → world.open_from script zero script.vats (world.begins script) ≡ Goes w → world.steps_from script es k w ≡ Goes x → Past x
    stepped_past w x es k o e = (steps_stand script es k w x (opened_stands script once script.vats [] w (sym (append-nil script.vats)) o) e, fits_stepped script w x es k o e)

    pub opened_away : (ps rest : List Program) (w : World) → script.vats ≡ ps ++ rest → world.open_from script zero ps (world.begins script) ≡ Goes w → VatsAway w.vats
    opened_away = opened_hold script Past opened_past stepped_past (λ w p. p.0) (λ w. VatsAway w.vats) away_on begun_away

    pub stepped_away : (w x : World) (es : List Entry) (k : ℕ) → world.open_from script zero script.vats (world.begins script) ≡ Goes w → world.steps_from script es k w ≡ Goes x → VatsAway x.vats
    stepped_away = stepped_hold script Past opened_past stepped_past (λ w p. p.0) (λ w. VatsAway w.vats) away_on begun_away
