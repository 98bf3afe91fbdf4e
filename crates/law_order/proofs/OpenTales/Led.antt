-- A gift that counts as opened and waits for a name settles well to what the name is followed to, and breaks well: so it does as a tale.
use Rattle.std.proofs.Common.{◌≡◌, ℕ, suc, ◌+◌, ◌≤◌, Bool, true, false, List, [], ◌∷◌, ◌++◌, Some, length, refl, sym, ap, subst, ◌∙◌, ◌⊎◌, inl, inr, arith}
use Rattle.std.proofs.lemmas.List.{append-nil}
use Rattle.std.specs.Prelude.{slice_get}
use Rattle.def_machine.specs.Values.{Value, Items, Ref, Name, Answer, Promise, Gift, Naming, host_of, Msg, Spot, Foreign, NoObject}
use Rattle.def_machine.specs.State.{Known, Unsettled, WaitsOn, WaitOn, Settle, Settles, GiftEntry, Vat, Gives, each, is_in, with_change, with_opened}
use Rattle.def_machine.specs.Arrive.{gift_at}
use Rattle.def_machine.specs.Refs as refs
use Rattle.def_machine.specs.Refs.{Settler, entry_of, standing_of}
use Rattle.def_run.specs.World.{Script, Event, World, names}
use Rattle.law_fate.specs.Fates.Fate.{one}
use Rattle.law_fate.specs.Fates.Lasting.{NoPromise}
use Rattle.law_order.specs.Ordering.Ways.{Held, Nowhere, Ways, nowhere}
use Rattle.law_order.specs.Ordering.Turns.{Reroutes, stays_so, ends_now}
use Rattle.law_order.specs.Ordering.Places.{aimed, leads_in}
use Rattle.law_order.specs.Ordering.Settle.{SettlesHere, IsReady, aimed_at, led_to, settled_to}
use Rattle.law_order.specs.Ordering.Settlings.{ReadyAt, ReadyFor, CanSettle, SendsWell, WaitsWell, KnownWell}
use Rattle.law_order.specs.Ordering.Steps.{Ready, StaysReady, WaysAmid}
use Rattle.law_order.specs.Ordering.Worlds.{IfGives, IsObject, IsKnown, IsFixed, StandsAlike}
use Rattle.law_order.specs.Ordering.Arrivals.{IsLearnt}
use Rattle.law_order.proofs.Ordering.Arrived.{learnt_leads}
use Rattle.law_order.specs.Views.Wholes.{StandsLed, EntryLed, SettlesLed}
use Rattle.law_order.proofs.Views.Quiet.{is_name}
use Rattle.law_order.proofs.Waits.Classes.{owed_at}
use Rattle.law_order.proofs.Waits.Costs.{one_or}
use Rattle.law_order.proofs.Waits.Room.{share, share_most}
use Rattle.law_order.proofs.Steady.Facts.{IsClear, ClearSpot, severed_clear}
use Rattle.law_order.proofs.Steady.Facts as facts
use Rattle.law_order.proofs.Steady.Steady.{Steady, less}
use Rattle.law_order.proofs.Steady.Viewed.{target_ref, no_name_target}
use Rattle.law_order.proofs.Steady.Wells.{all_led, clear_plain, here}
use Rattle.law_order.specs.History.Tells.{Tale}
use Rattle.law_order.specs.Tales.Middle.{middle}
use Rattle.law_order.specs.Settling.Holding.{Holds, HeldCame, VatsAreSound}
use Rattle.law_order.proofs.Settling.Acts.{Told, later_by}
use Rattle.law_order.proofs.Settling.Frames.{changed_frame, less_mild}
use Rattle.law_order.proofs.Settling.Later.{Later, holds_on, held_came}
use Rattle.law_order.proofs.Settling.Settling.{IsList, settlings}
use Rattle.law_order.proofs.Settling.Waiting.{WaitsElse, follow_same, follows_same}
use Rattle.law_order.proofs.Settling.Walk.{IsObjectValue}
use Rattle.law_order.proofs.OpenTales.Settles.{twice, target_same, settles_same}
use Rattle.law_order.proofs.OpenTales.Steadies.{opened_steady}
use Rattle.law_order.proofs.OpenTales.Waits as waits

some_known : (j k : Known Name) → Some j ≡ Some k → j ≡ k
some_known j k e = cc

is_ref : (y : Value Name) → ((n : Name) × (y ≡ Ref n)) ⊎ ((n : Name) → y ≡ Ref n → ⊥)
is_ref (Ref n) = inl (n, refl)
is_ref other = inr (λ n e. cc)

-- an object is no list
apart : (y : Value Name) → IsObjectValue y → IsList y → ⊥
apart (Items k) i l = i
apart other i l = l

aimed_nowhere : (script : Script) (v : ℕ) (t : Vat Name) (y : Value Name) → ((n : Name) → y ≡ Ref n → ⊥) → aimed_at script v t y ≡ Nowhere
unfolding aimed_at refs.severed refs.place aimed
aimed_nowhere script v t (Ref n) f = absurd (f n refl)
aimed_nowhere script v t other f = refl

-- where an object stands does not hang on the vat
spotted_same : (K : Naming Name Name) (s t : Vat Name) (hs : List ℕ) (n : Name) (q : Spot) → ClearSpot hs q → refs.spotted K t n q ≡ refs.spotted K s n q
unfolding refs.spotted
spotted_same K s t hs n NoObject h = absurd h
spotted_same K s t hs n other h = refl

placed_same : (K : Naming Name Name) (s t : Vat Name) (hs : List ℕ) (n : Name) → ClearSpot hs (K.spot n) → refs.place K t (Ref n) ≡ refs.place K s (Ref n)
unfolding refs.place
placed_same K s t hs n clear = spotted_same K s t hs n (K.spot n) clear

-- what is asked for the value is asked of a later vat
module _ (script : Script) (honest : ℕ → Bool) (w : World) (v : ℕ) (s t : Vat Name) (noticed : t.noticed ≡ s.noticed) (ready : Ready script honest w v s → Ready script honest w v t) where
  ready_at : (q : Spot) → ReadyAt script honest w v s q → ReadyAt script honest w v t q
  ready_at (Foreign h) r = (ready r.0, ap (λ hs. is_in h hs) noticed ∙ r.1)
  ready_at other r = tt

  ready_for : (z : Value Name) → ReadyFor script honest w v s z → ReadyFor script honest w v t z
  ready_for (Ref n) r = ready_at ((names script v).spot n) r
  ready_for (Items k) r = ready r
  ready_for other r = tt

module _ (script : Script) (honest : ℕ → Bool) (all : (u : ℕ) → honest u ≡ true) (w : World) (b : ℕ) (r : Vat Name) (at : slice_get w.vats b ≡ Some r) (s : Vat Name) (a i : ℕ) (entry : GiftEntry Name) (kept : gift_at a i s.gifts ≡ Some entry) (named : entry.name ≡ Gift b i) (g : Known Name) (found : entry_of (names script b) s.known (Gift b i) ≡ Some g) (unsettled_yet : g.standing ≡ Unsettled)
    (n : Name) (c o : Name → ℕ) (steady : Steady script w b c o s) where
  abbrev K : Naming Name Name
  K = names script b

  abbrev G : Name
  G = Gift b i

  abbrev Opened : Vat Name
  Opened = record s { gifts = with_opened a i s.gifts }

  abbrev Just : Vat Name
  Just = record Opened { known = with_change K (WaitOn n) G s.known }

  abbrev After : Known Name
  After = record g { standing = WaitsOn n }

  else_so : WaitsElse K G Opened Just
  else_so = waits.waits_else script honest b s a i entry kept named g found unsettled_yet n

  found_now : entry_of K Just.known G ≡ Some After
  found_now = waits.found_now script honest b s a i entry kept named g found unsettled_yet n

  stood : standing_of K s.known G ≡ Unsettled
  unfolding standing_of refs.standing_in
  stood = ap (λ z. refs.standing_in z) found ∙ unsettled_yet

  -- ---- it stays ready

  known_back : (m : Name) → IsKnown K Just m → IsKnown K Opened m
  known_back m k = go (is_name m G)
    where
      go : (m ≡ G) ⊎ (m ≡ G → ⊥) → IsKnown K Opened m
      go (inl e) = (g, ap (λ z. entry_of K s.known z) e ∙ found)
      go (inr f) = (k.0, sym (else_so.others m f) ∙ k.1)

  fixed_on : (z : Value Name) → IsFixed K Opened z → IsFixed K Just z
  fixed_on (Ref m) (inl q) = inl q
  fixed_on (Ref m) (inr k) = go (is_name m G)
    where
      go : (m ≡ G) ⊎ (m ≡ G → ⊥) → IsFixed K Just (Ref m)
      go (inl e) = inr (else_so.after, ap (λ z. entry_of K Just.known z) e ∙ else_so.found_then, else_so.waits_then)
      go (inr f) = inr (k.0, else_so.others m f ∙ k.1, k.2)
  fixed_on other q = tt

  followed_so : (m : Name) → refs.follow_at K (suc (length Just.known)) Just.known (Ref m) ≡ refs.follow_at K (suc (length Opened.known)) Opened.known (Ref m)
  followed_so m = follows_same script honest b G Opened Just else_so (suc (length Just.known)) (Ref m) ∙ ap (λ d. refs.follow_at K (suc d) s.known (Ref m)) else_so.names_known

  answer_apart : (h : ℕ) (m : Msg) → Answer h m ≡ G → ⊥
  answer_apart h m e = cc

  promise_apart : (u j : ℕ) → Promise u j ≡ G → ⊥
  promise_apart u j e = cc

  object_apart : (m : Name) → IsObject m → m ≡ G → ⊥
  object_apart m q e = subst IsObject e q

  just_ready : Ready script honest w b Opened → Ready script honest w b Just
  just_ready q = record {
    number = q.number;
    ends = record { objects = λ m j. else_so.others m (object_apart m j) ∙ q.ends.objects m j; fixed = λ m k. subst (IsFixed K Just) (sym (followed_so m)) (fixed_on (refs.follow_at K (suc (length Opened.known)) Opened.known (Ref m)) (q.ends.fixed m (known_back m k))) };
    draws = q.draws;
    answers = λ h j l. else_so.others (Answer h (record { sender = b; number = j })) (answer_apart h (record { sender = b; number = j })) ∙ q.answers h j l;
    promises = λ j l. else_so.others (Promise b j) (promise_apart b j) ∙ q.promises j l;
  }

  pub opened_ready : Ready script honest w b Opened
  opened_ready = facts.ready script w b honest c o Opened (opened_steady script w b c o s steady a i)

  stay : StaysReady script honest w b Opened Just
  stay q = (just_ready q, waits.just_grown script honest b s a i entry kept named g found unsettled_yet n w r at)

  -- ---- it settles well where it waits for nothing

  own_host : host_of G ≡ b
  unfolding host_of
  own_host = refl

  gift_unowed : owed_at b G ≡ false
  unfolding owed_at
  gift_unowed = refl

  hand_none : (z : Name) → share (owed_at b z) (one G z) ≡ 0
  unfolding share
  hand_none z = go (one_or G z)
    where
      go : (one G z ≡ 0) ⊎ (G ≡ z) → share (owed_at b z) (one G z) ≡ 0
      go (inl e) = let most = share_most (owed_at b z) (one G z) in omega arith
      go (inr e) = ap (λ q. share q (one G z)) (ap (owed_at b) (sym e) ∙ gift_unowed)

  in_hand : Steady script w b (λ z. share (owed_at b z) (one G z) + c z) o Opened
  in_hand = less script w b c o (λ z. share (owed_at b z) (one G z) + c z) o (λ z. let none = hand_none z in omega arith) (λ z. omega arith) Opened (opened_steady script w b c o s steady a i)

  module _ (y : Value Name) (last : NoPromise y) (clear : IsClear K s.noticed y) where
    of_opened : (d : ℕ) → d ≤ suc (suc (length s.known)) → SettlesLed script honest w b y d G Opened
    of_opened d l = (all_led script honest all w b r at d).so y last c o G Opened clear in_hand l (here own_host stood (inl (waits.loose script honest b s a i entry kept named g found unsettled_yet w r at)))

    abbrev Z : Value Name
    Z = refs.target_of K Opened G y

    same_target : refs.target_of K Just G y ≡ Z
    same_target = target_same K Opened Just refl (λ v. follow_same script honest b G Opened Just else_so v) G y

    -- the vat as it settled, from both
    abbrev Then : List (Known Name) → Vat Name
    Then ks = record Opened { known = ks }

    ends_same : Then (with_change K (Settle Z) G Just.known) ≡ Then (with_change K (Settle Z) G s.known)
    ends_same = ap (λ ks. Then ks) (twice K Z n G s.known)

    module _ (learnt : IsLearnt b script s n) (leads : (q : Name) → y ≡ Ref q → refs.follow K s (Ref n) ≡ Ref q) where
      -- ---- it can settle so where it waits

      here_now : SettlesHere K Opened (settled_to K Opened G Z) G Z b → SettlesHere K Just (settled_to K Just G Z) G Z b
      here_now h = subst (λ t. SettlesHere K Just t G Z b) (sym ends_same) (record {
        only = record {
          number = h.only.number;
          gifts = h.only.gifts;
          noticed = h.only.noticed;
          queue = h.only.queue;
          outbox = h.only.outbox;
          names_known = h.only.names_known ∙ sym else_so.names_known;
          before = (After, found_now, tt);
          after = h.only.after;
          others = λ m. other m (h.only.others m);
        };
        own = h.own;
        host = λ j e. ap (λ (z : Known Name). z.host) (some_known j After (sym e ∙ found_now)) ∙ h.host g found;
        host_after = h.host_after;
        itself = h.itself;
        plain = h.plain;
        ended = h.ended;
        follows = h.follows;
      })
        where
          other : (m : Name) → (m ≡ G) ⊎ ((m ≡ G → ⊥) × StandsAlike m (entry_of K Opened.known m) (entry_of K (with_change K (Settle Z) G s.known) m)) → (m ≡ G) ⊎ ((m ≡ G → ⊥) × StandsAlike m (entry_of K Just.known m) (entry_of K (with_change K (Settle Z) G s.known) m))
          other m (inl e) = inl e
          other m (inr f) = inr (f.0, subst (λ q. StandsAlike m q (entry_of K (with_change K (Settle Z) G s.known) m)) (sym (else_so.others m f.0)) f.1)

      -- where it settles to an object it leads there
      to_object : (q : Name) → y ≡ Ref q → leads_in script honest b s (Ref n) ≡ aimed_at script b (Then (with_change K (Settle Z) G s.known)) (Ref q)
      unfolding aimed_at
      to_object q e = let clear_q : IsClear K s.noticed (Ref q) = subst (λ z. IsClear K s.noticed z) e clear in let t : Vat Name = Then (with_change K (Settle Z) G s.known) in
          learnt_leads script honest b s n learnt ∙ ap (λ z. aimed b z (refs.place K s z)) (leads q e) ∙ ap (λ z. aimed b (Ref q) z) (sym (placed_same K s t s.noticed q clear_q)) ∙ sym (ap (λ z. aimed b z (refs.place K t z)) (severed_clear script b t (Ref q) clear_q))

      abbrev W : Ways
      W = WaysAmid script honest w b Just

      leads_now : (m : Name) → W.onward (Held b G) m ≡ leads_in script honest b s (Ref n)
      leads_now m = waits.leads_on script honest b s a i entry kept named g found unsettled_yet w r at Just (waits.just_grown script honest b s a i entry kept named g found unsettled_yet n w r at) n (waits.waits_so script honest b s a i entry kept named g found unsettled_yet n) m

      place_now : ((q : Name) × (y ≡ Ref q)) ⊎ ((q : Name) → y ≡ Ref q → ⊥) → IsReady W b G (aimed_at script b (settled_to K Just G Z) Z)
      place_now (inl k) m = let e : aimed_at script b (settled_to K Just G Z) Z ≡ leads_in script honest b s (Ref n) =
          ap (λ t. aimed_at script b t Z) ends_same ∙ ap (λ z. aimed_at script b (Then (with_change K (Settle Z) G s.known)) z) (ap (λ z. refs.target_of K Opened G z) k.1 ∙ target_ref script honest w b Opened G k.0) ∙ sym (to_object k.0 k.1) in
          subst (λ p. Reroutes W (led_to W b G p) (W.onward (Held b G) m) p) (sym e) (subst (λ p. Reroutes W (led_to W b G (leads_in script honest b s (Ref n))) p (leads_in script honest b s (Ref n))) (sym (leads_now m)) stays_so)
      place_now (inr f) m = subst (λ p. Reroutes W (led_to W b G p) (W.onward (Held b G) m) p) (sym (aimed_nowhere script b (settled_to K Just G Z) Z (no_name_target script honest w b Opened G y f))) (ends_now nowhere)

      can_now : CanSettle script honest w b Z G g Opened → CanSettle script honest w b Z G After Just
      can_now h = (here_now h.0, h.1, place_now (is_ref y), ready_for script honest w b Opened Just refl just_ready Z h.3)

      -- ---- what it held and what waits for it does as from there

      abbrev Lined : List (Known Name) → Vat Name
      Lined ks = record Opened { happened = s.happened ++ Settles G Z ∷ []; known = ks }

      module _ (d : ℕ) where
        abbrev R : Name → Vat Name → Type 0
        R q t = SettlesLed script honest w b Z d q t

        abbrev Inner : Settler {N = Name} {W = Name} K
        Inner = λ q z. refs.settle_at K d q z

        known_opened : SettlesLed script honest w b y (suc d) G Opened → KnownWell script honest w b Z R Inner G g Opened
        known_opened h = subst (λ q. StandsLed script honest w b Z R Inner G g q Opened) unsettled_yet (subst (λ z. EntryLed script honest w b Z R Inner G z Opened) found h)

        known_just : KnownWell script honest w b Z R Inner G g Opened → KnownWell script honest w b Z R Inner G After Just
        known_just h = (
          can_now h.0,
          subst (λ ks. SendsWell script honest w b Z R Inner g.held (Lined ks)) (sym (twice K Z n G s.known)) h.1,
          subst (λ ks. IfGives (λ u. WaitsWell script honest w b Z R Inner G g.waiting u) (each (refs.send_on K Inner) g.held (Lined ks))) (sym (twice K Z n G s.known)) h.2,
        )

        led_just : d ≤ suc (length s.known) → SettlesLed script honest w b y (suc d) G Just
        led_just l = subst (λ z. EntryLed script honest w b z (λ q t. SettlesLed script honest w b z d q t) Inner G (entry_of K Just.known G) Just) (sym same_target)
            (subst (λ z. EntryLed script honest w b Z R Inner G z Just) (sym found_now) (known_just (known_opened (of_opened (suc d) (omega arith)))))

      -- ---- so it settles by small steps

      module _ (head : List Event) (sound : VatsAreSound script w) (holds : Holds script honest w b head Opened) (came : HeldCame script honest w b head Opened) where
        later : Later script honest w b head ⊥ Opened Just
        later = later_by script honest w b head ⊥ Opened Just [] (sym (append-nil s.happened)) tt opened_ready stay (less_mild script b (WaitOn n) tt G Opened Just refl)
            (λ l v k f. sym (follow_same script honest b G Opened Just else_so v) ∙ f) (changed_frame K (WaitOn n) G Opened Just refl refl refl)

        few : suc (length Just.known) ≤ suc (length s.known)
        few = let same : length Just.known ≡ length s.known = else_so.names_known in omega arith

        pub settled_tale : (t : Vat Name) → refs.settle K G y Opened ≡ Gives tt t → Tale script honest (middle w b head Just) (middle w b head t)
        settled_tale t e = let run : refs.settle_at K (suc (suc (length Just.known))) G y Just ≡ Gives tt t = settles_same K Opened G g found unsettled_yet n found_now else_so.names_known (λ v. follow_same script honest b G Opened Just else_so v) y ∙ e in
            let told : Told script honest w b head (IsList y) Just t = subst (λ d. IfGives (λ u. Told script honest w b head (IsList y) Just u) d) run
            (settlings script honest w b head (IsList y) r at all sound y (clear_plain script honest all w b r at s.noticed y clear) (λ l. l) (apart y) (suc (suc (length Just.known))) G Just
            (led_just (suc (length Just.known)) few) (holds_on script honest w b head ⊥ Opened Just later holds) (λ q. held_came script honest w b head ⊥ Opened Just later (λ l. l) came)) in told.tale
