-- What a vat does as a name of its breaks: what the name held is lost, names that waited for it break, and others are told. So names sink, and order is kept.
use Rattle.std.proofs.Common.{◌≡◌, ℕ, zero, suc, Bool, true, false, List, [], ◌∷◌, ◌++◌, Option, Some, None, length, refl, sym, ap, subst, ◌∙◌, ◌⊎◌, inl, inr}
use Rattle.std.proofs.lemmas.List.{append-nil}
use Rattle.std.specs.Prelude.{slice_get, nat_le, ◌-◌, if◌then◌else◌}
use Rattle.def_machine.specs.Values.{Words, Value, Broken, Ref, Name, Naming, host_of}
use Rattle.def_machine.specs.State.{Message, Standing, Unsettled, WaitsOn, Viewed, Settled, Known, Vat, Done, Plain, SettledTo, Lost, Settles, WhereSome}
use Rattle.def_machine.specs.State as state
use Rattle.def_machine.specs.Refs as refs
use Rattle.def_machine.specs.Refs.{Settler, Gone, entry_of, standing_of, standing_in, follow_at}
use Rattle.def_run.specs.World.{Script, World, names}
use Rattle.law_fate.specs.Name.Names.{AllOf, IsAmong}
use Rattle.law_order.specs.Ordering.Ways.{Nowhere, Doom, nowhere}
use Rattle.law_order.specs.Ordering.Places.{aimed}
use Rattle.law_order.specs.Ordering.Worlds.{IfGives}
use Rattle.law_order.specs.Ordering.Settle.{IsReady, AllOn, aimed_at, led_to, settled_to}
use Rattle.law_order.specs.Ordering.Settlings.{with_line, CanSettle, LosesWell, SendsWell, WaitsWell, KnownWell}
use Rattle.law_order.specs.Ordering.Steps.{WaysAmid, Ready, StaysInOrder}
use Rattle.law_order.specs.Ordering.Turns.{ends_now}
use Rattle.law_order.proofs.Ordering.Adds.{adds_nothing, adds_message}
use Rattle.law_order.proofs.Ordering.Remaining.{kept_grown, order_then}
use Rattle.law_order.proofs.Ordering.Sends.{if_map, if_both, chain}
use Rattle.law_order.proofs.Ordering.SettledPlaces.{nothing_so}
use Rattle.law_order.proofs.Ordering.Whole.{kept_adds}
use Rattle.law_order.specs.Views.Wholes.{ViewWell, StandsLed, EntryLed, SettlesLed}
use Rattle.law_order.proofs.Views.Led.{views_settle_quietly}
use Rattle.law_order.proofs.Views.Settling.{IsOpen, viewed_names_settle_so}
use Rattle.law_order.proofs.Views.Wholes.{led_settlings_keep}
use Rattle.law_order.proofs.Runs.Truths.{data_self}
use Rattle.law_order.specs.Waits.Answers.{IsWaitOf}
use Rattle.law_order.proofs.Notices.Sinking.{StandsWell, AnswersHere, IsWell, Sound, Sinks, sinks_same, sinks_self, sinks_line, IsEnding, sinks_then, stands_then, down_then, sound_then, breaks_sinks, down, settles_here}

module _ (script : Script) (honest : ℕ → Bool) (w : World) (v : ℕ) (r : Vat Name) (at : slice_get w.vats v ≡ Some r) (P : Message Name → Type 0) (problem : Words) where
  abbrev K : Naming Name Name
  K = names script v

  abbrev Y : Value Name
  Y = Broken problem

  abbrev Kept : Vat Name → Vat Name → Type 0
  Kept s t = StaysInOrder script honest w v s t

  abbrev Sinking : Vat Name → Vat Name → Type 0
  Sinking s t = Sinks K P Y s t

  -- names broke, and order was kept
  abbrev pub Goes : Vat Name → Vat Name → Type 0
  Goes s t = Sinking s t × Kept s t

  -- what is shown of the vat in each state
  abbrev pub Fit : Vat Name → Type 0
  Fit s = Sound K P v s × Ready script honest w v s

  pub goes_then : (s t u : Vat Name) → Goes s t → Goes t u → Goes s u
  goes_then s t u g h = (sinks_then K P Y s t u g.0 h.0, order_then script honest w v s t u g.1 h.1)

  pub fit_then : (s t : Vat Name) → Goes s t → Fit s → Fit t
  fit_then s t g h = (sound_then K P Y v tt s t g.0 h.0, g.1.0 h.1)

  from_there : {A : Type 0} (s t : Vat Name) (d : Done Name A) → Goes s t → IfGives (Goes t) d → IfGives (Goes s) d
  from_there s t d g h = if_map (Goes t) (Goes s) (λ u i. goes_then s t u g i) d h

  pub goes_self : (s : Vat Name) → Goes s s
  goes_self s = (sinks_self K P Y s, kept_adds script honest w v s s (adds_nothing K s s refl refl refl refl refl refl, refl, refl, refl))

  pub goes_line : (s : Vat Name) (e : state.Happened Name) → IsEnding e → Goes s (with_line s e)
  goes_line s e h = (sinks_line K P Y s e h, kept_adds script honest w v s (with_line s e) (adds_nothing K s (with_line s e) refl refl refl refl refl refl, refl, refl, refl))

  goes_queue : (s : Vat Name) (m : Message Name) → P m → Goes s (record s { queue = s.queue ++ m ∷ [] })
  goes_queue s m h = let t : Vat Name = record s { queue = s.queue ++ m ∷ [] } in (sinks_same K P Y s t refl refl refl refl (m ∷ [], refl, (h, tt)) ([], sym (append-nil s.outbox), tt) ([], sym (append-nil s.happened), tt), kept_adds script honest w v s t (adds_message K s m, refl, refl, refl))

  -- ---- a broken name

  abbrev pub IsDown : Name → Vat Name → Type 0
  IsDown p s = standing_of K s.known p ≡ Settled Y

  pub down_still : (s t : Vat Name) (p : Name) → Goes s t → IsDown p s → IsDown p t
  down_still s t p g e = down_then K P Y s t g.0 p e

  broken_self : (s : Vat Name) → refs.follow K s Y ≡ Y
  unfolding refs.follow refs.severed
  broken_self s = ap (λ z. refs.severed K s z) (data_self script v (suc (length s.known)) s.known Y tt)

  -- it is followed to what is broken
  down_follows : (s : Vat Name) (p : Name) → IsDown p s → refs.follow K s (Ref p) ≡ Y
  unfolding refs.follow refs.severed refs.led follow_at
  down_follows s p e = ap (λ z. refs.severed K s z) (ap (λ q. refs.led K (λ z. follow_at K (length s.known) s.known z) p q) e ∙ data_self script v (length s.known) s.known Y tt)

  -- ---- who may break so

  -- what is unsettled is the vat's own, and what is viewed has a view that broke
  abbrev MayStand : Vat Name → Name → Standing Name → Type 0
  MayStand s q Unsettled = host_of q ≡ v
  MayStand s q (Viewed g) = IsDown g s
  MayStand s q other = Unit {0}

  abbrev pub MayBreak : Name → Vat Name → Type 0
  MayBreak q s = MayStand s q (standing_of K s.known q)

  stand_then : (s t : Vat Name) (q : Name) (z : Standing Name) → Goes s t → MayStand s q z → MayStand t q z
  stand_then s t q (Viewed g) h i = down_still s t g h i
  stand_then s t q other h i = i

  may_then : (s t : Vat Name) (q : Name) → Goes s t → MayBreak q s → MayBreak q t
  may_then s t q g h = go (stands_then K P Y s t g.0 q)
    where
      go : (standing_of K t.known q ≡ standing_of K s.known q) ⊎ (standing_of K t.known q ≡ Settled Y) → MayBreak q t
      go (inl e) = subst (λ z. MayStand t q z) (sym e) (stand_then s t q (standing_of K s.known q) g h)
      go (inr e) = subst (λ z. MayStand t q z) (sym e) tt

  stand_own : (s : Vat Name) (q : Name) (z : Standing Name) → host_of q ≡ v → StandsWell v q z → MayStand s q z
  stand_own s q Unsettled own h = own
  stand_own s q (Viewed g) own h = absurd (h own)
  stand_own s q other own h = tt

  found_own : (s : Vat Name) (q : Name) (o : Option (Known Name)) → host_of q ≡ v → ((k : Known Name) → o ≡ Some k → IsWell P v q k) → MayStand s q (standing_in o)
  unfolding standing_in
  found_own s q (Some k) own f = stand_own s q k.standing own (f k refl).stands
  found_own s q None own f = own

  -- each name of the vat may
  pub own_may : (s : Vat Name) (q : Name) → Sound K P v s → host_of q ≡ v → MayBreak q s
  unfolding standing_of
  own_may s q h own = found_own s q (entry_of K s.known q) own (λ k e. h.known q k e)

  wait_stand : (s : Vat Name) (p q : Name) (z : Standing Name) → IsDown p s → IsWaitOf p z → MayStand s q z
  wait_stand s p q Unsettled e h = absurd h
  wait_stand s p q (Viewed g) e h = subst (λ x. IsDown x s) (sym h) e
  wait_stand s p q other e h = tt

  -- and what waits on a name that broke
  pub waiter_may : (s : Vat Name) (p q : Name) → IsDown p s → IsWaitOf p (standing_of K s.known q) → MayBreak q s
  waiter_may s p q e h = wait_stand s p q (standing_of K s.known q) e h

  -- ---- the vat is told

  told_by : (s : Vat Name) (p : Name) (h n : ℕ) (c : Bool) → IfGives (Sinking s) (state.and_then (state.and_then (state.spent n c s) (λ _. refs.address K h (Plain Y))) (λ z. state.send_out h (SettledTo p z)))
  unfolding state.and_then state.spent state.send_out refs.address refs.address_plain refs.place state.◌>>=◌ state.look state.give
  told_by s p h n true = sinks_same K P Y s (record s { fuel = s.fuel - n; outbox = s.outbox ++ record { to = h; note = SettledTo p (Plain Y) } ∷ [] }) refl refl refl refl ([], sym (append-nil s.queue), tt) (record { to = h; note = SettledTo p (Plain Y) } ∷ [], refl, ((p, Plain Y, refl), tt)) ([], sym (append-nil s.happened), tt)
  told_by s p h n false = tt

  told_if : (s : Vat Name) (p : Name) (h : ℕ) (c : Bool) → IfGives (Sinking s) ((if c then state.give tt else refs.inform_of K p h Y (Gone problem)) s)
  unfolding state.give refs.inform_of state.◌>>=◌ state.◌>>◌ state.and_then state.look state.spend refs.pass refs.parcel refs.parcel_at refs.follow refs.severed follow_at
  told_if s p h true = sinks_self K P Y s
  told_if s p h false = told_by s p h (refs.own_weight Y) (nat_le (refs.own_weight Y) s.fuel)

  informed_at : (s : Vat Name) (p : Name) (h : ℕ) (z : Value Name) → z ≡ Y → IfGives (Sinking s) ((if state.is_in h s.noticed then state.give tt else refs.inform_of K p h z (refs.place K s z)) s)
  unfolding refs.place
  informed_at s p h z e = subst (λ x. IfGives (Sinking s) ((if state.is_in h s.noticed then state.give tt else refs.inform_of K p h x (refs.place K s x)) s)) (sym e) (told_if s p h (state.is_in h s.noticed))

  informed : (s : Vat Name) (p : Name) (h : ℕ) → IsDown p s → IfGives (Sinking s) (refs.inform K p h s)
  unfolding refs.inform state.◌>>=◌ state.and_then state.look
  informed s p h e = informed_at s p h (refs.follow K s (Ref p)) (down_follows s p e)

  tells : (p : Name) (hs : List ℕ) (s : Vat Name) → IsDown p s → IfGives (Sinking s) (state.each (refs.inform K p) hs s)
  unfolding state.each state.◌>>◌ state.give
  tells p [] s e = sinks_self K P Y s
  tells p (h ∷ hs) s e = chain (Sinking s) (Sinking s) (refs.inform K p h s) (state.each (refs.inform K p) hs) (informed s p h e)
      (λ t g. if_map (Sinking t) (Sinking s) (λ u i. sinks_then K P Y s t u g i) (state.each (refs.inform K p) hs t) (tells p hs t (down_then K P Y s t g p e)))

  -- reactions are queued
  pub queues : (ms : List (Message Name)) (s : Vat Name) → AllOf P ms → IfGives (Goes s) (state.each state.enqueue ms s)
  unfolding state.each state.◌>>◌ state.and_then state.give state.enqueue
  queues [] s h = goes_self s
  queues (m ∷ ms) s h = let t : Vat Name = record s { queue = s.queue ++ m ∷ [] } in from_there s t (state.each state.enqueue ms t) (goes_queue s m h.0) (queues ms t h.1)

  -- ---- names break, where each settling inside goes so

  module _ (R : Name → Vat Name → Type 0) (settle : Settler {N = Name} {W = Name} (names script v)) (each_breaks : (q : Name) (s : Vat Name) → Fit s → MayBreak q s → R q s × IfGives (Goes s) (settle q (Broken problem) s)) where
    -- the answer of a message that is lost breaks
    answer_breaks : (s : Vat Name) (o : Option Name) → Fit s → WhereSome (λ a. host_of a ≡ v) o → WhereSome (λ a. R a s) o × IfGives (Goes s) (state.for_some o (λ a. settle a Y) (state.give tt) s)
    unfolding state.for_some state.give
    answer_breaks s (Some a) h own = each_breaks a s h (own_may s a h.0 own)
    answer_breaks s None h own = (tt, goes_self s)

    loses : (m : Message Name) (s : Vat Name) → Fit s → AnswersHere v m → WhereSome (λ a. R a (with_line s (Lost m.id))) m.answer × IfGives (Goes s) (refs.send_to K settle m Y (Gone problem) s)
    unfolding refs.send_to state.◌>>◌ state.and_then state.tell
    loses m s h own = let t = with_line s (Lost m.id) in let line = goes_line s (Lost m.id) tt in let rest = answer_breaks t m.answer (fit_then s t line h) own in
        (rest.0, from_there s t (state.for_some m.answer (λ a. settle a Y) (state.give tt) t) line rest.1)

    sends_one : (p : Name) (m : Message Name) (s : Vat Name) → Fit s → IsDown p s → m.target ≡ Ref p → AnswersHere v m → LosesWell script honest w v Y R Y m s × IfGives (Goes s) (refs.send_on K settle m s)
    unfolding refs.send_on state.◌>>=◌ state.and_then state.look refs.place
    sends_one p m s h e on own = let followed : refs.follow K s m.target ≡ Y = ap (λ x. refs.follow K s x) on ∙ down_follows s p e in let rest = loses m s h own in
        ((followed, rest.0), subst (λ z. IfGives (Goes s) (refs.send_to K settle m z (refs.place K s z) s)) (sym followed) rest.1)

    pub sends : (p : Name) (ms : List (Message Name)) (s : Vat Name) → Fit s → IsDown p s → AllOn p ms → AllOf (AnswersHere v) ms → SendsWell script honest w v Y R settle ms s × IfGives (Goes s) (state.each (refs.send_on K settle) ms s)
    unfolding state.each state.◌>>◌ state.give
    sends p [] s h e on own = (tt, goes_self s)
    sends p (m ∷ ms) s h e on own = let first = sends_one p m s h e on.0 own.0 in (
      (first.0, if_map (Goes s) (λ t. SendsWell script honest w v Y R settle ms t) (λ t g. (sends p ms t (fit_then s t g h) (down_still s t p g e) on.1 own.1).0) (refs.send_on K settle m s) first.1),
      chain (Goes s) (Goes s) (refs.send_on K settle m s) (state.each (refs.send_on K settle) ms) first.1
          (λ t g. from_there s t (state.each (refs.send_on K settle) ms t) g (sends p ms t (fit_then s t g h) (down_still s t p g e) on.1 own.1).1),
    )

    pub waits : (p : Name) (qs : List Name) (s : Vat Name) → Fit s → IsDown p s → ((q : Name) → IsAmong q qs → MayBreak q s) → WaitsWell script honest w v Y R settle p qs s × IfGives (Goes s) (state.each (λ q. settle q Y) qs s)
    unfolding state.each state.◌>>◌ state.give
    waits p [] s h e may = ((down_follows s p e, broken_self s), goes_self s)
    waits p (q ∷ qs) s h e may = let first = each_breaks q s h (may q (inl refl)) in (
      (first.0, if_map (Goes s) (λ t. WaitsWell script honest w v Y R settle p qs t) (λ t g. (waits p qs t (fit_then s t g h) (down_still s t p g e) (λ x a. may_then s t x g (may x (inr a)))).0) (settle q Y s) first.1),
      chain (Goes s) (Goes s) (settle q Y s) (state.each (λ x. settle x Y) qs) first.1
          (λ t g. from_there s t (state.each (λ x. settle x Y) qs t) g (waits p qs t (fit_then s t g h) (down_still s t p g e) (λ x a. may_then s t x g (may x (inr a)))).1),
    )

    -- ---- one name

    module _ (p : Name) (k : Known Name) (s : Vat Name) (found : entry_of (names script v) s.known p ≡ Some k) (open_still : IsOpen k.standing) (h : Fit s) where
      abbrev T : Vat Name
      T = settled_to K s p Y

      abbrev Line : Vat Name
      Line = with_line s (Settles p Y)

      abbrev Then : Vat Name
      Then = settled_to K Line p Y

      line_fit : Fit Line
      line_fit = fit_then s Line (goes_line s (Settles p Y) tt) h

      well : IsWell P v p k
      well = h.0.known p k found

      -- from here on it is broken
      module _ (first : Kept s T) where
        then_goes : Goes s Then
        then_goes = (
          sinks_then K P Y s Line Then (goes_line s (Settles p Y) tt).0 (breaks_sinks script P v Line p problem k found open_still),
          order_then script honest w v s T Then first (kept_adds script honest w v T Then (adds_nothing K T Then refl refl refl refl refl refl, refl, refl, refl)),
        )

        then_fit : Fit Then
        then_fit = fit_then s Then then_goes h

        then_down : IsDown p Then
        then_down = down script P v Line p problem k found open_still

        -- what waited on it
        may_wait : (q : Name) → IsAmong q k.waiting → MayBreak q Then
        may_wait q a = go (stands_then K P Y s Then then_goes.0 q)
          where
            go : (standing_of K Then.known q ≡ standing_of K s.known q) ⊎ (standing_of K Then.known q ≡ Settled Y) → MayBreak q Then
            go (inl e) = waiter_may Then p q then_down (subst (IsWaitOf p) (sym e) (h.0.waits p k q found a))
            go (inr e) = subst (λ z. MayStand Then q z) (sym e) tt

        sent : SendsWell script honest w v Y R settle k.held Then × IfGives (Goes Then) (state.each (refs.send_on K settle) k.held Then)
        sent = sends p k.held Then then_fit then_down well.on well.answers

        waited : (t : Vat Name) → Goes Then t → WaitsWell script honest w v Y R settle p k.waiting t × IfGives (Goes t) (state.each (λ q. settle q Y) k.waiting t)
        waited t g = waits p k.waiting t (fit_then Then t g then_fit) (down_still Then t p g then_down) (λ q a. may_then Then t q g (may_wait q a))

        abbrev Rest : List (Message Name) → List ℕ → Done Name (Unit {0})
        Rest ms hs = state.and_then (state.each (refs.send_on K settle) ms Then) (λ a. λ t. state.and_then (state.each (λ q. settle q Y) k.waiting t) (λ b. λ u. state.and_then (state.each state.enqueue k.reactions u) (λ c. state.each (refs.inform K p) hs)))

        -- names sink
        rest_sinks : IfGives (Sinking s) (Rest k.held k.told)
        rest_sinks = chain (Goes Then) (Sinking s) (state.each (refs.send_on K settle) k.held Then) (λ t. state.and_then (state.each (λ q. settle q Y) k.waiting t) (λ b. λ u. state.and_then (state.each state.enqueue k.reactions u) (λ c. state.each (refs.inform K p) k.told)))
            sent.1
            (λ t g. chain (Goes t) (Sinking s) (state.each (λ q. settle q Y) k.waiting t) (λ u. state.and_then (state.each state.enqueue k.reactions u) (λ c. state.each (refs.inform K p) k.told))
            (waited t g).1
            (λ u i. chain (Goes u) (Sinking s) (state.each state.enqueue k.reactions u) (state.each (refs.inform K p) k.told)
            (queues k.reactions u well.reacts)
            (λ z j. let so = goes_then Then u z (goes_then Then t u g i) j in
            if_map (Sinking z) (Sinking s) (λ x l. sinks_then K P Y s z x (sinks_then K P Y s Then z then_goes.0 so.0) l) (state.each (refs.inform K p) k.told z) (tells p k.told z (down_still Then z p so then_down)))))

        pub known_sinks : IfGives (Sinking s) (refs.settle_known K settle p Y k s)
        unfolding refs.settle_known state.◌>>◌ state.and_then state.tell state.alter
        known_sinks = rest_sinks

        -- where it holds nothing, and nobody is to be told, order is kept by what waited on it
        rest_goes : IfGives (Goes s) (Rest [] [])
        unfolding state.each state.give state.and_then
        rest_goes = chain (Goes Then) (Goes s) (state.each (λ q. settle q Y) k.waiting Then) (λ u. state.and_then (state.each state.enqueue k.reactions u) (λ c. state.each (refs.inform K p) []))
            (waited Then (goes_self Then)).1
            (λ u i. chain (Goes u) (Goes s) (state.each state.enqueue k.reactions u) (state.each (refs.inform K p) []) (queues k.reactions u well.reacts)
            (λ z j. goes_then s Then z then_goes (goes_then Then u z i j)))

        pub known_goes : k.held ≡ [] → k.told ≡ [] → IfGives (Goes s) (refs.settle_known K settle p Y k s)
        unfolding refs.settle_known state.◌>>◌ state.and_then state.tell state.alter
        known_goes e f = subst (λ ms. IfGives (Goes s) (Rest ms k.told)) (sym e) (subst (λ hs. IfGives (Goes s) (Rest [] hs)) (sym f) rest_goes)

      -- ---- the vat's own

      nothing : aimed_at script v T Y ≡ Nowhere
      unfolding aimed_at refs.severed refs.place aimed
      nothing = refl

      ends_ready : IsReady (WaysAmid script honest w v s) v p (aimed_at script v T Y)
      ends_ready n = ends_now (subst (λ c. Doom (led_to (WaysAmid script honest w v s) v p (aimed_at script v T Y)) c) (sym nothing) nowhere)

      module _ (own : host_of p ≡ v) where
        can_settle : CanSettle script honest w v Y p k s
        can_settle = (settles_here script P v s p problem k found open_still h.0 own, well.on, ends_ready, tt)

        own_first : Kept s T
        own_first = nothing_so script honest w v r s p Y at can_settle.0 nothing ends_ready

        pub own_well : KnownWell script honest w v Y R settle p k s
        own_well = (can_settle, (sent own_first).0, if_map (Goes Then) (λ t. WaitsWell script honest w v Y R settle p k.waiting t) (λ t g. (waited own_first t g).0) (state.each (refs.send_on K settle) k.held Then) (sent own_first).1)

        pub own_sinks : IfGives (Sinking s) (refs.settle_known K settle p Y k s)
        own_sinks = known_sinks own_first

      -- ---- with a view

      module _ (g : Name) (viewed : k.standing ≡ Viewed g) (broken : IsDown g s) where
        empty : (k.held ≡ []) × (k.told ≡ [])
        empty = well.empty (subst (StandsWell v p) viewed well.stands)

        view_first : Kept s T
        view_first = let quiet = views_settle_quietly script honest w v s T p Y (viewed_names_settle_so script v s p g Y k h.1.ends found viewed broken empty.0 tt) in
            (λ q. (quiet q).0, kept_grown script honest w v s T (quiet h.1).1)

        pub view_well : ViewWell script honest w v Y R settle p k g s
        view_well = record { ready = h.1; leads = broken; empty = empty.0; untold = empty.1; plain = tt; waits = (waited view_first Then (goes_self Then)).0 }

        pub view_sinks : IfGives (Sinking s) (refs.settle_known K settle p Y k s)
        view_sinks = known_sinks view_first

  -- ---- to any depth

  abbrev Breaks : ℕ → Type 0
  Breaks d = (q : Name) (s : Vat Name) → Fit s → MayBreak q s → SettlesLed script honest w v Y d q s × IfGives (Goes s) (refs.settle_at K d q Y s)

  module _ (d : ℕ) (before : Breaks d) where
    abbrev R : Name → Vat Name → Type 0
    R q s = SettlesLed script honest w v Y d q s

    abbrev Inner : Settler {N = Name} {W = Name} K
    Inner q z = refs.settle_at K d q z

    by_standing : (p : Name) (k : Known Name) (s : Vat Name) (q : Standing Name) → entry_of K s.known p ≡ Some k → k.standing ≡ q → Fit s → MayStand s p q → StandsLed script honest w v Y R Inner p k q s × IfGives (Sinking s) (refs.settle_standing K Inner p Y k q s)
    unfolding refs.settle_standing state.give
    by_standing p k s Unsettled e f h own = let still = subst IsOpen (sym f) tt in (own_well R Inner before p k s e still h own, own_sinks R Inner before p k s e still h own)
    by_standing p k s (WaitsOn z) e f h may = let still = subst IsOpen (sym f) tt in let own : host_of p ≡ v = subst (StandsWell v p) f (h.0.known p k e).stands in
        (own_well R Inner before p k s e still h own, own_sinks R Inner before p k s e still h own)
    by_standing p k s (Viewed g) e f h broken = let still = subst IsOpen (sym f) tt in (view_well R Inner before p k s e still h g f broken, view_sinks R Inner before p k s e still h g f broken)
    by_standing p k s (Settled z) e f h may = (tt, sinks_self K P Y s)

    by_entry : (p : Name) (s : Vat Name) (o : Option (Known Name)) → entry_of K s.known p ≡ o → Fit s → MayStand s p (standing_in o) → EntryLed script honest w v Y R Inner p o s × IfGives (Sinking s) (refs.settle_entry K Inner p Y o s)
    unfolding refs.settle_entry state.give standing_in
    by_entry p s None e h may = (tt, sinks_self K P Y s)
    by_entry p s (Some k) e h may = by_standing p k s k.standing e refl h may

    breaks_more : Breaks (suc d)
    unfolding refs.settle_at refs.settle_one refs.target_of state.◌>>=◌ state.and_then state.look standing_of
    breaks_more q s h may = let at_entry = by_entry q s (entry_of K s.known q) refl h may in
        (at_entry.0, if_both (Sinking s) (Kept s) (refs.settle_at K (suc d) q Y s) at_entry.1 (led_settlings_keep script honest w v r Y at tt tt (suc d) q s at_entry.0))

  pub breaks : (d : ℕ) → Breaks d
  unfolding refs.settle_at state.stop
  breaks zero q s h may = (tt, tt)
  breaks (suc d) q s h may = breaks_more d (λ x t. breaks d x t) q s h may
