-- A whole settling from a steady vat, as a tale to a steady vat, where what goes out to another vat does so by small steps.
use Rattle.std.proofs.Common.{◌≡◌, ℕ, zero, suc, ◌+◌, ◌*◌, ◌≤◌, Bool, true, false, List, [], Option, Some, None, length, refl, sym, ap, subst, ◌∙◌, arith}
use Rattle.std.proofs.lemmas.List.{append-nil}
use Rattle.std.specs.Prelude.{slice_get}
use Rattle.def_machine.specs.Values.{Value, Broken, Items, Ref, Name, Naming, Spot, Own, Foreign, NoObject}
use Rattle.def_machine.specs.State.{Message, Standing, Settled, Viewed, Settle, Known, Settles, Vat, Gives}
use Rattle.def_machine.specs.State as state
use Rattle.def_machine.specs.Refs as refs
use Rattle.def_machine.specs.Refs.{Settler, entry_of, standing_of}
use Rattle.def_run.specs.World.{Script, Event, World, names}
use Rattle.law_fate.specs.Fates.Fate.{one, total}
use Rattle.law_fate.specs.Fates.Lasting.{NoPromise}
use Rattle.law_fate.specs.Name.Names.{AllOf}
use Rattle.law_order.specs.Ordering.Places.{held_on, held_in, aimed}
use Rattle.law_order.specs.Ordering.Settle.{IsHere, IsOwnSpot, aimed_at, settled_to}
use Rattle.law_order.specs.Ordering.Settlings.{with_line, IsPlain, IsObjectSpot, CanSettle, SendsWell, WaitsWell, KnownWell}
use Rattle.law_order.specs.Ordering.Steps.{StaysReady}
use Rattle.law_order.specs.Ordering.Worlds.{IfGives}
use Rattle.law_order.proofs.Ordering.Entries.{Differs, as_it_was, changes, differs}
use Rattle.law_order.proofs.Ordering.Whole.{target_plain}
use Rattle.law_order.specs.Views.Led.{SettlesAsItsView}
use Rattle.law_order.specs.Views.Wholes.{ViewWell, StandsLed, EntryLed, SettlesLed}
use Rattle.law_order.proofs.Views.Led.{views_settle_quietly}
use Rattle.law_order.proofs.Views.Settling.{IsOpen, settles, viewed_names_settle_so}
use Rattle.law_order.proofs.Views.Quiet.{stays}
use Rattle.law_order.specs.Waits.Answers.{answers, IsWaitOf}
use Rattle.law_order.proofs.Waits.Classes.{owed_at}
use Rattle.law_order.proofs.Waits.Room.{share}
use Rattle.law_order.proofs.Steady.Facts.{IsClear}
use Rattle.law_order.proofs.Steady.Steady.{Steady}
use Rattle.law_order.proofs.Steady.Wells as wells
use Rattle.law_order.proofs.Steady.Wells.{MaySettle, all_led, clear_plain, settle_keeps}
use Rattle.law_order.specs.Tales.Middle.{MovesNone}
use Rattle.law_order.specs.Settling.Holding.{Holds, HeldCame, VatsAreSound}
use Rattle.law_order.proofs.Settling.Acts.{Told, told_self, told_then, line_told, later_by}
use Rattle.law_order.proofs.Settling.Acts as acts
use Rattle.law_order.proofs.Settling.Block.{lists_back}
use Rattle.law_order.proofs.Settling.FarTold.{far_is_told}
use Rattle.law_order.proofs.Settling.Frames.{changed_frame, less_mild}
use Rattle.law_order.proofs.Settling.Here.{here_told, gone_told, all_lost}
use Rattle.law_order.proofs.Settling.Later.{holds_on}
use Rattle.law_order.proofs.Settling.Walk.{IsObjectValue, rest_told}
use Rattle.law_order.proofs.Settling.Walk as walk

-- a list
abbrev pub IsList : Value Name → Type 0
IsList (Items k) = Unit {0}
IsList other = ⊥

module _ (script : Script) (honest : ℕ → Bool) (w : World) (v : ℕ) (head : List Event) (L : Type 0) (r : Vat Name) (at : slice_get w.vats v ≡ Some r) where
  abbrev K : Naming Name Name
  K = names script v

  abbrev To : Vat Name → Vat Name → Type 0
  To s t = Told script honest w v head L s t

  abbrev H : Vat Name → Type 0
  H s = Holds script honest w v head s

  abbrev C : Vat Name → Type 0
  C s = HeldCame script honest w v head s

  module _ (all : (u : ℕ) → honest u ≡ true) (sound : VatsAreSound script w) where
    module _ (y : Value Name) (plain : IsPlain K y) (excuse : (j : ℕ) → y ≡ Items j → L) (never : IsObjectValue y → L → ⊥) (R : Name → Vat Name → Type 0) (settle : Settler {N = Name} {W = Name} K) (each_told : (q : Name) (s : Vat Name) → R q s → H s → (IsObjectValue y → C s) → IfGives (λ t. To s t) (settle q y s)) where
      abbrev Then : Vat Name → Name → Vat Name
      Then s p = settled_to K (with_line s (Settles p y)) p y

      -- ---- the name itself

      module _ (p : Name) (k : Known Name) (s : Vat Name) (found : entry_of K s.known p ≡ Some k) (holds : H s) (came : IsObjectValue y → C s) where
        module _ (h : CanSettle script honest w v y p k s) where
          abbrev First : Type 0
          First = IfGives (λ t. To s t) (state.each (refs.send_on K settle) k.held (Then s p))

          to_here : IsHere K y → First
          to_here here = here_told script honest w v head L r at p y k s found h excuse holds here settle

          to_broken : (x : List ℕ) → y ≡ Broken x → SendsWell script honest w v y R settle k.held (Then s p) → First
          unfolding aimed_at refs.severed refs.place aimed
          to_broken x e sends = subst (λ z. (IsObjectValue z → L → ⊥) → ((q : Name) (s : Vat Name) → R q s → H s → (IsObjectValue z → C s) → IfGives (λ t. To s t) (settle q z s)) → To s (settled_to K (with_line s (Settles p z)) p z)
              → SendsWell script honest w v z R settle k.held (settled_to K (with_line s (Settles p z)) p z) → IfGives (λ t. To s t) (state.each (refs.send_on K settle) k.held (settled_to K (with_line s (Settles p z)) p z))) (sym e)
              (λ n f g i. let t : Vat Name = settled_to K (with_line s (Settles p (Broken x))) p (Broken x) in
              walk.from_there script honest w v head L r at s t (state.each (refs.send_on K settle) k.held t) g
              (all_lost script honest w v head L r at x R settle (λ q u a b. f q u a b (λ j. absurd j)) k.held t i (holds_on script honest w v head L s t g.later holds)))
              never each_told (gone_told script honest w v head L r at p y k s found h excuse holds (ap (λ z. aimed_at script v (settled_to K s p z) z) e)) sends

          by_spot : (n : Name) → y ≡ Ref n → (c : Spot) → K.spot n ≡ c → IsObjectSpot c → SendsWell script honest w v y R settle k.held (Then s p) → First
          by_spot n e (Own i) f o sends = to_here (subst (λ z. IsHere K z) (sym e) (subst IsOwnSpot (sym f) tt))
          by_spot n e (Foreign a) f o sends = subst (λ z. CanSettle script honest w v z p k s → SendsWell script honest w v z R settle k.held (settled_to K (with_line s (Settles p z)) p z) → (IsObjectValue z → C s)
              → IfGives (λ t. To s t) (state.each (refs.send_on K settle) k.held (settled_to K (with_line s (Settles p z)) p z))) (sym e) (λ i j c. far_is_told script honest w v head L r at all sound R settle p n a k s f found i j holds (c tt)) h sends came
          by_spot n e NoObject f o sends = absurd o

          first_by : (z : Value Name) → y ≡ z → IsPlain K z → SendsWell script honest w v y R settle k.held (Then s p) → First
          first_by (Ref n) e o sends = by_spot n e (K.spot n) refl o sends
          first_by (Broken x) e o sends = to_broken x e sends
          first_by other e o sends = to_here (subst (λ z. IsHere K z) (sym e) tt)

        unsent : AllOf (walk.Unsent script honest w v head L r at s) k.reactions
        unsent = walk.among_all script honest w v head L r at (walk.Unsent script honest w v head L r at s) k.reactions (λ m a. holds.unsent p k found m a)

        known_told : KnownWell script honest w v y R settle p k s → IfGives (λ t. To s t) (refs.settle_known K settle p y k s)
        known_told h = rest_told script honest w v head L r at y never R settle each_told p k s unsent holds came (first_by h.0 y refl plain h.1) h.2

        -- ---- one with a view

        module _ (g : Name) (viewed : k.standing ≡ Viewed g) (h : ViewWell script honest w v y R settle p k g s) where
          abbrev T : Vat Name
          T = settled_to K s p y

          view_so : SettlesAsItsView K s T p y
          view_so = viewed_names_settle_so script v s p g y k h.ready.ends found viewed h.leads h.empty h.plain

          open_view : IsOpen k.standing
          open_view = subst IsOpen (sym viewed) tt

          stay : StaysReady script honest w v s T
          stay q = views_settle_quietly script honest w v s T p y view_so q

          held_same : (n : Name) → held_in n (entry_of K T.known n) ≡ held_in n (entry_of K s.known n)
          unfolding held_in held_on
          held_same n = go (differs script v (Settle y) p n s.known)
            where
              some_same : (i j : Known Name) → Some i ≡ Some j → i ≡ j
              some_same i j e = cc

              go : Differs script v (Settle y) p n (entry_of K s.known n) (entry_of K T.known n) → held_in n (entry_of K T.known n) ≡ held_in n (entry_of K s.known n)
              go (as_it_was e) = ap (held_in n) e
              go (changes j e a b) = let same : j ≡ k = some_same j k (sym (subst (λ z. entry_of K s.known z ≡ Some j) e a) ∙ found) in
                  ap (held_in n) b ∙ ap (λ (i : Known Name). held_on n (state.changed (Settle y) i).held) same ∙ ap (λ (i : Known Name). held_on n i.held) (settles y k open_view)
                  ∙ sym (ap (held_in n) a ∙ ap (λ (i : Known Name). held_on n i.held) same ∙ ap (λ ms. held_on n ms) h.empty)

          none : MovesNone K s T
          none = record { queue = refl; held = held_same; puts = []; outbox = sym (append-nil s.outbox); none = tt; lines = []; happened = sym (append-nil s.happened); quiet = tt }

          goes : (d : ℕ) → refs.follow_at K (suc d) T.known (Ref p) ≡ y
          unfolding refs.follow_at refs.led standing_of refs.standing_in
          goes d = ap (λ q. refs.led K (λ z. refs.follow_at K d T.known z) p q) (ap (λ o. refs.standing_in o) view_so.only.found_then ∙ view_so.settled) ∙ view_so.ended_then d

          view_told : To s T
          view_told = acts.told_small script honest w v head L s T (stay holds.ready).1 none
              (later_by script honest w v head L s T [] (sym (append-nil s.happened)) tt holds.ready stay (less_mild script v (Settle y) tt p s T refl)
              (λ l x j e. lists_back script v s p y goes (λ n f. stays script honest v s T p view_so.only n f) L excuse l x j e) (changed_frame K (Settle y) p s T refl refl refl))

          first_view : To s (Then s p)
          first_view = told_then script honest w v head L s T (with_line T (Settles p y)) view_told (line_told script honest w v head L T (Settles p y) tt (stay holds.ready).0)

          nothing_held : (ms : List (Message Name)) → ms ≡ [] → (P : Vat Name → Type 0) (t : Vat Name) → P t → IfGives P (state.each (refs.send_on K settle) ms t)
          unfolding state.each state.give
          nothing_held ms e P t i = subst (λ xs. IfGives P (state.each (refs.send_on K settle) xs t)) (sym e) i

          view_all : IfGives (λ t. To s t) (refs.settle_known K settle p y k s)
          view_all = rest_told script honest w v head L r at y never R settle each_told p k s unsent holds came (nothing_held k.held h.empty (λ t. To s t) (Then s p) first_view) (nothing_held k.held h.empty (λ t. WaitsWell script honest w v y R settle p k.waiting t) (Then s p) h.waits)

      stands_told : (p : Name) (k : Known Name) (s : Vat Name) (q : Standing Name) → entry_of K s.known p ≡ Some k → k.standing ≡ q → StandsLed script honest w v y R settle p k q s → H s → (IsObjectValue y → C s) → IfGives (λ t. To s t) (refs.settle_standing K settle p y k q s)
      unfolding refs.settle_standing state.give
      stands_told p k s (Settled z) e i h a c = told_self script honest w v head L s
      stands_told p k s (Viewed g) e i h a c = view_all p k s e a c g i h
      stands_told p k s other e i h a c = known_told p k s e a c h

      entry_told : (p : Name) (s : Vat Name) (o : Option (Known Name)) → entry_of K s.known p ≡ o → EntryLed script honest w v y R settle p o s → H s → (IsObjectValue y → C s) → IfGives (λ t. To s t) (refs.settle_entry K settle p y o s)
      unfolding refs.settle_entry state.give
      entry_told p s None e h a c = told_self script honest w v head L s
      entry_told p s (Some k) e h a c = stands_told p k s k.standing e refl h a c

    -- ---- to any depth

    -- What it settles to is a list only if y is.
    target_same : (s : Vat Name) (p : Name) (y : Value Name) → (j : ℕ) → refs.target_of K s p y ≡ Items j → IsList y
    unfolding refs.target_of
    target_same s p (Items k) j e = tt
    target_same s p other j e = listed other j e
      where
        listed : (z : Value Name) (j : ℕ) → z ≡ Items j → IsList z
        listed z j i = subst IsList (sym i) tt

    target_object : (s : Vat Name) (p : Name) (y : Value Name) → IsObjectValue (refs.target_of K s p y) → IsObjectValue y
    unfolding refs.target_of refs.cut_cycle
    target_object s p (Items k) h = go (refs.reaches K (suc (length s.lists)) s p (Items k)) h
      where
        go : (b : Bool) → IsObjectValue (refs.cut_cycle K b (Items k)) → ⊥
        go true i = i
        go false i = i
    target_object s p other h = h

    pub settlings : (y : Value Name) → IsPlain K y → (IsList y → L) → (IsObjectValue y → L → ⊥) → (d : ℕ) (p : Name) (s : Vat Name) → SettlesLed script honest w v y d p s → H s → (IsObjectValue y → C s) → IfGives (λ t. To s t) (refs.settle_at K d p y s)
    unfolding refs.settle_at refs.settle_one state.stop state.◌>>=◌ state.and_then state.look
    settlings y plain excuse never zero p s h a c = tt
    settlings y plain excuse never (suc d) p s h a c =
        let z = refs.target_of K s p y in
        let there = target_plain script honest w v r at s p y plain in
        let lists : ((j : ℕ) → z ≡ Items j → L) = λ j e. excuse (target_same s p y j e) in
        let objects : (IsObjectValue z → L → ⊥) = λ i. never (target_object s p y i) in
        entry_told z there lists objects (λ q t. SettlesLed script honest w v z d q t) (λ q x. refs.settle_at K d q x)
        (λ q t g i f. settlings z there (λ l. lists_of z lists l) objects d q t g i f) p s (entry_of K s.known p) refl h a (λ i. c (target_object s p y i))
      where
        lists_of : (z : Value Name) → ((j : ℕ) → z ≡ Items j → L) → IsList z → L
        lists_of (Items j) f l = f j refl
        lists_of other f l = absurd l

-- ==== from a steady vat

module _ (script : Script) (honest : ℕ → Bool) (all : (h : ℕ) → honest h ≡ true) (w : World) (v : ℕ) (head : List Event) (r : Vat Name) (at : slice_get w.vats v ≡ Some r) where
  abbrev N : Naming Name Name
  N = names script v

  -- an object is no list
  apart : (y : Value Name) → IsObjectValue y → IsList y → ⊥
  apart (Items k) i l = i
  apart other i l = l

  module _ (y : Value Name) (last : NoPromise y) (sound : VatsAreSound script w) where
    abbrev Goes : Vat Name → Vat Name → Type 0
    Goes s t = Told script honest w v head (IsList y) s t

    -- A name settles that can settle so, by small steps, from a steady vat to a steady vat.
    pub settle_tale : (c o : Name → ℕ) (p : Name) (s t : Vat Name) → IsClear N s.noticed y → Steady script w v (λ x. share (owed_at v x) (one p x) + c x) o s → MaySettle script honest w v p y s
        → Holds script honest w v head s → (IsObjectValue y → HeldCame script honest w v head s) → refs.settle N p y s ≡ Gives tt t → Told script honest w v head (IsList y) s t × Steady script w v c o t
    unfolding refs.settle state.◌>>=◌ state.and_then state.look
    settle_tale c o p s t clear h m holds came e = (
      subst (λ z. IfGives (λ u. Goes s u) z) e
          (settlings script honest w v head (IsList y) r at all sound y (clear_plain script honest all w v r at s.noticed y clear) (λ l. l) (apart y) (suc (suc (length s.known))) p s
          ((all_led script honest all w v r at (suc (suc (length s.known)))).so y last c o p s clear h (omega arith) m) holds came),
      (settle_keeps script honest all w v r at y last c o p s t clear h m e).1,
    )

    -- So do the names that wait on one which settled, of whatever vat.
    pub waits_tale : (d : ℕ) (p : Name) (c o : Name → ℕ) (qs : List Name) (u : Vat Name) → (k : Known Name) × (entry_of N u.known p ≡ Some k) × (k.standing ≡ Settled y) → AllOf (λ (q : Name). IsWaitOf p (standing_of N u.known q)) qs
        → Steady script w v (λ x. 2 * total (answers x) [] + (share (owed_at v x) (total (λ (q : Name). one q x) qs) + c x)) o u → d ≤ suc (suc (length u.known)) → IsClear N u.noticed y
        → Holds script honest w v head u → (IsObjectValue y → HeldCame script honest w v head u) → IfGives (λ t. Told script honest w v head (IsList y) u t) (state.each (λ q. refs.settle_at N d q y) qs u)
    waits_tale d p c o qs u rests sleep h l clear holds came = walk.waits script honest w v head (IsList y) r at y (apart y) (λ q t. SettlesLed script honest w v y d q t) (λ q x. refs.settle_at N d q x)
        (λ q s g i f. settlings script honest w v head (IsList y) r at all sound y (clear_plain script honest all w v r at u.noticed y clear) (λ j. j) (apart y) d q s g i f)
        p qs u (wells.waits_led script honest all w v r at d (all_led script honest all w v r at d) y last p c o qs u rests sleep h l clear) holds came
