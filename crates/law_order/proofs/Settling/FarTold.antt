-- What a name held that settles to an object of another vat goes out by small steps: over a link, or to a vat that is not there, where it is lost.
use Rattle.std.proofs.Common.{◌≡◌, ℕ, Bool, true, false, List, [], ◌∷◌, ◌++◌, Option, Some, None, refl, sym, ap, subst, ◌∙◌, ◌⊎◌, inl, inr}
use Rattle.std.proofs.lemmas.Bool.{eq-eqb}
use Rattle.std.specs.Prelude.{slice_get, ◌==◌}
use Rattle.def_machine.specs.Values.{Value, Items, Ref, Name, Object, Naming, Spot, Own, Foreign, NoObject, Answer, IsAnswer, naming, spot_of}
use Rattle.def_machine.specs.State.{Message, WaitsOn, Settled, Settle, Known, Settles, Vat, WhereSome, ◌>>=◌, ◌>>◌, and_then, look, give, for_some, come, begun, changed, is_in}
use Rattle.def_machine.specs.State as state
use Rattle.def_machine.specs.Refs as refs
use Rattle.def_machine.specs.Refs.{Settler, Away, entry_of}
use Rattle.def_run.specs.World as world
use Rattle.def_run.specs.World.{Script, Event, Link, World, names}
use Rattle.law_order.specs.Ordering.Places.{ways, amid}
use Rattle.law_order.specs.Ordering.Settle.{IsReady, aimed_at, passed_by, settled_to}
use Rattle.law_order.specs.Ordering.Settlings.{with_line, AnswersAnew, CanSettle, GoesFar, ReadyAt, SendsWell}
use Rattle.law_order.specs.Ordering.Steps.{Ready, LeadsAmid, StaysInOrder}
use Rattle.law_order.specs.Ordering.Ways.{Way, End}
use Rattle.law_order.specs.Ordering.Worlds.{IfGives, IsObject, IsWaiting}
use Rattle.law_order.proofs.Ordering.Adds.{adds_nothing, stays_quiet}
use Rattle.law_order.proofs.Ordering.Arrived.{IsOpen as IsOpenLink}
use Rattle.law_order.proofs.Ordering.Far.{far_aimed}
use Rattle.law_order.proofs.Ordering.FarSettled.{far_so}
use Rattle.law_order.proofs.Ordering.Named.{passes_way}
use Rattle.law_order.proofs.Ordering.News.{stays_self}
use Rattle.law_order.proofs.Ordering.OrderPassing.{leads_via}
use Rattle.law_order.proofs.Ordering.SettledPlaces.{ready_settled}
use Rattle.law_order.proofs.Ordering.Sends.{chain, entry_changed, if_both, if_map}
use Rattle.law_order.proofs.Ordering.Standing.{queue_is}
use Rattle.law_order.proofs.Views.Settling.{IsOpen, settles}
use Rattle.law_order.specs.History.Passings.{IsThere, IsNoVat}
use Rattle.law_order.specs.History.Tells.{SmallStep, over, then_on}
use Rattle.law_order.specs.Tales.Middle.{middle}
use Rattle.law_order.specs.Settling.Holding.{Holds, HeldCame, VatsAreSound}
use Rattle.law_order.proofs.Settling.Acts.{Told, told_then, told_wider, line_told}
use Rattle.law_order.proofs.Settling.Block.{block_told}
use Rattle.law_order.proofs.Settling.First as first
use Rattle.law_order.proofs.Settling.Goings as goings
use Rattle.law_order.proofs.Settling.Here.{open_still}
use Rattle.law_order.proofs.Settling.Last.{last_small}
use Rattle.law_order.proofs.Settling.Later.{NotHeld, holds_on, held_came}
use Rattle.law_order.proofs.Settling.LetsGo.{one_lane}
use Rattle.law_order.proofs.Settling.Nobody.{On, on_self, on_then, delivered_on, asked_on}
use Rattle.law_order.proofs.Settling.OutAll.{all_out, answer_named, unknown_leads}
use Rattle.law_order.proofs.Settling.Put.{put_known, found_name}
use Rattle.law_order.proofs.Settling.Read as read
use Rattle.law_order.proofs.Settling.Read.{Real}
use Rattle.law_order.proofs.Settling.Reading.{real_later}

-- an object of another vat is of another
far_apart : (v h : ℕ) (n : Name) → spot_of v n ≡ Foreign h → h ≡ v → ⊥
unfolding spot_of
far_apart v h (Object g i) e f = go (v == g) refl e
  where
    own_far : Own i ≡ Foreign h → ⊥
    own_far q = cc

    host_is : Foreign g ≡ Foreign h → g ≡ h
    host_is q = cc

    true_false : true ≡ false → ⊥
    true_false q = cc

    go : (c : Bool) → (v == g) ≡ c → ◌≡◌ {A = Spot} (elim c [ true ↦ Own i | false ↦ Foreign g ]) (Foreign h) → ⊥
    go true a q = own_far q
    go false a q = true_false (sym (eq-eqb v g (sym (host_is q ∙ f))) ∙ a)
far_apart v h other e f = none_far e
  where
    none_far : NoObject ≡ Foreign h → ⊥
    none_far q = cc

module _ (script : Script) (honest : ℕ → Bool) (all : (u : ℕ) → honest u ≡ true) (w : World) (v : ℕ) (head : List Event) (r : Vat Name) (at : slice_get w.vats v ≡ Some r) (p n : Name) (h : ℕ) (k : Known Name) (s : Vat Name) (far : (names script v).spot n ≡ Foreign h) (found : entry_of (names script v) s.known p ≡ Some k)
    (can : CanSettle script honest w v (Ref n) p k s) (holds : Holds script honest w v head s) where
  abbrev K : Naming Name Name
  K = names script v

  abbrev T : Vat Name
  T = settled_to K (with_line s (Settles p (Ref n))) p (Ref n)

  -- ---- what the name is then

  object : IsObject n
  object = let g = can.0 in g.ended

  plain : IsObject p → ⊥
  plain = let g = can.0 in g.plain

  named : k.name ≡ p
  named = (found_name script v p s.known k found).0

  hosted : k.host ≡ v
  hosted = let g = can.0 in g.host k found

  clear : is_in h s.noticed ≡ false
  clear = let i : Ready script honest w v s × (is_in h s.noticed ≡ false) = subst (λ c. ReadyAt script honest w v s c) far can.3 in i.1

  still_open : IsOpen k.standing
  still_open = open_still script honest w v head ⊥ r at p (Ref n) k s found can (λ j e. not_listed j e) holds
    where
      not_listed : (j : ℕ) → Ref n ≡ Items j → ⊥
      not_listed j e = cc

  some_same : (a b : Known Name) → Some a ≡ Some b → a ≡ b
  some_same a b e = cc

  waits : IsWaiting k.standing
  waits = let g = can.0 in let b = g.only.before in subst (λ (j : Known Name). IsWaiting j.standing) (some_same b.0 k (sym b.1 ∙ found)) b.2

  then_is : changed (Settle (Ref n)) k ≡ record k { standing = Settled (Ref n); held = []; waiting = []; reactions = []; told = [] }
  then_is = settles (Ref n) k still_open

  ready_then : Ready script honest w v T
  ready_then = let t : Vat Name = settled_to K s p (Ref n) in
      (stays_quiet script honest w v t T (adds_nothing K t T refl refl refl refl refl refl, refl, refl, refl) (ready_settled script honest w v r s p (Ref n) at can.0 holds.ready)).0

  abbrev R : Vat Name → Type 0
  R u = Real script honest w v h r at p n k far object plain named hosted u

  real : R T
  real = let g = can.0 in record {
    ready = ready_then;
    known = changed (Settle (Ref n)) k;
    found = entry_changed K p (Settle (Ref n)) s.known k found;
    settled = ap (λ (j : Known Name). j.standing) then_is;
    host = ap (λ (j : Known Name). j.host) then_is ∙ hosted;
    nothing = ap (λ (j : Known Name). j.held) then_is;
    calm = ap (λ (j : Known Name). j.reactions) then_is;
    itself = g.itself;
    clear = clear;
  }

  -- ---- as it begins

  abbrev Read : List (Message Name) → Vat Name → Vat Name
  Read ms u = record u { known = put_known K p (record k { standing = WaitsOn n; held = ms }) u.known }

  is_ready : IsReady (ways script honest (amid v s w)) v p (End (Way v h) n)
  is_ready = subst (λ c. IsReady (ways script honest (amid v s w)) v p c) (far_aimed script v h n far (settled_to K s p (Ref n)) clear) can.2

  first_step : SmallStep script honest (middle w v head s) (middle w v head (Read k.held T))
  first_step = first.first_small script honest w v h head ⊥ r at p n k far object plain named hosted s found waits still_open is_ready real

  leads_same : (x : Value Name) → LeadsAmid script honest w v (Read k.held T) v x ≡ LeadsAmid script honest w v s v x
  leads_same x = first.leads_first script honest w v h head ⊥ r at p n k far object plain named hosted s found waits still_open is_ready real v x

  to_first : Told script honest w v head ⊥ s (Read k.held T)
  to_first = record { tale = then_on first_step over; later = first.first_later script honest w v h head ⊥ r at p n k far object plain named hosted s found waits still_open is_ready real }

  placed : (u : Vat Name) → refs.place K u (Ref n) ≡ Away h n true
  unfolding refs.place refs.spotted
  placed u = ap (λ q. refs.spotted K u n q) far

  no_list : (j : ℕ) → Ref n ≡ Items j → ⊥
  no_list j e = cc

  -- where the object leads
  leads_before : LeadsAmid script honest w v s v (Ref n) ≡ End (Way v h) n
  leads_before = sym (leads_same (Ref n)) ∙ read.object_leads script honest w v h r at p n k far object plain named hosted k.held T real

  other : h ≡ v → ⊥
  unfolding names naming
  other e = far_apart v h n far e

  module _ (Q : Name → Vat Name → Type 0) (settle : Settler {N = Name} {W = Name} K) (sends : SendsWell script honest w v (Ref n) Q settle k.held T) where
    abbrev Goes : Type 0
    Goes = IfGives (λ t. Told script honest w v head ⊥ s t) (state.each (refs.send_on K settle) k.held T)

    -- ---- over a link

    module _ (came : HeldCame script honest w v head s) (rh : Vat Name) (there : slice_get w.vats h ≡ Some rh) (number : rh.number ≡ h) (objects : (o : Name) → IsObject o → entry_of (names script h) rh.known o ≡ None) (link : (l : Link) × (world.link_at v h w.links ≡ Some l)) where
      abbrev F : List (Message Name) → Vat Name → Type 0
      F ms u = goings.Fit script honest w v h head r at p n k far object plain named hosted rh all there number other objects link ms u

      fit : F k.held T
      fit = record { real = real; holds = holds_on script honest w v head ⊥ s (Read k.held T) to_first.later holds; came = held_came script honest w v head ⊥ s (Read k.held T) to_first.later (λ i. i) came }

      ended : (t : Vat Name) → F [] t × Told script honest w v head ⊥ s (Read [] t) → Told script honest w v head ⊥ s t
      ended t i = told_then script honest w v head ⊥ s (Read [] t) t i.1 (record {
        tale = then_on (last_small script honest w v h head r at p n k far object plain named hosted t i.0.real i.0.real.nothing) over;
        later = real_later script honest w v h head ⊥ r at p n k far object plain named hosted [] t i.0.real;
      })

      there_told : Goes
      there_told = if_map (λ t. F [] t × Told script honest w v head ⊥ s (Read [] t)) (λ t. Told script honest w v head ⊥ s t) ended (state.each (refs.send_on K settle) k.held T)
          (all_out script honest w v h head r at p n k far object plain named hosted rh all there number other objects link Q settle s k.held T fit sends to_first)

    -- ---- to a vat that is not there

    module _ (none : IsNoVat w h) where
      abbrev To : Vat Name → Vat Name → Type 0
      To a b = On script honest w v h head r at none a b

      abbrev Settled0 : Vat Name
      Settled0 = settled_to K s p (Ref n)

      aim : aimed_at script v Settled0 (Ref n) ≡ End (Way v h) n
      aim = far_aimed script v h n far Settled0 clear

      ready_settled0 : Ready script honest w v Settled0
      ready_settled0 = ready_settled script honest w v r s p (Ref n) at can.0 holds.ready

      no_open : IsOpenLink v h w.links → ⊥
      no_open o = none_some o.0 (sym (none.none v) ∙ o.1)
        where
          none_some : (l : Link) → ◌≡◌ {A = Option Link} None (Some l) → ⊥
          none_some l e = cc

      -- all that was held is doomed
      order : StaysInOrder script honest w v s Settled0
      order = far_so script honest w v h n r at (all v) (all h) s Settled0 p can.0 k found can.2 aim
          (record { ready = ready_settled0; grown = (stays_self script honest w v Settled0 ready_settled0).1; last = λ o. absurd (no_open o) })

      leads_then : (u : ℕ) (x : Value Name) → LeadsAmid script honest w v Settled0 u x ≡ passed_by v p (aimed_at script v Settled0 (Ref n)) (LeadsAmid script honest w v s u x)
      unfolding amid
      leads_then u x = leads_via script honest w.vats (world.push_all v s.outbox w.links) v r s Settled0 p (Ref n) at can.0 u x

      block : Told script honest w v head ⊥ s Settled0
      block = block_told script honest w v head ⊥ r at s p (Ref n) k found still_open can.0 (λ j e. absurd (no_list j e)) s.queue order leads_then (subst NotHeld (sym aim) tt) (λ g m e. (n, leads_before ∙ lanes g m (sym aim ∙ e)))
          (λ m b o i. inl (record { behind = i.behind; found = queue_is script honest w v r at s ∙ (sym (queue_is script honest w v r at Settled0) ∙ i.found) }))
        where
          lanes : (g : ℕ) (m : Name) → End (Way v h) n ≡ End (Way v g) m → End (Way v h) n ≡ End (Way v g) n
          lanes g m e = ap (λ l. End l n) (one_lane (Way v h) (Way v g) n m e)

      begun_there : Told script honest w v head ⊥ s T
      begun_there = told_then script honest w v head ⊥ s Settled0 T block (line_told script honest w v head ⊥ Settled0 (Settles p (Ref n)) tt ready_settled0)

      -- where the object and new answers lead, while the rest goes out
      leads_on : (u : Vat Name) → To T u → (x : Value Name) → LeadsAmid script honest w v u v x ≡ LeadsAmid script honest w v T v x
      leads_on u i x = i.grown.leading v x

      object_then : LeadsAmid script honest w v T v (Ref n) ≡ End (Way v h) n
      object_then = read.leads_read script honest w v h r at p n k far object plain named hosted k.held T real v (Ref n) ∙ (ap (passed_by v p (End (Way v h) n)) (read.object_leads script honest w v h r at p n k far object plain named hosted k.held T real) ∙ passes_way v p (End (Way v h) n) v h n)

      unknown_before : (u : Vat Name) → To T u → (a : Name) → entry_of K u.known a ≡ None → (o : Option (Known Name)) → entry_of K T.known a ≡ o → o ≡ None
      unknown_before u i a e None f = refl
      unknown_before u i a e (Some j) f = let q = i.told.later.known a (j, f) in absurd (none_some q.0 (sym e ∙ q.1))
        where
          none_some : (l : Known Name) → ◌≡◌ {A = Option (Known Name)} None (Some l) → ⊥
          none_some l e = cc

      module _ (m : Message Name) (u : Vat Name) (i : To T u) where
        ready_on : Ready script honest w v u
        ready_on = i.told.later.ready ready_then

        asked : (b : Name) → AnswersAnew script honest w v h n b m u → IfGives (λ t. To u t) ((come K (IsAnswer h m.id) h >>= (λ a. refs.deliver K (record m { answer = Some a }) h n >> refs.wait_on K b a)) u)
        unfolding ◌>>=◌ ◌>>◌ and_then come
        asked b g = subst (λ a. IfGives (λ t. To u t) (and_then (refs.deliver K (record m { answer = Some a }) h n (record u { known = u.known ++ begun a h ∷ [] })) (λ _. refs.wait_on K b a))) (sym (answer_named script honest w v h n b m u g))
            (asked_on script honest w v h head r at none n b object m u ready_on (leads_on u i (Ref n) ∙ object_then) g
            (leads_on u i (Ref (Answer h g.message)) ∙ unknown_leads script honest w v r T at h g.message (unknown_before u i (Answer h g.message) g.unknown (entry_of K T.known (Answer h g.message)) refl) clear other))

        passed : WhereSome (λ b. AnswersAnew script honest w v h n b m u) m.answer → IfGives (λ t. To u t) (refs.pass_on K m h n u)
        unfolding refs.pass_on for_some
        passed = go m.answer
          where
            go : (o : Option Name) → WhereSome (λ b. AnswersAnew script honest w v h n b m u) o → IfGives (λ t. To u t) (for_some o (λ b. come K (IsAnswer h m.id) h >>= (λ a. refs.deliver K (record m { answer = Some a }) h n >> refs.wait_on K b a)) (refs.deliver K m h n) u)
            go (Some b) g = asked b g
            go None g = delivered_on script honest w v h head r at none m n u ready_on

        one_lost : GoesFar script honest w v n m u (K.spot n) → IfGives (λ t. To u t) (refs.send_on K settle m u)
        unfolding refs.send_on ◌>>=◌ and_then look refs.send_to
        one_lost g =
            let j = subst (λ z. GoesFar script honest w v n m u z) far g in
            subst (λ z. IfGives (λ t. To u t) (refs.send_to K settle m z (refs.place K u z) u)) (sym j.0)
            (subst (λ z. IfGives (λ t. To u t) (refs.send_to K settle m (Ref n) z u)) (sym (placed u)) (passed j.1))

      all_lost : (ms : List (Message Name)) (u : Vat Name) → To T u → SendsWell script honest w v (Ref n) Q settle ms u → IfGives (λ t. To T t) (state.each (refs.send_on K settle) ms u)
      unfolding state.each ◌>>◌ give
      all_lost [] u i g = i
      all_lost (m ∷ ms) u i g = chain (λ t. To u t × SendsWell script honest w v (Ref n) Q settle ms t) (λ t. To T t) (refs.send_on K settle m u) (state.each (refs.send_on K settle) ms)
          (if_both (λ t. To u t) (λ t. SendsWell script honest w v (Ref n) Q settle ms t) (refs.send_on K settle m u) (one_lost m u i g.0) g.1)
          (λ t j. all_lost ms t (on_then script honest w v h head r at none T u t i j.0) j.1)

      nobody_told : Goes
      nobody_told = if_map (λ t. To T t) (λ t. Told script honest w v head ⊥ s t) (λ t i. told_then script honest w v head ⊥ s T t begun_there i.told) (state.each (refs.send_on K settle) k.held T)
          (all_lost k.held T (on_self script honest w v h head r at none T ready_then) sends)

-- ---- the whole

module _ (script : Script) (honest : ℕ → Bool) (w : World) (v : ℕ) (head : List Event) (L : Type 0) (r : Vat Name) (at : slice_get w.vats v ≡ Some r) where
  abbrev N : Naming Name Name
  N = names script v

  -- What a name held that settles to an object of another vat goes out by small steps.
  abbrev pub FarIsTold : Type 1
  FarIsTold = (R : Name → Vat Name → Type 0) (settle : Settler {N = Name} {W = Name} N) (p n : Name) (h : ℕ) (k : Known Name) (s : Vat Name) → N.spot n ≡ Foreign h → entry_of N s.known p ≡ Some k → CanSettle script honest w v (Ref n) p k s
      → SendsWell script honest w v (Ref n) R settle k.held (settled_to N (with_line s (Settles p (Ref n))) p (Ref n)) → Holds script honest w v head s → HeldCame script honest w v head s
      → IfGives (λ t. Told script honest w v head L s t) (state.each (refs.send_on N settle) k.held (settled_to N (with_line s (Settles p (Ref n))) p (Ref n)))

module _ (script : Script) (honest : ℕ → Bool) (w : World) (v : ℕ) (head : List Event) (L : Type 0) (r : Vat Name) (at : slice_get w.vats v ≡ Some r) (all : (u : ℕ) → honest u ≡ true) where
  abbrev M : Naming Name Name
  M = names script v

  -- It does in each world whose vats have their numbers and know no object: to a vat that is there, and to one that is not.
  pub far_is_told : VatsAreSound script w → FarIsTold script honest w v head L r at
  unfolding world.push_all
  far_is_told sound R settle p n h k s far found can sends holds came = let t : Vat Name = settled_to M (with_line s (Settles p (Ref n))) p (Ref n) in
      if_map (λ u. Told script honest w v head ⊥ s u) (λ u. Told script honest w v head L s u) (λ u i. told_wider script honest w v head ⊥ L s u (λ a. absurd a) i) (state.each (refs.send_on M settle) k.held t) (go (holds.there (Ref n) h n (inl (let g = can.0 in g.ended)) (leads_before script honest all w v head r at p n h k s far found can holds)))
    where
      go : IsThere w v h ⊎ IsNoVat w h → IfGives (λ u. Told script honest w v head ⊥ s u) (state.each (refs.send_on M settle) k.held (settled_to M (with_line s (Settles p (Ref n))) p (Ref n)))
      go (inl i) = let f = sound h i.vat i.found in there_told script honest all w v head r at p n h k s far found can holds R settle sends came i.vat i.found f.0 f.1 (i.link [])
      go (inr i) = nobody_told script honest all w v head r at p n h k s far found can holds R settle sends i
