-- What a message weighs through what is done with references.
use Rattle.std.proofs.Common.{◌≡◌, ℕ, zero, suc, ◌+◌, ◌≤◌, Bool, true, false, List, [], ◌∷◌, ◌++◌, Option, Some, None, refl, sym, ◌∙◌, arith, length, subst, eqb-true, ◌⊎◌, inl, inr}
use Rattle.std.specs.Prelude.{◌==◌}
use Rattle.std.proofs.lemmas.Bool.{eq-eqb}
use Rattle.def_machine.specs.Values.{Words, Value, Broken, Ref, Name, Root, Object, Promise, Answer, Gift, Sent, Naming, IsAnswer, IsSent, Own, Foreign, NoObject, spot_of, name_of, answer_of, host_of}
use Rattle.def_machine.specs.State.{Message, Standing, Settled, Known, Settle, ToTell, Passed, Passeds, Plain, AGift, Many, NoMore, More, Deliver, SettledTo, Happened, Sends, Reacts, Settles, Lost, Posted, Vat, Done, Gives, Stops, Act, ◌>>=◌, ◌>>◌, and_then, each, give, look, tell, enqueue, send_out, with_change, changed, changed_to, unless_settled, alter, new_message, begun, Delivery, new_lone_message}
use Rattle.def_machine.specs.Refs as refs
use Rattle.def_machine.specs.Refs.{Place, Near, Mine, Away, Gone, entry_of, host_in}
use Rattle.law_machine.specs.Machine.Steps.{After}
use Rattle.law_machine.specs.Machine.Laws.{SettledStays}
use Rattle.law_machine.proofs.Machine.RefsKeeps.{GoodSettler, keeps_send_on, keeps_settle_at}
use Rattle.law_machine.proofs.Machine.StepLaws.{settled_law, settled_names}
use Rattle.law_fate.specs.Fates.Fate.{one, among, sent_here, sent_in}
use Rattle.law_machine.proofs.Machine.Keeps as kept
use Rattle.law_fate.specs.Fates.Lasting.{Each, NamesMessage, NamesNoObject, NoPromise, HeldWell}
use Rattle.law_fate.proofs.Fates.Counts.{sent_end, Waits}
use Rattle.law_fate.proofs.Fates.RunCounts.{pick}
use Rattle.law_fate.proofs.Fates.PlacesLast.{Global}
use Rattle.law_fate.proofs.Fates.PlacesRefs.{Fits, IsEnd, IsHere, fits_at, of_end, settled_follow, target_last, found_well, settle_well, settled_entry, settled_standing, new_named}
use Rattle.law_fate.specs.Fates.Carry.{fare, weight, held_at, load}
use Rattle.law_fate.specs.Fates.Sound.{Sound}
use Rattle.law_fate.proofs.Fates.Light.{cost_some, LightAt, Light, held_end, light_on, lighter, cost_bind_last, cost_then_first, cost_then_last, then_at, light, light_bind, light_look, light_if, light_then, light_give, light_tell, light_enqueue, light_each, light_out_elsewhere, light_out_settled, unmoved, cost_out, hold_at, light_react, tell_at, change_sound, found_sound, host_known, come_sound, light_answer}

true_false : true ≡ false → ⊥
true_false e = cc

-- what a send to such a place adds to the weight
unfoldable pub ride : Place Name → ℕ → ℕ
ride (Mine n) c = c
ride (Away h n o) c = fare n c
ride other c = 0

fare_most : (n : Name) (c : ℕ) → fare n c ≤ c + c
unfolding fare
fare_most (Object w i) c = omega arith
fare_most other c = omega arith

pub ride_most : (p : Place Name) (c : ℕ) → ride p c ≤ c + c
unfolding ride
ride_most (Away h n o) c = fare_most n c
ride_most other c = omega arith

-- what is here goes nowhere
pub here_rides : (p : Place Name) (c : ℕ) → IsHere p → ride p c ≤ 0
unfolding ride
here_rides (Mine n) c h = absurd h
here_rides (Away u n o) c h = absurd h
here_rides other c h = omega arith

module _ (K : Naming Name Name) (v : ℕ) (global : Global K v) where
  -- what goes to another vat goes to its host, and a name of v itself has v as its host
  abbrev pub PlaceSound : List (Known Name) → Place Name → Type 0
  PlaceSound ks (Mine n) = host_in v (entry_of K ks n) ≡ v
  PlaceSound ks (Away h n o) = host_of n ≡ h
  PlaceSound ks other = Unit {0}

  either_sound : (ks : List (Known Name)) (s : Vat Name) (w i : ℕ) (b : Bool) → PlaceSound ks (refs.spotted K s (Object w i) (pick b (Own i) (Foreign w)))
  unfolding refs.spotted host_of
  either_sound ks s w i true = tt
  either_sound ks s w i false = refl

  hosted_where : (ks : List (Known Name)) (n : Name) (b : Bool) → (v == host_in v (entry_of K ks n)) ≡ b → (host_in v (entry_of K ks n) ≡ v) ⊎ (host_in v (entry_of K ks n) ≡ host_of n)
      → PlaceSound ks (pick b (Mine n) (Away (host_in v (entry_of K ks n)) n false))
  hosted_where ks n true e h = sym (eqb-true v (host_in v (entry_of K ks n)) e)
  hosted_where ks n false e (inl h) = absurd (true_false (sym (eq-eqb v (host_in v (entry_of K ks n)) (sym h)) ∙ e))
  hosted_where ks n false e (inr h) = sym h

  hosted_sound : (s : Vat Name) (n : Name) → Sound v s → PlaceSound s.known (refs.spotted K s n NoObject)
  unfolding refs.spotted refs.hosted refs.host_at
  hosted_sound s n w = subst (λ u. PlaceSound s.known (pick (u == host_in u (entry_of K s.known n)) (Mine n) (Away (host_in u (entry_of K s.known n)) n false))) (sym w.same)
      (hosted_where s.known n (v == host_in v (entry_of K s.known n)) refl (host_known v (Root 0) K global n s.known w.names))

  by_spot : (s : Vat Name) (n : Name) → spot_of v n ≡ NoObject → Sound v s → PlaceSound s.known (refs.spotted K s n (K.spot n))
  by_spot s n e w = subst (λ p. PlaceSound s.known (refs.spotted K s n p)) (sym (global.spot n ∙ e)) (hosted_sound s n w)

  object_sound : (s : Vat Name) (w i : ℕ) → PlaceSound s.known (refs.spotted K s (Object w i) (K.spot (Object w i)))
  unfolding spot_of
  object_sound s w i = subst (λ p. PlaceSound s.known (refs.spotted K s (Object w i) p)) (sym (global.spot (Object w i))) (either_sound s.known s w i (v == w))

  pub place_sound : (s : Vat Name) (y : Value Name) → Sound v s → PlaceSound s.known (refs.place K s y)
  unfolding refs.place spot_of
  place_sound s (Ref (Object u i)) w = object_sound s u i
  place_sound s (Ref (Root u)) w = by_spot s (Root u) refl w
  place_sound s (Ref (Promise u i)) w = by_spot s (Promise u i) refl w
  place_sound s (Ref (Answer u m)) w = by_spot s (Answer u m) refl w
  place_sound s (Ref (Gift u i)) w = by_spot s (Gift u i) refl w
  place_sound s (Ref (Sent m)) w = by_spot s (Sent m) refl w
  place_sound s other w = tt

  -- ---- what is no promise goes once at most

  either_rides : (s : Vat Name) (w i c : ℕ) (b : Bool) → ride (refs.spotted K s (Object w i) (pick b (Own i) (Foreign w))) c ≤ c
  unfolding refs.spotted ride fare
  either_rides s w i c true = omega arith
  either_rides s w i c false = omega arith

  object_rides : (s : Vat Name) (w i c : ℕ) → ride (refs.spotted K s (Object w i) (K.spot (Object w i))) c ≤ c
  unfolding spot_of
  object_rides s w i c = subst (λ p. ride (refs.spotted K s (Object w i) p) c ≤ c) (sym (global.spot (Object w i))) (either_rides s w i c (v == w))

  pub end_rides : (s : Vat Name) (y : Value Name) (c : ℕ) → NoPromise y → ride (refs.place K s y) c ≤ c
  unfolding refs.place ride
  end_rides s (Ref (Object w i)) c h = object_rides s w i c
  end_rides s (Ref (Root w)) c h = absurd h
  end_rides s (Ref (Promise w i)) c h = absurd h
  end_rides s (Ref (Answer w m)) c h = absurd h
  end_rides s (Ref (Gift w i)) c h = absurd h
  end_rides s (Ref (Sent m)) c h = absurd h
  end_rides s other c h = omega arith

  -- ---- acts

  module _ (x : Name) where
    -- a settler to what is no promise
    abbrev pub LightSettler : (Name → Value Name → Act Name (Unit {0})) → Type 0
    LightSettler settle = (p : Name) (y : Value Name) → NoPromise y → Light v x 0 (settle p y)

    away_addressed : (w : ℕ) (y : Value Name) (h : ℕ) (n : Name) (o : Bool) → Light v x 0 (refs.address_plain K w y (Away h n o))
    unfolding refs.address_plain
    away_addressed w y h n o = search (light) depth 14

    address_at : (w : ℕ) (y : Value Name) (p : Place Name) (s : Vat Name) → PlaceSound s.known p → Sound v s → LightAt v x 0 s (refs.address_plain K w y p s)
    unfolding refs.address_plain ◌>>◌ give
    address_at w y (Away h n o) s g k = (away_addressed w y h n o).after s k
    address_at w y (Mine n) s g k = then_at v x 0 s (alter K (ToTell w) n s) _ (tell_at v x K global w n s g k) (light_give v x (Plain y))
    address_at w y other s g k = unmoved v x s k

    light_placed : (w : ℕ) (y : Value Name) → Light v x 0 (look (λ s. refs.place K s y) >>= (λ p. refs.address_plain K w y p))
    unfolding ◌>>=◌ and_then look
    light_placed w y = record { after = λ s k. address_at w y (refs.place K s y) s (place_sound s y k) k }

    mutual
      unfolding refs.address refs.address_all

      light_address : (w : ℕ) (y : Passed Name) → Light v x 0 (refs.address K w y)
      light_address w (Plain y) = light_placed w y
      light_address w (AGift h i) = search (light)
      light_address w (Many ys) = let rest = light_address_all w ys in search (light)

      light_address_all : (w : ℕ) (ys : Passeds Name) → Light v x 0 (refs.address_all K w ys)
      light_address_all w NoMore = search (light)
      light_address_all w (More y ys) = let one = light_address w y in let rest = light_address_all w ys in search (light)

    pub light_pass : (w : ℕ) (y : Value Name) → Light v x 0 (refs.pass K w y)
    unfolding refs.pass
    light_pass w y = search (light, light_address) depth 14

    light_pass_all : (w : ℕ) (ys : List (Value Name)) → Light v x 0 (refs.pass_all K w ys)
    unfolding refs.pass_all
    light_pass_all w [] = search (light)
    light_pass_all w (y ∷ ys) = let rest = light_pass_all w ys in search (light, light_pass) depth 14

    cost_put : (w : ℕ) (d : Delivery Name) (n : Name) (verb : Words) (ys : Passeds Name) → host_of n ≡ w → Light v x (fare n (one d.message x)) (tell (Posted w d.message) >> send_out w (Deliver d n verb ys))
    unfolding weight
    cost_put w d n verb ys e = cost_then_last v x (fare n (one d.message x)) (light_tell v x (Posted w d.message)) (cost_out v x w (Deliver d n verb ys) e)

    pub cost_deliver : (m : Message Name) (h : ℕ) (n : Name) → host_of n ≡ h → Light v x (fare n (one m.id x)) (refs.deliver K m h n)
    unfolding refs.deliver
    cost_deliver m h n e = cost_bind_last v x (fare n (one m.id x)) (light_pass_all h m.args) (λ args. cost_put h (refs.delivery_of K m) n m.verb args e)

    light_waits_on : (p q : Name) → Light v x 0 (refs.wait_on K p q)
    unfolding refs.wait_on
    light_waits_on p q = search (light) depth 14

    cost_pass_on : (m : Message Name) (h : ℕ) (n : Name) → NamesMessage m.id → host_of n ≡ h → Light v x (fare n (one m.id x)) (refs.pass_on K m h n)
    unfolding refs.pass_on
    cost_pass_on m h n g e = cost_some v x (fare n (one m.id x)) m.answer (λ p. cost_bind_last v x (fare n (one m.id x)) (light_answer v x K global h m.id g) (λ a. cost_then_first v x (fare n (one m.id x)) (cost_deliver (record m { answer = Some a }) h n e) (light_waits_on p a))) (cost_deliver m h n e)

    module _ (settle : Name → Value Name → Act Name (Unit {0})) (good : LightSettler settle) where
      pub send_to_at : (m : Message Name) (y : Value Name) (p : Place Name) (s : Vat Name) → NamesMessage m.id → Fits y p → PlaceSound s.known p → Sound v s → LightAt v x (ride p (one m.id x)) s (refs.send_to K settle m y p s)
      unfolding refs.send_to ride
      send_to_at m y Near s g f h w = (light_enqueue v x (record m { target = y })).after s w
      send_to_at m y (Mine n) s g f h w = hold_at v x K global (record m { target = y }) n s (f, g) h w
      send_to_at m y (Away u n o) s g f h w = (cost_pass_on m u n g h).after s w
      send_to_at m y (Gone p) s g f h w = (light_then v x (light_tell v x (Lost m.id)) (cost_some v x 0 m.answer (λ a. good a (Broken p) tt) (light_give v x tt))).after s w

      -- a message is sent on at a state, from where its target is followed to goes so much
      pub sent_at : (c : ℕ) (m : Message Name) (s : Vat Name) → NamesMessage m.id → Sound v s → ride (refs.place K s (refs.follow K s m.target)) (one m.id x) ≤ c → LightAt v x c s (refs.send_on K settle m s)
      unfolding refs.send_on ◌>>=◌ and_then look
      sent_at c m s g w h = let y = refs.follow K s m.target in let p = refs.place K s y in
          lighter v x (ride p (one m.id x)) c s _ h (send_to_at m y p s g (fits_at K v global s y p refl) (place_sound s y w) w)

      -- a message that was held at a name that settled since
      sent_on : (s : Vat Name) (p : Name) (k : Known Name) (y : Value Name) (m : Message Name) → entry_of K s.known p ≡ Some k → k.standing ≡ Settled y → NoPromise y → HeldWell p m → Sound v s
          → LightAt v x (one m.id x) s (refs.send_on K settle m s)
      sent_on s p k y m e i h g w = let last : NoPromise (refs.follow K s m.target) = subst (λ u. NoPromise (refs.follow K s u)) (sym g.0) (settled_follow K v global s p k y e i h w.well) in
          sent_at (one m.id x) m s g.1 w (end_rides s (refs.follow K s m.target) (one m.id x) last)

      loop_at : (c d : ℕ) (s : Vat Name) (p : Name) (k : Known Name) (r : Done Name (Unit {0})) (rest : Act Name (Unit {0})) → LightAt v x c s r → After (SettledStays K) s r → (y : Value Name) → entry_of K s.known p ≡ Some k → k.standing ≡ Settled y
          → ((t : Vat Name) → Sound v t → entry_of K t.known p ≡ Some k → LightAt v x d t (rest t)) → LightAt v x (c + d) s (and_then r (λ _. rest))
      unfolding and_then
      loop_at c d s p k (Gives u t) rest h stays y e i f = light_on v x c d s t (rest t) h (f t h.sound (stays p k y e i))
      loop_at c d s p k (Stops u t) rest h stays y e i f = tt
      loop_at c d s p k other rest h stays y e i f = absurd h

      module _ (settled : GoodSettler (SettledStays K) settle) where
        all_sent : (p : Name) (k : Known Name) (y : Value Name) → k.standing ≡ Settled y → NoPromise y → (ms : List (Message Name)) (s : Vat Name) → Each (HeldWell p) ms → Sound v s → entry_of K s.known p ≡ Some k
            → LightAt v x (among x ms) s (each (refs.send_on K settle) ms s)
        unfolding each among give ◌>>◌
        all_sent p k y i h [] s g w e = unmoved v x s w
        all_sent p k y i h (m ∷ ms) s g w e = loop_at (one m.id x) (among x ms) s p k (refs.send_on K settle m s) (each (refs.send_on K settle) ms) (sent_on s p k y m e i h g.0 w)
            ((keeps_send_on K (SettledStays K) (settled_law K) (settled_names K) settle settled m).after s) y e i (λ t wt et. all_sent p k y i h ms t g.1 wt et)

    -- ---- a vat is told what a name of this vat settled to

    told_settled : (p : Name) (w : ℕ) (y : Value Name) → host_of p ≡ v → Light v x 0 (refs.pass K w y >>= (λ z. send_out w (SettledTo p z)))
    told_settled p w y e = light_bind v x (light_pass w y) (λ z. light_out_settled v x w p z e)

    light_inform_of : (p : Name) (w : ℕ) (y : Value Name) (q : Place Name) → host_of p ≡ v → Light v x 0 (refs.inform_of K p w y q)
    unfolding refs.inform_of
    light_inform_of p w y (Away h n true) e = light_out_elsewhere v x w p h e
    light_inform_of p w y other e = told_settled p w y e

    pub light_inform : (p : Name) (w : ℕ) → host_of p ≡ v → Light v x 0 (refs.inform K p w)
    unfolding refs.inform
    light_inform p w e = light_bind v x (light_look v x _) (λ y. light_bind v x (light_look v x _) (λ q. light_bind v x (light_look v x _) (λ gone. light_if v x gone (light_give v x tt) (light_inform_of p w y q e))))

    all_told : (p : Name) (ws : List ℕ) → Each (λ (w : ℕ). host_of p ≡ v) ws → Light v x 0 (each (refs.inform K p) ws)
    unfolding each
    all_told p [] h = light_give v x tt
    all_told p (w ∷ ws) h = light_then v x (light_inform p w h.0) (all_told p ws h.1)

    -- ---- a name that settles

    settled_holds : (y : Value Name) (k : Known Name) (t : Standing Name) → Waits K t → among x (unless_settled t k (changed_to (Settle y) k)).held ≡ 0
    unfolding unless_settled changed_to among
    settled_holds y k (Settled z) h = absurd h
    settled_holds y k other h = refl

    frees_where : (k j : Known Name) (y : Value Name) (ks js : List (Known Name)) (o : Option (Known Name)) (b : Bool) → elim b [ true ↦ Some j | false ↦ o ] ≡ Some k → Waits K k.standing
        → (o ≡ Some k → held_at x js + among x k.held ≡ held_at x ks)
        → held_at x (elim b [ true ↦ changed (Settle y) j ∷ ks | false ↦ j ∷ js ]) + among x k.held ≡ among x j.held + held_at x ks
    unfolding held_at changed
    frees_where k j y ks js o true e h rest = let same : j ≡ k = cc in let none = settled_holds y k k.standing h in rw same (omega arith)
    frees_where k j y ks js o false e h rest = let more = rest e in omega arith

    -- a name that settles frees all that it held
    held_frees : (y : Value Name) (p : Name) (k : Known Name) (ks : List (Known Name)) → entry_of K ks p ≡ Some k → Waits K k.standing → held_at x (with_change K (Settle y) p ks) + among x k.held ≡ held_at x ks
    unfolding with_change entry_of held_at
    held_frees y p k [] e h = cc
    held_frees y p k (j ∷ ks) e h = frees_where k j y ks (with_change K (Settle y) p ks) (entry_of K ks p) (K.same j.name p) e h (λ i. held_frees y p k ks i h)

    freed_at : (c : ℕ) (s t : Vat Name) (r : Done Name (Unit {0})) → load x t + c ≤ load x s → sent_in x s.happened ≤ sent_in x t.happened → LightAt v x c t r → LightAt v x 0 s r
    freed_at c s t (Gives u z) h g k = let i = k.kept in record { sound = k.sound; kept = omega arith }
    freed_at c s t (Stops e z) h g k = tt
    freed_at c s t other h g k = absurd k

    module _ (settle : Name → Value Name → Act Name (Unit {0})) (good : LightSettler settle) (settled : GoodSettler (SettledStays K) settle) where
      -- once it has settled: its held messages, the names that wait, its reactions and those who are to be told
      goes_on : (p : Name) (y : Value Name) (k j : Known Name) (t : Vat Name) → entry_of K t.known p ≡ Some j → j.standing ≡ Settled y → NoPromise y → Each (HeldWell p) k.held → Each (λ (w : ℕ). host_of p ≡ v) k.told → Sound v t
          → LightAt v x (among x k.held + 0) t ((each (refs.send_on K settle) k.held >> (each (λ q. settle q y) k.waiting >> (each enqueue k.reactions >> each (refs.inform K p) k.told))) t)
      unfolding ◌>>◌
      goes_on p y k j t e i last held told well =
          loop_at settle good (among x k.held) 0 t p j (each (refs.send_on K settle) k.held t) _ (all_sent settle good settled p j y i last k.held t held well e)
          ((kept.keeps_each (SettledStays K) (settled_law K) k.held (λ m. keeps_send_on K (SettledStays K) (settled_law K) (settled_names K) settle settled m)).after t) y e i (λ t1 w1 e1.
          (light_then v x (light_each v x k.waiting (λ q. good q y last)) (light_then v x (light_each v x k.reactions (λ m. light_enqueue v x m)) (all_told p k.told told))).after t1 w1)

      settles_known : (p : Name) (y : Value Name) (k : Known Name) (s : Vat Name) → entry_of K s.known p ≡ Some k → Waits K k.standing → NoPromise y → Sound v s → LightAt v x 0 s (refs.settle_known K settle p y k s)
      unfolding refs.settle_known ◌>>◌ and_then tell alter changed load
      settles_known p y k s e h last w =
          let t : Vat Name = record s { happened = s.happened ++ Settles p y ∷ []; known = with_change K (Settle y) p s.known } in
          let known = found_well K v global p k s.known e w.well in let of_k = known.0 in
          let sound = found_sound v x K global p k s.known e w.names in let k_sound = sound.0 in
          let held : Each (HeldWell p) k.held = subst (λ n. Each (HeldWell n) k.held) known.1 of_k.held in
          let told : Each (λ (w : ℕ). host_of p ≡ v) k.told = subst (λ n. Each (λ (w : ℕ). host_of n ≡ v) k.told) known.1 k_sound.told in
          let names = change_sound v x K global (Settle y) p s.known tt w.names in
          let free = held_frees y p k s.known e h in let more = sent_end x s.happened (Settles p y) in
          let less : load x t + (among x k.held + 0) ≤ load x s = omega arith in
          let sends : sent_in x s.happened ≤ sent_in x t.happened = omega arith in
          freed_at (among x k.held + 0) s t _ less sends
          (goes_on p y k (changed (Settle y) k) t (settled_entry K v global p y k s.known e) (settled_standing K v global y k k.standing h) last held told
          (record { same = w.same; well = settle_well K v global y p s.known last w.well; names = names.0; own = w.own; notes = w.notes }))

      settles_standing : (p : Name) (y : Value Name) (k : Known Name) (s : Vat Name) → entry_of K s.known p ≡ Some k → (t : Standing Name) → k.standing ≡ t → NoPromise y → Sound v s → LightAt v x 0 s (refs.settle_standing K settle p y k t s)
      unfolding refs.settle_standing give
      settles_standing p y k s e (Settled z) i last w = unmoved v x s w
      settles_standing p y k s e other i last w = settles_known p y k s e (rw i tt) last w

      settles_entry : (p : Name) (y : Value Name) (s : Vat Name) (o : Option (Known Name)) → entry_of K s.known p ≡ o → NoPromise y → Sound v s → LightAt v x 0 s (refs.settle_entry K settle p y o s)
      unfolding refs.settle_entry give
      settles_entry p y s None e last w = unmoved v x s w
      settles_entry p y s (Some k) e last w = settles_standing p y k s e k.standing refl last w

      light_settle_one : LightSettler (refs.settle_one K settle)
      unfolding refs.settle_one ◌>>=◌ and_then look
      light_settle_one p y last = record { after = λ s w. settles_entry p (refs.target_of K s p y) s (entry_of K s.known p) refl (target_last K v global s p y last) w }

    light_settle_at : (d : ℕ) → LightSettler (refs.settle_at K d)
    unfolding refs.settle_at
    light_settle_at zero p y last = search (light)
    light_settle_at (suc d) p y last = light_settle_one (λ q z. refs.settle_at K d q z) (λ q z l. light_settle_at d q z l) (λ q z. keeps_settle_at K (SettledStays K) (settled_law K) (settled_names K) d q z) p y last

    pub light_settle : LightSettler (refs.settle K)
    unfolding refs.settle
    light_settle p y last = search (light, light_settle_at) depth 14

    -- what breaks is no promise
    pub light_break : (p : Name) (t : Words) → Light v x 0 (refs.settle K p (Broken t))
    light_break p t = light_settle p (Broken t) tt

    light_wait_unless_cycle : (p q : Name) → Light v x 0 (refs.wait_unless_cycle K p q)
    unfolding refs.wait_unless_cycle
    light_wait_unless_cycle p q = search (light, light_break, light_waits_on) depth 14

    light_resolve_to : (p : Name) (y : Value Name) (q : Place Name) → (IsEnd q → NoPromise y) → Light v x 0 (refs.resolve_to K p y q)
    unfolding refs.resolve_to
    light_resolve_to p y (Mine q) h = light_wait_unless_cycle p q
    light_resolve_to p y (Away u q false) h = light_wait_unless_cycle p q
    light_resolve_to p y other h = light_settle p y (h tt)

    pub light_resolve : (p : Name) (y : Value Name) → Light v x 0 (refs.resolve K p y)
    unfolding refs.resolve ◌>>=◌ and_then look
    light_resolve p y = record { after = λ s w. let z = refs.follow K s y in (light_resolve_to p z (refs.place K s z) (of_end K v global s z)).after s w }

    -- ---- new messages

    send_first_at : (m : Message Name) (y : Value Name) (p : Place Name) (s : Vat Name) → NamesMessage m.id → Fits y p → PlaceSound s.known p → Sound v s → LightAt v x (ride p (one m.id x)) s (refs.send_first K m y p s)
    unfolding refs.send_first ride
    send_first_at m y (Away h n o) s g f e w = (cost_deliver m h n e).after s w
    send_first_at m y Near s g f e w = send_to_at (refs.settle K) light_settle m y Near s g f e w
    send_first_at m y (Mine n) s g f e w = send_to_at (refs.settle K) light_settle m y (Mine n) s g f e w
    send_first_at m y (Gone p) s g f e w = send_to_at (refs.settle K) light_settle m y (Gone p) s g f e w

    -- a name that comes to be known as one of this vat leaves that vat the host of what it hosts
    pub host_later : (n a : Name) (h : ℕ) → h ≡ v → (ks : List (Known Name)) → host_in v (entry_of K ks n) ≡ v → host_in v (entry_of K (ks ++ begun a h ∷ []) n) ≡ v
    unfolding entry_of host_in begun
    host_later n a h e [] i = only (K.same a n)
      where
        only : (b : Bool) → host_in v (elim b [ true ↦ Some (begun a h) | false ↦ None ]) ≡ v
        only true = e
        only false = refl
    host_later n a h e (k ∷ ks) i = go (host_later n a h e ks) (K.same k.name n) i
      where
        go : (host_in v (entry_of K ks n) ≡ v → host_in v (entry_of K (ks ++ begun a h ∷ []) n) ≡ v) → (b : Bool) → host_in v (elim b [ true ↦ Some k | false ↦ entry_of K ks n ]) ≡ v
            → host_in v (elim b [ true ↦ Some k | false ↦ entry_of K (ks ++ begun a h ∷ []) n ]) ≡ v
        go f true j = j
        go f false j = f j

    place_later : (s : Vat Name) (a : Name) (p : Place Name) → s.number ≡ v → PlaceSound s.known p → PlaceSound (s.known ++ begun a (refs.answer_host K s.number p) ∷ []) p
    unfolding refs.answer_host
    place_later s a (Mine n) e g = host_later n a s.number e s.known g
    place_later s a (Away h n o) e g = g
    place_later s a other e g = tt

    light_react_at : (m : Message Name) (p : Place Name) → Light v x 0 (refs.react_at K m p)
    unfolding refs.react_at
    light_react_at m (Mine n) = light_react v x K global m n
    light_react_at m (Away h n false) = light_react v x K global m n
    light_react_at m other = light_enqueue v x m

    new_answer : (h k : ℕ) (id : Name) → NamesMessage id → NamesNoObject (K.made (IsAnswer h id) k) × (h ≡ host_of (K.made (IsAnswer h id) k))
    unfolding name_of answer_of host_of
    new_answer h k id g = subst (λ n. NamesNoObject n × (h ≡ host_of n)) (sym (global.made (IsAnswer h id) k)) (rw g.1 (tt, refl))

    paid_at : (s t : Vat Name) (c d : ℕ) (r : Done Name (Value Name)) → load x t ≡ load x s → sent_in x t.happened ≡ sent_in x s.happened + c → d ≤ c + c → LightAt v x d t r → LightAt v x 0 s r
    paid_at s t c d (Gives u z) h g i k = let j = k.kept in record { sound = k.sound; kept = omega arith }
    paid_at s t c d (Stops e z) h g i k = tt
    paid_at s t c d other h g i k = absurd k

    -- a message that is numbered and told, with its answer
    new_at : (d : ℕ) (s : Vat Name) (h : ℕ) (id : Name) (k : ℕ) (e : Happened Name) (r : Done Name (Value Name)) → NamesMessage id → sent_here x e ≡ one id x → d ≤ one id x + one id x → Sound v s
        → (Sound v (record s { messages = suc s.messages; mails = s.mails ++ id ∷ []; known = s.known ++ begun (K.made (IsAnswer h id) k) h ∷ []; happened = s.happened ++ e ∷ [] })
        → LightAt v x d (record s { messages = suc s.messages; mails = s.mails ++ id ∷ []; known = s.known ++ begun (K.made (IsAnswer h id) k) h ∷ []; happened = s.happened ++ e ∷ [] }) r)
        → LightAt v x 0 s r
    unfolding load
    new_at d s h id k e r g told small w f = let a = K.made (IsAnswer h id) k in let same = held_end x s.known a h in let more = sent_end x s.happened e in let named = new_answer h k id g in
        let t : Vat Name = record s { messages = suc s.messages; mails = s.mails ++ id ∷ []; known = s.known ++ begun a h ∷ []; happened = s.happened ++ e ∷ [] } in
        let weighs : load x t ≡ load x s = omega arith in let sends : sent_in x t.happened ≡ sent_in x s.happened + one id x = omega arith in
        paid_at s t (one id x) d r weighs sends small (f (come_sound v x K global s a h named.0 named.1 w))

    pub light_send : (act : ℕ) (y : Value Name) (verb : Words) (args : List (Value Name)) → Light v x 0 (refs.send K act y verb args)
    unfolding refs.send ◌>>=◌ ◌>>◌ and_then look tell new_message sent_here
    light_send act y verb args = record {
      after = λ s w. let z = refs.follow K s y in let p = refs.place K s z in let id = K.mailed (IsSent s.messages) (length s.mails) in let named = new_named K v global (λ u. false) x s.messages (length s.mails) in
          new_at (ride p (one id x)) s (refs.answer_host K s.number p) id (length s.known) (Sends act _) _ named refl (ride_most p (one id x)) w
          (λ wt. then_at v x (ride p (one id x)) _ _ _ (send_first_at _ z p _ named (fits_at K v global s z p refl) (place_later s _ p w.same (place_sound s z w)) wt) (light_give v x _));
    }

    pub light_send_only : (act : ℕ) (y : Value Name) (verb : Words) (args : List (Value Name)) → Light v x 0 (refs.send_only K act y verb args)
    unfolding refs.send_only ◌>>=◌ ◌>>◌ and_then look tell new_lone_message sent_here load
    light_send_only act y verb args = record {
      after = λ s w. let z = refs.follow K s y in let p = refs.place K s z in let id = K.mailed (IsSent s.messages) (length s.mails) in let named = new_named K v global (λ u. false) x s.messages (length s.mails) in
          let e : Happened Name = Sends act (record { id = id; target = y; verb = verb; args = args; answer = None }) in
          let t : Vat Name = record s { messages = suc s.messages; mails = s.mails ++ id ∷ []; happened = s.happened ++ e ∷ [] } in let more = sent_end x s.happened e in
          let weighs : load x t ≡ load x s = omega arith in let sends : sent_in x t.happened ≡ sent_in x s.happened + one id x = omega arith in
          paid_at s t (one id x) (ride p (one id x)) _ weighs sends (ride_most p (one id x))
          (then_at v x (ride p (one id x)) t (refs.send_first K _ z p t) _ (send_first_at _ z p t named (fits_at K v global s z p refl) (place_sound s z w) w) (light_give v x _));
    }

    pub light_reacts : (act : ℕ) (y o near : Value Name) → Light v x 0 (refs.react K act y o near)
    unfolding refs.react ◌>>=◌ ◌>>◌ and_then look tell new_message refs.reaction sent_here
    light_reacts act y o near = record {
      after = λ s w. let id = K.mailed (IsSent s.messages) (length s.mails) in let named = new_named K v global (λ u. false) x s.messages (length s.mails) in
          new_at 0 s s.number id (length s.known) (Reacts act y o _) _ named refl (omega arith) w (λ wt. (light_then v x (light_react_at _ _) (light_give v x _)).after _ wt);
    }
