-- What is done with references lets what has a place last.
use Rattle.std.proofs.Common.{◌≡◌, ℕ, zero, suc, ◌+◌, ◌≤◌, Bool, true, false, List, [], ◌∷◌, ◌++◌, Option, Some, None, refl, sym, ap, ◌∙◌, arith, length, subst, if◌then◌else◌, ◌-◌, eqb-true}
use Rattle.std.specs.Prelude.{◌==◌, nat_le}
use Rattle.def_machine.specs.Values.{Words, Value, Broken, Items, Ref, Name, Root, Object, Promise, Answer, Gift, Sent, Naming, IsAnswer, IsSent, Spot, Own, Foreign, NoObject, spot_of, name_of, answer_of, mail_of}
use Rattle.def_machine.specs.State.{Message, Standing, Settled, Known, Settle, Passed, Passeds, Plain, AGift, Many, NoMore, More, Deliver, Happened, Sends, Reacts, Settles, Lost, Posted, Vat, Done, Gives, Stops, Act, ◌>>=◌, ◌>>◌, and_then, each, give, look, tell, enqueue, send_out, with_change, changed, changed_to, unless_settled, alter, new_message, begun, is_in, SettledTo, spend, spent, Delivery, new_lone_message}
use Rattle.def_machine.specs.Refs as refs
use Rattle.def_machine.specs.Refs.{Place, Near, Mine, Away, Gone, entry_of}
use Rattle.law_machine.specs.Machine.Steps.{After}
use Rattle.law_machine.specs.Machine.Laws.{SettledStays}
use Rattle.law_machine.proofs.Machine.RefsKeeps.{GoodSettler, keeps_send_on, keeps_settle_at, keeps_inform}
use Rattle.law_machine.proofs.Machine.Keeps as kept
use Rattle.def_machine.specs.Native.{list_at}
use Rattle.std.proofs.lemmas.Bool.{eq-eqb}
use Rattle.law_machine.proofs.Machine.StepLaws.{settled_law, settled_names}
use Rattle.law_fate.specs.Fates.Fate.{one, among, at_vat, gone_here, where_cut, of_note, in_note, account}
use Rattle.law_fate.specs.Fates.Lasting.{PassedLast, Each, NamesMessage, NamesNoObject, NamesObject, NoPromise, HeldWell, KnownWell, AllWell}
use Rattle.law_fate.proofs.Fates.Counts.{gone_end, names_end, Waits, settling_frees}
use Rattle.law_fate.proofs.Fates.RunCounts.{pick}
use Rattle.law_fate.proofs.Fates.PlacesLast.{cost_some, Global, PaysAt, Pays, pay_more, cost_less, cost_then, cost_bind_last, cost_then_first, pays, pays_each, pays_give, cost_tell, cost_enqueue, pays_enqueue, cost_out, pays_hold, pays_react, pays_answer, come_well, pays_out, pays_out_elsewhere}

-- a message whose target is followed to that may be put at this place
abbrev pub Fits : Value Name → Place Name → Type 0
Fits y (Mine n) = y ≡ Ref n
Fits y other = Unit {0}

-- the place of what is no promise
abbrev pub IsEnd : Place Name → Type 0
IsEnd (Mine n) = ⊥
IsEnd (Away h n false) = ⊥
IsEnd other = Unit {0}

-- the place of what is here
abbrev pub IsHere : Place Name → Type 0
IsHere (Mine n) = ⊥
IsHere (Away h n o) = ⊥
IsHere other = Unit {0}

true_false : true ≡ false → ⊥
true_false e = cc

module _ (K : Naming Name Name) (v : ℕ) (global : Global K v) where
  -- data, or an object of this vat
  abbrev pub NearValue : Value Name → Type 0
  NearValue (Ref (Object w i)) = w ≡ v
  NearValue (Ref (Root w)) = ⊥
  NearValue (Ref (Promise w i)) = ⊥
  NearValue (Ref (Answer w m)) = ⊥
  NearValue (Ref (Gift w i)) = ⊥
  NearValue (Ref (Sent m)) = ⊥
  NearValue other = Unit {0}

  abbrev PassedNear : Passed Name → Type 0
  PassedNear (Plain y) = NearValue y
  PassedNear (AGift h i) = ⊥
  PassedNear (Many ys) = Unit {0}

  -- ---- places

  hosted_mine : (h : ℕ) (m n : Name) (b : Bool) → elim b [ true ↦ Mine m | false ↦ Away h m false ] ≡ Mine n → m ≡ n
  hosted_mine h m n true e = cc
  hosted_mine h m n false e = cc

  spotted_mine : (s : Vat Name) (m n : Name) (p : Spot) → refs.spotted K s m p ≡ Mine n → m ≡ n
  unfolding refs.spotted refs.hosted
  spotted_mine s m n NoObject e = hosted_mine _ m n (s.number == refs.host_at K s.number s.known m) e
  spotted_mine s m n other e = cc

  mine_is : (s : Vat Name) (y : Value Name) (n : Name) → refs.place K s y ≡ Mine n → y ≡ Ref n
  unfolding refs.place
  mine_is s (Ref m) n e = ap Ref (spotted_mine s m n (K.spot m) e)
  mine_is s other n e = cc

  pub fits_at : (s : Vat Name) (y : Value Name) (p : Place Name) → refs.place K s y ≡ p → Fits y p
  fits_at s y (Mine n) e = mine_is s y n e
  fits_at s y other e = tt

  either_end : (s : Vat Name) (n : Name) (i h : ℕ) (b : Bool) → IsEnd (refs.spotted K s n (elim b [ true ↦ Own i | false ↦ Foreign h ]))
  unfolding refs.spotted
  either_end s n i h true = tt
  either_end s n i h false = tt

  object_end : (s : Vat Name) (w i : ℕ) → IsEnd (refs.spotted K s (Object w i) (spot_of v (Object w i)))
  unfolding spot_of
  object_end s w i = either_end s (Object w i) i w (v == w)

  pub end_of : (s : Vat Name) (y : Value Name) → NoPromise y → IsEnd (refs.place K s y)
  unfolding refs.place
  end_of s (Ref (Object w i)) h = subst (λ p. IsEnd (refs.spotted K s (Object w i) p)) (sym (global.spot (Object w i))) (object_end s w i)
  end_of s (Ref (Root w)) h = absurd h
  end_of s (Ref (Promise w i)) h = absurd h
  end_of s (Ref (Answer w m)) h = absurd h
  end_of s (Ref (Gift w i)) h = absurd h
  end_of s (Ref (Sent m)) h = absurd h
  end_of s other h = tt

  hosted_open : (h : ℕ) (m : Name) (b : Bool) → IsEnd (elim b [ true ↦ Mine m | false ↦ Away h m false ]) → ⊥
  hosted_open h m true e = e
  hosted_open h m false e = e

  spotted_open : (s : Vat Name) (m : Name) → IsEnd (refs.spotted K s m NoObject) → ⊥
  unfolding refs.spotted refs.hosted
  spotted_open s m e = hosted_open _ m (s.number == refs.host_at K s.number s.known m) e

  no_end : (s : Vat Name) (n : Name) → spot_of v n ≡ NoObject → IsEnd (refs.spotted K s n (K.spot n)) → ⊥
  no_end s n e h = spotted_open s n (subst (λ p. IsEnd (refs.spotted K s n p)) (global.spot n ∙ e) h)

  pub of_end : (s : Vat Name) (y : Value Name) → IsEnd (refs.place K s y) → NoPromise y
  unfolding refs.place spot_of
  of_end s (Ref (Root w)) h = absurd (no_end s (Root w) refl h)
  of_end s (Ref (Promise w i)) h = absurd (no_end s (Promise w i) refl h)
  of_end s (Ref (Answer w m)) h = absurd (no_end s (Answer w m) refl h)
  of_end s (Ref (Gift w i)) h = absurd (no_end s (Gift w i) refl h)
  of_end s (Ref (Sent m)) h = absurd (no_end s (Sent m) refl h)
  of_end s other h = tt

  -- ---- following what settled

  object_or_not : (n : Name) → NamesNoObject n → NamesObject n → ⊥
  object_or_not (Object w i) h k = h
  object_or_not other h k = k

  none_where : (n : Name) (k : Known Name) (o : Option (Known Name)) (b : Bool) → K.same k.name n ≡ b → NamesObject n → NamesNoObject k.name → o ≡ None → pick b (Some k) o ≡ None
  none_where n k o true e h i j = absurd (object_or_not n (subst NamesNoObject (global.alike k.name n e) i) h)
  none_where n k o false e h i j = j

  pub none_found : (n : Name) (ks : List (Known Name)) → NamesObject n → Each KnownWell ks → entry_of K ks n ≡ None
  unfolding entry_of
  none_found n [] h w = refl
  none_found n (k ∷ ks) h w = let here = w.0 in none_where n k (entry_of K ks n) (K.same k.name n) refl h here.name (none_found n ks h w.1)

  pub follow_last : (d : ℕ) (ks : List (Known Name)) (y : Value Name) → NoPromise y → Each KnownWell ks → NoPromise (refs.follow_at K d ks y)
  unfolding refs.follow_at refs.led refs.standing_of refs.standing_in
  follow_last zero ks y h w = h
  follow_last (suc d) ks (Ref n) h w = subst (λ o. NoPromise (refs.led K (λ y. refs.follow_at K d ks y) n (refs.standing_in o))) (sym (none_found n ks h w)) h
  follow_last (suc d) ks other h w = tt

  by_last : (n : Name) (t : Words) (b : Bool) → NamesObject n → NoPromise (elim b [ true ↦ Broken t | false ↦ Ref n ])
  by_last n t true h = tt
  by_last n t false h = h

  spot_last : (s : Vat Name) (n : Name) (p : Spot) → NamesObject n → NoPromise (refs.severed_at K s n p)
  unfolding refs.severed_at refs.severed_by
  spot_last s n (Own i) h = h
  spot_last s n (Foreign u) h = by_last n _ (is_in u s.noticed) h
  spot_last s n NoObject h = by_last n _ (is_in (refs.host_at K s.number s.known n) s.noticed) h

  pub severed_last : (s : Vat Name) (y : Value Name) → NoPromise y → NoPromise (refs.severed K s y)
  unfolding refs.severed
  severed_last s (Ref n) h = spot_last s n (K.spot n) h
  severed_last s other h = tt

  -- a name that settled is followed to no promise
  pub settled_follow : (s : Vat Name) (p : Name) (k : Known Name) (y : Value Name) → entry_of K s.known p ≡ Some k → k.standing ≡ Settled y → NoPromise y → Each KnownWell s.known → NoPromise (refs.follow K s (Ref p))
  unfolding refs.follow refs.follow_at refs.led refs.standing_of refs.standing_in
  settled_follow s p k y e i h w = let on : Value Name → Value Name = λ y. refs.follow_at K (length s.known) s.known y in
      let same : refs.standing_in (entry_of K s.known p) ≡ Settled y = ap refs.standing_in e ∙ i in
      subst (λ t. NoPromise (refs.severed K s (refs.led K on p t))) (sym same) (severed_last s (on y) (follow_last (length s.known) s.known y h w))

  cut_last : (b : Bool) (y : Value Name) → NoPromise y → NoPromise (refs.cut_cycle K b y)
  unfolding refs.cut_cycle
  cut_last true y h = tt
  cut_last false y h = h

  pub target_last : (s : Vat Name) (p : Name) (y : Value Name) → NoPromise y → NoPromise (refs.target_of K s p y)
  unfolding refs.target_of
  target_last s p (Items k) h = cut_last _ (Items k) tt
  target_last s p (Ref n) h = h
  target_last s p other h = tt

  -- ---- a name that settles

  found_where : (p : Name) (k j : Known Name) (o : Option (Known Name)) (b : Bool) → K.same j.name p ≡ b → elim b [ true ↦ Some j | false ↦ o ] ≡ Some k → KnownWell j → (o ≡ Some k → KnownWell k × (k.name ≡ p)) → KnownWell k × (k.name ≡ p)
  found_where p k j o true e i h r = let same : j ≡ k = cc in let here : KnownWell j × (j.name ≡ p) = (h, global.alike j.name p e) in rw same at here
  found_where p k j o false e i h r = r i

  pub found_well : (p : Name) (k : Known Name) (ks : List (Known Name)) → entry_of K ks p ≡ Some k → Each KnownWell ks → KnownWell k × (k.name ≡ p)
  unfolding entry_of
  found_well p k [] e w = cc
  found_well p k (j ∷ ks) e w = found_where p k j (entry_of K ks p) (K.same j.name p) refl e w.0 (λ i. found_well p k ks i w.1)

  unless_settles : (y : Value Name) (k : Known Name) (t : Standing Name) → NoPromise y → KnownWell k → KnownWell (unless_settled t k (changed_to (Settle y) k))
  unfolding unless_settled changed_to
  unless_settles y k (Settled z) h w = w
  unless_settles y k other h w = record { name = w.name; standing = h; held = tt }

  settled_where : (b : Bool) (y : Value Name) (k : Known Name) (ks js : List (Known Name)) → NoPromise y → KnownWell k → Each KnownWell ks → Each KnownWell js → Each KnownWell (elim b [ true ↦ changed (Settle y) k ∷ ks | false ↦ k ∷ js ])
  unfolding changed
  settled_where true y k ks js h w ws us = (unless_settles y k k.standing h w, ws)
  settled_where false y k ks js h w ws us = (w, us)

  pub settle_well : (y : Value Name) (p : Name) (ks : List (Known Name)) → NoPromise y → Each KnownWell ks → Each KnownWell (with_change K (Settle y) p ks)
  unfolding with_change
  settle_well y p [] h w = tt
  settle_well y p (k ∷ ks) h w = settled_where (K.same k.name p) y k ks (with_change K (Settle y) p ks) h w.0 w.1 (settle_well y p ks h w.1)

  changed_name : (y : Value Name) (k : Known Name) (t : Standing Name) → (unless_settled t k (changed_to (Settle y) k)).name ≡ k.name
  unfolding unless_settled changed_to
  changed_name y k (Settled z) = refl
  changed_name y k other = refl

  again : (p : Name) (k j : Known Name) (o : Option (Known Name)) (b c : Bool) → b ≡ c → c ≡ true → j ≡ k → elim b [ true ↦ Some j | false ↦ o ] ≡ Some k
  again p k j o true c e i h = ap Some h
  again p k j o false true e i h = cc
  again p k j o false false e i h = cc

  entry_where : (p : Name) (y : Value Name) (k j : Known Name) (ks js : List (Known Name)) (b : Bool) → K.same j.name p ≡ b → elim b [ true ↦ Some j | false ↦ entry_of K ks p ] ≡ Some k → (entry_of K ks p ≡ Some k → entry_of K js p ≡ Some (changed (Settle y) k))
      → entry_of K (elim b [ true ↦ changed (Settle y) j ∷ ks | false ↦ j ∷ js ]) p ≡ Some (changed (Settle y) k)
  unfolding entry_of changed
  entry_where p y k j ks js true e i r = let same : j ≡ k = cc in
      again p (changed (Settle y) k) (changed (Settle y) j) (entry_of K ks p) (K.same (changed (Settle y) j).name p) (K.same j.name p) (ap (λ n. K.same n p) (changed_name y j j.standing)) e (ap (changed (Settle y)) same)
  entry_where p y k j ks js false e i r = past (K.same j.name p) e (r i)
    where
      past : (b : Bool) → b ≡ false → entry_of K js p ≡ Some (changed (Settle y) k) → elim b [ true ↦ Some j | false ↦ entry_of K js p ] ≡ Some (changed (Settle y) k)
      past true h g = cc
      past false h g = g

  pub settled_entry : (p : Name) (y : Value Name) (k : Known Name) (ks : List (Known Name)) → entry_of K ks p ≡ Some k → entry_of K (with_change K (Settle y) p ks) p ≡ Some (changed (Settle y) k)
  unfolding with_change entry_of
  settled_entry p y k [] e = cc
  settled_entry p y k (j ∷ ks) e = entry_where p y k j ks (with_change K (Settle y) p ks) (K.same j.name p) refl e (λ i. settled_entry p y k ks i)

  pub settled_standing : (y : Value Name) (k : Known Name) (t : Standing Name) → Waits K t → (unless_settled t k (changed_to (Settle y) k)).standing ≡ Settled y
  unfolding unless_settled changed_to
  settled_standing y k (Settled z) h = absurd h
  settled_standing y k other h = refl

  -- ---- what is here: data, or an object of this vat

  near_by : (n : Name) (t : Words) (b : Bool) → NearValue (Ref n) → NearValue (pick b (Broken t) (Ref n))
  near_by n t true h = tt
  near_by n t false h = h

  near_spot : (s : Vat Name) (n : Name) (p : Spot) → NearValue (Ref n) → NearValue (refs.severed_at K s n p)
  unfolding refs.severed_at refs.severed_by
  near_spot s n (Own i) h = h
  near_spot s n (Foreign u) h = near_by n _ (is_in u s.noticed) h
  near_spot s n NoObject h = near_by n _ (is_in (refs.host_at K s.number s.known n) s.noticed) h

  near_severed : (s : Vat Name) (y : Value Name) → NearValue y → NearValue (refs.severed K s y)
  unfolding refs.severed
  near_severed s (Ref n) h = near_spot s n (K.spot n) h
  near_severed s other h = tt

  near_object : (n : Name) → NearValue (Ref n) → NamesObject n
  near_object (Object w i) h = tt
  near_object other h = h

  near_at : (d : ℕ) (ks : List (Known Name)) (y : Value Name) → NearValue y → Each KnownWell ks → NearValue (refs.follow_at K d ks y)
  unfolding refs.follow_at refs.led refs.standing_of refs.standing_in
  near_at zero ks y h w = h
  near_at (suc d) ks (Ref n) h w = subst (λ o. NearValue (refs.led K (λ y. refs.follow_at K d ks y) n (refs.standing_in o))) (sym (none_found n ks (near_object n h) w)) h
  near_at (suc d) ks other h w = tt

  pub near_follow : (s : Vat Name) (y : Value Name) → NearValue y → Each KnownWell s.known → NearValue (refs.follow K s y)
  unfolding refs.follow
  near_follow s y h w = near_severed s (refs.follow_at K (suc (length s.known)) s.known y) (near_at (suc (length s.known)) s.known y h w)

  here_where : (s : Vat Name) (n : Name) (w i : ℕ) (b : Bool) → (v == w) ≡ b → w ≡ v → IsHere (refs.spotted K s n (pick b (Own i) (Foreign w)))
  unfolding refs.spotted
  here_where s n w i true e h = tt
  here_where s n w i false e h = let yes = eq-eqb v w (sym h) in absurd (true_false (sym yes ∙ e))

  object_here : (s : Vat Name) (w i : ℕ) → w ≡ v → IsHere (refs.spotted K s (Object w i) (spot_of v (Object w i)))
  unfolding spot_of
  object_here s w i h = here_where s (Object w i) w i (v == w) refl h

  pub near_here : (s : Vat Name) (y : Value Name) → NearValue y → IsHere (refs.place K s y)
  unfolding refs.place
  near_here s (Ref (Object w i)) h = subst (λ p. IsHere (refs.spotted K s (Object w i) p)) (sym (global.spot (Object w i))) (object_here s w i h)
  near_here s (Ref (Root w)) h = absurd h
  near_here s (Ref (Promise w i)) h = absurd h
  near_here s (Ref (Answer w m)) h = absurd h
  near_here s (Ref (Gift w i)) h = absurd h
  near_here s (Ref (Sent m)) h = absurd h
  near_here s other h = tt

  near_where : (s : Vat Name) (n : Name) (w i : ℕ) (b : Bool) → (v == w) ≡ b → IsHere (refs.spotted K s n (pick b (Own i) (Foreign w))) → w ≡ v
  unfolding refs.spotted
  near_where s n w i true e h = sym (eqb-true v w e)
  near_where s n w i false e h = absurd h

  here_object : (s : Vat Name) (w i : ℕ) → IsHere (refs.spotted K s (Object w i) (spot_of v (Object w i))) → w ≡ v
  unfolding spot_of
  here_object s w i h = near_where s (Object w i) w i (v == w) refl h

  here_near : (s : Vat Name) (y : Value Name) → NoPromise y → IsHere (refs.place K s y) → NearValue y
  unfolding refs.place
  here_near s (Ref (Object w i)) l h = here_object s w i (subst (λ p. IsHere (refs.spotted K s (Object w i) p)) (global.spot (Object w i)) h)
  here_near s (Ref (Root w)) l h = absurd l
  here_near s (Ref (Promise w i)) l h = absurd l
  here_near s (Ref (Answer w m)) l h = absurd l
  here_near s (Ref (Gift w i)) l h = absurd l
  here_near s (Ref (Sent m)) l h = absurd l
  here_near s other l h = tt

  shape_near : (f : List (Value Name) → Passed Name) (ls : List (List (Value Name))) (y : Value Name) → ((vs : List (Value Name)) → PassedNear (f vs)) → NearValue y → PassedNear (refs.shape_by K f ls y)
  unfolding refs.shape_by
  shape_near f ls (Items k) g h = g (list_at ls k)
  shape_near f ls (Ref n) g h = h
  shape_near f ls other g h = tt

  shapes_near : (d : ℕ) (s : Vat Name) (y : Value Name) → NearValue (refs.follow K s y) → PassedNear (refs.shape K d s y)
  unfolding refs.shape
  shapes_near zero s y h = shape_near _ s.lists (refs.follow K s y) (λ vs. tt) h
  shapes_near (suc d) s y h = shape_near _ s.lists (refs.follow K s y) (λ vs. tt) h

  list_near : (s : Vat Name) (y : Value Name) (o : Option ℕ) → NearValue (refs.follow K s y) → PassedNear (refs.parcel_of_list K s y o).value
  unfolding refs.parcel_of_list refs.too_heavy
  list_near s y (Some left) h = shapes_near refs.highest s y h
  list_near s y None h = tt

  parcels_near : (s : Vat Name) (y : Value Name) → NearValue y → Each KnownWell s.known → PassedNear (refs.parcel_at K s y).value
  unfolding refs.parcel_at
  parcels_near s (Items k) h w = list_near s (Items k) _ (near_follow s (Items k) tt w)
  parcels_near s (Ref n) h w = h
  parcels_near s other h w = tt

  parcel_near : (s : Vat Name) (y : Value Name) → NearValue y → Each KnownWell s.known → PassedNear (refs.parcel K s y).value
  unfolding refs.parcel
  parcel_near s y h w = parcels_near s (refs.follow K s y) (near_follow s y h w) w

  -- ---- acts

  module _ (cut : ℕ → Bool) (x : Name) where
    -- a settler to what is no promise
    abbrev pub LastSettler : (Name → Value Name → Act Name (Unit {0})) → Type 0
    LastSettler settle = (p : Name) (y : Value Name) → NoPromise y → Pays cut x 0 (settle p y)

    pays_address_plain : (w : ℕ) (y : Value Name) (p : Place Name) → Pays cut x 0 (refs.address_plain K w y p)
    unfolding refs.address_plain
    pays_address_plain w y (Away h n o) = search (pays) depth 14
    pays_address_plain w y (Mine n) = search (pays) depth 14
    pays_address_plain w y _ = search (pays) depth 14

    mutual
      unfolding refs.address refs.address_all

      pays_address : (w : ℕ) (y : Passed Name) → Pays cut x 0 (refs.address K w y)
      pays_address w (Plain y) = search (pays, pays_address_plain) depth 14
      pays_address w (AGift h i) = search (pays)
      pays_address w (Many ys) = let rest = pays_address_all w ys in search (pays)

      pays_address_all : (w : ℕ) (ys : Passeds Name) → Pays cut x 0 (refs.address_all K w ys)
      pays_address_all w NoMore = search (pays)
      pays_address_all w (More y ys) = let one = pays_address w y in let rest = pays_address_all w ys in search (pays)

    pub pays_pass : (w : ℕ) (y : Value Name) → Pays cut x 0 (refs.pass K w y)
    unfolding refs.pass
    pays_pass w y = search (pays, pays_address) depth 14

    pays_pass_all : (w : ℕ) (ys : List (Value Name)) → Pays cut x 0 (refs.pass_all K w ys)
    unfolding refs.pass_all
    pays_pass_all w [] = search (pays)
    pays_pass_all w (y ∷ ys) = let rest = pays_pass_all w ys in search (pays, pays_pass) depth 14

    where_least : (b : Bool) (c : ℕ) → c ≤ where_cut b c 0 + where_cut b 0 c
    unfolding where_cut
    where_least true c = omega arith
    where_least false c = omega arith

    cost_put : (w : ℕ) (d : Delivery Name) (n : Name) (verb : Words) (ys : Passeds Name) → NamesMessage d.message → Pays cut x (one d.message x) (tell (Posted w d.message) >> send_out w (Deliver d n verb ys))
    unfolding gone_here of_note in_note
    cost_put w d n verb ys g = let m : Name = d.message in cost_less cut x (where_cut (cut w) (one m x) 0 + where_cut (cut w) 0 (one m x)) (one m x) (where_least (cut w) (one m x))
        (cost_then cut x (where_cut (cut w) (one m x) 0) (where_cut (cut w) 0 (one m x)) (cost_tell cut x (Posted w m)) (cost_out cut x w (Deliver d n verb ys) g))

    pub cost_deliver : (m : Message Name) (h : ℕ) (n : Name) → NamesMessage m.id → Pays cut x (one m.id x) (refs.deliver K m h n)
    unfolding refs.deliver
    cost_deliver m h n g = cost_bind_last cut x (one m.id x) (pays_pass_all h m.args) (λ args. cost_put h (refs.delivery_of K m) n m.verb args g)

    pays_waits_on : (p q : Name) → Pays cut x 0 (refs.wait_on K p q)
    unfolding refs.wait_on
    pays_waits_on p q = search (pays) depth 14

    pub cost_pass_on : (m : Message Name) (h : ℕ) (n : Name) → NamesMessage m.id → Pays cut x (one m.id x) (refs.pass_on K m h n)
    unfolding refs.pass_on
    cost_pass_on m h n g = cost_some cut x (one m.id x) m.answer (λ p. cost_bind_last cut x (one m.id x) (pays_answer cut x K v global h h m.id g) (λ a. cost_then_first cut x (one m.id x) (cost_deliver (record m { answer = Some a }) h n g) (pays_waits_on p a))) (cost_deliver m h n g)

    cost_lost : (m : Name) → Pays cut x (one m x) (tell (Lost m))
    unfolding gone_here
    cost_lost m = cost_tell cut x (Lost m)

    module _ (settle : Name → Value Name → Act Name (Unit {0})) (good : LastSettler settle) where
      pub cost_send_to : (m : Message Name) (y : Value Name) (p : Place Name) → NamesMessage m.id → IsEnd p → Pays cut x (one m.id x) (refs.send_to K settle m y p)
      unfolding refs.send_to
      cost_send_to m y Near g h = cost_enqueue cut x (record m { target = y })
      cost_send_to m y (Mine n) g h = absurd h
      cost_send_to m y (Away u n o) g h = cost_pass_on m u n g
      cost_send_to m y (Gone p) g h = cost_then_first cut x (one m.id x) (cost_lost m.id) (cost_some cut x 0 m.answer (λ a. good a (Broken p) tt) (pays_give cut x tt))

      pays_send_to : (m : Message Name) (y : Value Name) (p : Place Name) → NamesMessage m.id → Fits y p → Pays cut x 0 (refs.send_to K settle m y p)
      unfolding refs.send_to
      pays_send_to m y Near g h = pays_enqueue cut x (record m { target = y })
      pays_send_to m y (Mine n) g h = pays_hold cut x K v global (record m { target = y }) n (h, g)
      pays_send_to m y (Away u n o) g h = cost_less cut x (one m.id x) 0 (omega arith) (cost_pass_on m u n g)
      pays_send_to m y (Gone p) g h = cost_less cut x (one m.id x) 0 (omega arith) (cost_send_to m y (Gone p) g tt)

      pub pays_send_on : (m : Message Name) → NamesMessage m.id → Pays cut x 0 (refs.send_on K settle m)
      unfolding refs.send_on ◌>>=◌ and_then look
      pays_send_on m g = record { after = λ s w. let y = refs.follow K s m.target in (pays_send_to m y (refs.place K s y) g (fits_at s y (refs.place K s y) refl)).after s w }

      -- a message that was held at a name that settled since
      sent_on : (s : Vat Name) (p : Name) (k : Known Name) (y : Value Name) (m : Message Name) → entry_of K s.known p ≡ Some k → k.standing ≡ Settled y → NoPromise y → HeldWell p m → AllWell s
          → PaysAt cut x (one m.id x) s (refs.send_on K settle m s)
      unfolding refs.send_on ◌>>=◌ and_then look
      sent_on s p k y m e i h g w = let z = refs.follow K s m.target in
          let last : NoPromise (refs.follow K s m.target) = subst (λ u. NoPromise (refs.follow K s u)) (sym g.0) (settled_follow s p k y e i h w.0) in
          (cost_send_to m z (refs.place K s z) g.1 (end_of s z last)).after s w

      loop_at : (c d : ℕ) (s : Vat Name) (p : Name) (k : Known Name) (y : Value Name) (r : Done Name (Unit {0})) (rest : Act Name (Unit {0})) → PaysAt cut x c s r → After (SettledStays K) s r → entry_of K s.known p ≡ Some k → k.standing ≡ Settled y
          → ((t : Vat Name) → AllWell t → entry_of K t.known p ≡ Some k → PaysAt cut x d t (rest t)) → PaysAt cut x (c + d) s (and_then r (λ _. rest))
      unfolding and_then
      loop_at c d s p k y (Gives u t) rest h stays e i f = pay_more cut x c d s t (rest t) h.1 (f t h.0 (stays p k y e i))
      loop_at c d s p k y (Stops u t) rest h stays e i f = tt
      loop_at c d s p k y other rest h stays e i f = absurd h

      module _ (settled : GoodSettler (SettledStays K) settle) where
        all_sent : (p : Name) (k : Known Name) (y : Value Name) → k.standing ≡ Settled y → NoPromise y → (ms : List (Message Name)) (s : Vat Name) → Each (HeldWell p) ms → AllWell s → entry_of K s.known p ≡ Some k
            → PaysAt cut x (among x ms) s (each (refs.send_on K settle) ms s)
        unfolding each among give ◌>>◌
        all_sent p k y i h [] s g w e = (w, omega arith)
        all_sent p k y i h (m ∷ ms) s g w e = loop_at (one m.id x) (among x ms) s p k y (refs.send_on K settle m s) (each (refs.send_on K settle) ms) (sent_on s p k y m e i h g.0 w)
            ((keeps_send_on K (SettledStays K) (settled_law K) (settled_names K) settle settled m).after s) e i (λ t wt et. all_sent p k y i h ms t g.1 wt et)

    cost_queued : (ms : List (Message Name)) → Pays cut x (among x ms) (each enqueue ms)
    unfolding each among
    cost_queued [] = pays_give cut x tt
    cost_queued (m ∷ ms) = cost_then cut x (one m.id x) (among x ms) (cost_enqueue cut x m) (cost_queued ms)

    -- ---- a vat is told what a name settled to

    -- it gives what may stand in a note that settles
    abbrev GivesLast : Vat Name → Done Name (Passed Name) → Type 0
    GivesLast s (Gives z t) = (AllWell t × (0 + account cut x s ≤ account cut x t)) × PassedLast z
    GivesLast s (Stops e t) = Unit {0}
    GivesLast s other = ⊥

    near_last : (y : Value Name) → NearValue y → NoPromise y
    near_last (Ref (Root w)) h = h
    near_last (Ref (Promise w i)) h = h
    near_last (Ref (Answer w m)) h = h
    near_last (Ref (Gift w i)) h = h
    near_last (Ref (Sent m)) h = h
    near_last other h = tt

    address_here : (w : ℕ) (y : Value Name) (p : Place Name) (s : Vat Name) → IsHere p → NoPromise y → AllWell s → GivesLast s (refs.address_plain K w y p s)
    unfolding refs.address_plain give
    address_here w y (Mine n) s h last well = absurd h
    address_here w y (Away u n o) s h last well = absurd h
    address_here w y other s h last well = ((well, omega arith), last)

    many_last : (s : Vat Name) (r : Done Name (Passeds Name)) → PaysAt cut x 0 s r → GivesLast s (and_then r (λ zs. give (Many zs)))
    unfolding and_then give
    many_last s (Gives zs t) h = (h, tt)
    many_last s (Stops e t) h = tt
    many_last s other h = h

    address_last : (w : ℕ) (z : Passed Name) (s : Vat Name) → PassedNear z → AllWell s → GivesLast s (refs.address K w z s)
    unfolding refs.address ◌>>=◌ and_then look
    address_last w (Plain y) s g well = address_here w y (refs.place K s y) s (near_here s y g) (near_last y g) well
    address_last w (AGift h i) s g well = absurd g
    address_last w (Many ys) s g well = many_last s (refs.address_all K w ys s) ((pays_address_all w ys).after s well)

    spent_last : (w n : ℕ) (z : Passed Name) (s : Vat Name) (b : Bool) → PassedNear z → AllWell s → GivesLast s (and_then (spent n b s) (λ _. refs.address K w z))
    unfolding spent and_then account at_vat
    spent_last w n z s true g well = address_last w z (record s { fuel = s.fuel - n }) g well
    spent_last w n z s false g well = tt

    pass_last : (w : ℕ) (y : Value Name) (s : Vat Name) → NearValue y → AllWell s → GivesLast s (refs.pass K w y s)
    unfolding refs.pass ◌>>=◌ ◌>>◌ and_then look spend
    pass_last w y s g well = let c = refs.parcel K s y in spent_last w c.weight c.value s (nat_le c.weight s.fuel) (parcel_near s y g well.0) well

    told_at : (p : Name) (w : ℕ) (s : Vat Name) (r : Done Name (Passed Name)) → GivesLast s r → PaysAt cut x 0 s (and_then r (λ z. send_out w (SettledTo p z)))
    unfolding and_then
    told_at p w s (Gives z t) h = let i = h.0 in pay_more cut x 0 0 s t (send_out w (SettledTo p z) t) i.1 ((pays_out cut x w (SettledTo p z) h.1).after t i.0)
    told_at p w s (Stops e t) h = tt
    told_at p w s other h = absurd h

    here_told : (p : Name) (w : ℕ) (y : Value Name) (s : Vat Name) → NearValue y → AllWell s → PaysAt cut x 0 s (and_then (refs.pass K w y s) (λ z. send_out w (SettledTo p z)))
    here_told p w y s g well = told_at p w s (refs.pass K w y s) (pass_last w y s g well)

    inform_of_at : (p : Name) (w : ℕ) (y : Value Name) (q : Place Name) (s : Vat Name) → NoPromise y → refs.place K s y ≡ q → AllWell s → PaysAt cut x 0 s (refs.inform_of K p w y q s)
    unfolding refs.inform_of ◌>>=◌
    inform_of_at p w y (Away h n true) s last e well = (pays_out_elsewhere cut x w p h).after s well
    inform_of_at p w y Near s last e well = here_told p w y s (here_near s y last (subst IsHere (sym e) tt)) well
    inform_of_at p w y (Gone t) s last e well = here_told p w y s (here_near s y last (subst IsHere (sym e) tt)) well
    inform_of_at p w y other s last e well = absurd (subst IsEnd e (end_of s y last))

    unless_gone : (b : Bool) (m : Act Name (Unit {0})) (s : Vat Name) → AllWell s → PaysAt cut x 0 s (m s) → PaysAt cut x 0 s ((if b then give tt else m) s)
    unfolding give
    unless_gone true m s well h = (well, omega arith)
    unless_gone false m s well h = h

    pub inform_at : (p : Name) (k : Known Name) (y : Value Name) (w : ℕ) (s : Vat Name) → entry_of K s.known p ≡ Some k → k.standing ≡ Settled y → NoPromise y → AllWell s → PaysAt cut x 0 s (refs.inform K p w s)
    unfolding refs.inform ◌>>=◌ and_then look
    inform_at p k y w s e i last well = let z = refs.follow K s (Ref p) in let zl = settled_follow s p k y e i last well.0 in
        unless_gone (is_in w s.noticed) (refs.inform_of K p w z (refs.place K s z)) s well (inform_of_at p w z (refs.place K s z) s zl refl well)

    paid_at : (owed : ℕ) (s t : Vat Name) (r : Done Name (Unit {0})) → account cut x s ≤ account cut x t + owed → PaysAt cut x owed t r → PaysAt cut x 0 s r
    paid_at owed s t (Gives a u) h k = let i = k.1 in (k.0, omega arith)
    paid_at owed s t (Stops e u) h k = tt
    paid_at owed s t other h k = absurd k

    module _ (settle : Name → Value Name → Act Name (Unit {0})) (good : LastSettler settle) (settled : GoodSettler (SettledStays K) settle) where
      frees_at : (p : Name) (y : Value Name) (k : Known Name) (s : Vat Name) → entry_of K s.known p ≡ Some k → Waits K k.standing
          → account cut x s ≤ account cut x (record s { happened = s.happened ++ Settles p y ∷ []; known = with_change K (Settle y) p s.known }) + (among x k.held + among x k.reactions)
      unfolding account at_vat gone_here
      frees_at p y k s e h = let same = settling_frees K x y p k s.known e h in let a = gone_end cut x s.happened (Settles p y) in omega arith

      all_told : (p : Name) (k : Known Name) (y : Value Name) → k.standing ≡ Settled y → NoPromise y → (ws : List ℕ) (s : Vat Name) → AllWell s → entry_of K s.known p ≡ Some k → PaysAt cut x 0 s (each (refs.inform K p) ws s)
      unfolding each give ◌>>◌
      all_told p k y i last [] s well e = (well, omega arith)
      all_told p k y i last (w ∷ ws) s well e = loop_at settle good 0 0 s p k y (refs.inform K p w s) (each (refs.inform K p) ws) (inform_at p k y w s e i last well)
          ((keeps_inform K (SettledStays K) (settled_law K) (settled_names K) p w).after s) e i (λ t wt et. all_told p k y i last ws t wt et)

      -- once it has settled: its held messages, the names that wait, its reactions and those who are to be told
      goes_on : (p : Name) (y : Value Name) (k j : Known Name) (t : Vat Name) → entry_of K t.known p ≡ Some j → j.standing ≡ Settled y → NoPromise y → Each (HeldWell p) k.held → AllWell t
          → PaysAt cut x (among x k.held + (0 + (among x k.reactions + 0))) t ((each (refs.send_on K settle) k.held >> (each (λ q. settle q y) k.waiting >> (each enqueue k.reactions >> each (refs.inform K p) k.told))) t)
      unfolding ◌>>◌
      goes_on p y k j t e i last held well =
          loop_at settle good (among x k.held) (0 + (among x k.reactions + 0)) t p j y (each (refs.send_on K settle) k.held t) _ (all_sent settle good settled p j y i last k.held t held well e)
          ((kept.keeps_each (SettledStays K) (settled_law K) k.held (λ m. keeps_send_on K (SettledStays K) (settled_law K) (settled_names K) settle settled m)).after t) e i (λ t1 w1 e1.
          loop_at settle good 0 (among x k.reactions + 0) t1 p j y (each (λ q. settle q y) k.waiting t1) _ ((pays_each cut x k.waiting (λ q. good q y last)).after t1 w1)
          ((kept.keeps_each (SettledStays K) (settled_law K) k.waiting (λ q. settled q y)).after t1) e1 i (λ t2 w2 e2.
          loop_at settle good (among x k.reactions) 0 t2 p j y (each enqueue k.reactions t2) _ ((cost_queued k.reactions).after t2 w2)
          ((kept.keeps_each (SettledStays K) (settled_law K) k.reactions (λ m. kept.keeps_enqueue (SettledStays K) (settled_law K) m)).after t2) e2 i (λ t3 w3 e3.
          all_told p j y i last k.told t3 w3 e3)))

      settles_known : (p : Name) (y : Value Name) (k : Known Name) (s : Vat Name) → entry_of K s.known p ≡ Some k → Waits K k.standing → NoPromise y → AllWell s → PaysAt cut x 0 s (refs.settle_known K settle p y k s)
      unfolding refs.settle_known ◌>>◌ and_then tell alter changed
      settles_known p y k s e h last w =
          let t : Vat Name = record s { happened = s.happened ++ Settles p y ∷ []; known = with_change K (Settle y) p s.known } in
          let known = found_well p k s.known e w.0 in let of_k = known.0 in
          let held : Each (HeldWell p) k.held = subst (λ n. Each (HeldWell n) k.held) known.1 of_k.held in
          let free : account cut x s ≤ account cut x t + (among x k.held + among x k.reactions) = frees_at p y k s e h in
          let owed : account cut x s ≤ account cut x t + (among x k.held + (0 + (among x k.reactions + 0))) = omega arith in
          paid_at (among x k.held + (0 + (among x k.reactions + 0))) s t _ owed
          (goes_on p y k (changed (Settle y) k) t (settled_entry p y k s.known e) (settled_standing y k k.standing h) last held (settle_well y p s.known last w.0, w.1))

      settles_standing : (p : Name) (y : Value Name) (k : Known Name) (s : Vat Name) → entry_of K s.known p ≡ Some k → (t : Standing Name) → k.standing ≡ t → NoPromise y → AllWell s → PaysAt cut x 0 s (refs.settle_standing K settle p y k t s)
      unfolding refs.settle_standing give
      settles_standing p y k s e (Settled z) i last w = (w, omega arith)
      settles_standing p y k s e other i last w = settles_known p y k s e (rw i tt) last w

      settles_entry : (p : Name) (y : Value Name) (s : Vat Name) (o : Option (Known Name)) → entry_of K s.known p ≡ o → NoPromise y → AllWell s → PaysAt cut x 0 s (refs.settle_entry K settle p y o s)
      unfolding refs.settle_entry give
      settles_entry p y s None e last w = (w, omega arith)
      settles_entry p y s (Some k) e last w = settles_standing p y k s e k.standing refl last w

      pays_settle_one : LastSettler (refs.settle_one K settle)
      unfolding refs.settle_one ◌>>=◌ and_then look
      pays_settle_one p y last = record { after = λ s w. settles_entry p (refs.target_of K s p y) s (entry_of K s.known p) refl (target_last s p y last) w }

    pays_settle_at : (d : ℕ) → LastSettler (refs.settle_at K d)
    unfolding refs.settle_at
    pays_settle_at zero p y last = search (pays)
    pays_settle_at (suc d) p y last = pays_settle_one (λ q z. refs.settle_at K d q z) (λ q z l. pays_settle_at d q z l) (λ q z. keeps_settle_at K (SettledStays K) (settled_law K) (settled_names K) d q z) p y last

    pub pays_settle : LastSettler (refs.settle K)
    unfolding refs.settle
    pays_settle p y last = search (pays, pays_settle_at) depth 14

    -- what breaks is no promise
    pub pays_break : (p : Name) (t : Words) → Pays cut x 0 (refs.settle K p (Broken t))
    pays_break p t = pays_settle p (Broken t) tt

    pays_wait_unless_cycle : (p q : Name) → Pays cut x 0 (refs.wait_unless_cycle K p q)
    unfolding refs.wait_unless_cycle
    pays_wait_unless_cycle p q = search (pays, pays_break, pays_waits_on) depth 14

    pays_resolve_to : (p : Name) (y : Value Name) (q : Place Name) → (IsEnd q → NoPromise y) → Pays cut x 0 (refs.resolve_to K p y q)
    unfolding refs.resolve_to
    pays_resolve_to p y (Mine q) h = pays_wait_unless_cycle p q
    pays_resolve_to p y (Away u q false) h = pays_wait_unless_cycle p q
    pays_resolve_to p y other h = pays_settle p y (h tt)

    pub pays_resolve : (p : Name) (y : Value Name) → Pays cut x 0 (refs.resolve K p y)
    unfolding refs.resolve ◌>>=◌ and_then look
    pays_resolve p y = record { after = λ s w. let z = refs.follow K s y in (pays_resolve_to p z (refs.place K s z) (of_end s z)).after s w }

    -- ---- new messages

    pays_send_first : (m : Message Name) (y : Value Name) (p : Place Name) → NamesMessage m.id → Fits y p → Pays cut x 0 (refs.send_first K m y p)
    unfolding refs.send_first
    pays_send_first m y (Away h n o) g f = cost_less cut x (one m.id x) 0 (omega arith) (cost_deliver m h n g)
    pays_send_first m y Near g f = pays_send_to (refs.settle K) pays_settle m y Near g tt
    pays_send_first m y (Mine n) g f = pays_send_to (refs.settle K) pays_settle m y (Mine n) g f
    pays_send_first m y (Gone p) g f = pays_send_to (refs.settle K) pays_settle m y (Gone p) g tt

    pays_react_at : (m : Message Name) (p : Place Name) → Pays cut x 0 (refs.react_at K m p)
    unfolding refs.react_at
    pays_react_at m (Mine n) = pays_react cut x K v global m n
    pays_react_at m (Away h n false) = pays_react cut x K v global m n
    pays_react_at m other = pays_enqueue cut x m

    pub new_named : (n k : ℕ) → NamesMessage (K.mailed (IsSent n) k)
    unfolding mail_of
    new_named n k = (record { sender = v; number = n }, global.mailed (IsSent n) k)

    new_answer : (h k : ℕ) (id : Name) → NamesMessage id → NamesNoObject (K.made (IsAnswer h id) k)
    unfolding name_of answer_of
    new_answer h k id g = subst NamesNoObject (sym (global.made (IsAnswer h id) k)) (rw g.1 tt)

    new_pays : (c : ℕ) (s t : Vat Name) (r : Done Name (Value Name)) → account cut x s ≤ account cut x t → PaysAt cut x c t r → PaysAt cut x c s r
    new_pays c s t (Gives a u) h k = let i = k.1 in (k.0, omega arith)
    new_pays c s t (Stops e u) h k = tt
    new_pays c s t other h k = absurd k

    -- a message that is numbered and told, with its answer
    pub new_at : (c : ℕ) (s : Vat Name) (h : ℕ) (id : Name) (k : ℕ) (e : Happened Name) (r : Done Name (Value Name)) → NamesMessage id → AllWell s
        → (AllWell (record s { messages = suc s.messages; mails = s.mails ++ id ∷ []; known = s.known ++ begun (K.made (IsAnswer h id) k) h ∷ []; happened = s.happened ++ e ∷ [] })
        → PaysAt cut x c (record s { messages = suc s.messages; mails = s.mails ++ id ∷ []; known = s.known ++ begun (K.made (IsAnswer h id) k) h ∷ []; happened = s.happened ++ e ∷ [] }) r)
        → PaysAt cut x c s r
    unfolding account at_vat
    new_at c s h id k e r g w f = let a = K.made (IsAnswer h id) k in let same = names_end x s.known a h in let more = gone_end cut x s.happened e in
        new_pays c s (record s { messages = suc s.messages; mails = s.mails ++ id ∷ []; known = s.known ++ begun a h ∷ []; happened = s.happened ++ e ∷ [] }) r (omega arith) (f (come_well cut x K v global s a h (new_answer h k id g) w.0, w.1))

    pub pays_send : (act : ℕ) (y : Value Name) (verb : Words) (args : List (Value Name)) → Pays cut x 0 (refs.send K act y verb args)
    unfolding refs.send ◌>>=◌ ◌>>◌ and_then look tell new_message
    pays_send act y verb args = record {
      after = λ s w. let z = refs.follow K s y in let p = refs.place K s z in let id = K.mailed (IsSent s.messages) (length s.mails) in let named = new_named s.messages (length s.mails) in
          new_at 0 s (refs.answer_host K s.number p) id (length s.known) (Sends act _) _ named w
          ((cost_then_first cut x 0 (pays_send_first _ z p named (fits_at s z p refl)) (pays_give cut x _)).after _);
    }

    -- the same without an answer
    pub lone_at : (c : ℕ) (s : Vat Name) (id : Name) (e : Happened Name) (r : Done Name (Value Name)) → AllWell s
        → (AllWell (record s { messages = suc s.messages; mails = s.mails ++ id ∷ []; happened = s.happened ++ e ∷ [] })
        → PaysAt cut x c (record s { messages = suc s.messages; mails = s.mails ++ id ∷ []; happened = s.happened ++ e ∷ [] }) r)
        → PaysAt cut x c s r
    unfolding account at_vat
    lone_at c s id e r w f = let more = gone_end cut x s.happened e in
        new_pays c s (record s { messages = suc s.messages; mails = s.mails ++ id ∷ []; happened = s.happened ++ e ∷ [] }) r (omega arith) (f w)

    pub pays_send_only : (act : ℕ) (y : Value Name) (verb : Words) (args : List (Value Name)) → Pays cut x 0 (refs.send_only K act y verb args)
    unfolding refs.send_only ◌>>=◌ ◌>>◌ and_then look tell new_lone_message
    pays_send_only act y verb args = record {
      after = λ s w. let z = refs.follow K s y in let p = refs.place K s z in let id = K.mailed (IsSent s.messages) (length s.mails) in let named = new_named s.messages (length s.mails) in
          lone_at 0 s id (Sends act _) _ w ((cost_then_first cut x 0 (pays_send_first _ z p named (fits_at s z p refl)) (pays_give cut x _)).after _);
    }

    pub pays_reacts : (act : ℕ) (y o near : Value Name) → Pays cut x 0 (refs.react K act y o near)
    unfolding refs.react ◌>>=◌ ◌>>◌ and_then look tell new_message
    pays_reacts act y o near = record {
      after = λ s w. let id = K.mailed (IsSent s.messages) (length s.mails) in let named = new_named s.messages (length s.mails) in
          new_at 0 s s.number id (length s.known) (Reacts act y o _) _ named w ((cost_then_first cut x 0 (pays_react_at _ _) (pays_give cut x _)).after _);
    }
