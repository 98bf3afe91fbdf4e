-- What is ahead stays ahead through a whole settling.
use Rattle.std.proofs.Common.{◌≡◌, ℕ, zero, suc, Bool, true, false, List, [], ◌∷◌, ◌++◌, Option, Some, None, length, refl, sym, ap, subst, ◌∙◌}
use Rattle.std.specs.Prelude.{slice_get, nat_le, ◌-◌, if◌then◌else◌}
use Rattle.def_machine.specs.Values.{Value, Broken, Items, Ref, Name, Naming, Spot, Own, Foreign, NoObject}
use Rattle.def_machine.specs.State.{Message, Standing, Settled, Known, Vat, Done, Gives, Plain, SettledTo, Lost, Settles, WhereSome}
use Rattle.def_machine.specs.State as state
use Rattle.def_machine.specs.Refs as refs
use Rattle.def_machine.specs.Refs.{Settler, Near, Mine, Away, Gone}
use Rattle.def_run.specs.World.{Script, World, names}
use Rattle.law_order.specs.Ordering.Ways.{Nowhere}
use Rattle.law_order.specs.Ordering.Places.{aimed, held_on}
use Rattle.law_order.specs.Ordering.Worlds.{IfGives}
use Rattle.law_order.specs.Ordering.Settle.{IsHere, IsOwnSpot, aimed_at, settled_to}
use Rattle.law_order.specs.Ordering.Steps.{Ready, StaysReady, StaysInOrder}
use Rattle.law_order.specs.Ordering.Settlings.{with_line, ReadyAt, ReadyFor, IsObjectSpot, IsPlain, HonestSpot, IsHonestTo, CanSettle, LosesWell, SendsWell, WaitsWell, KnownWell, StandsWell, EntryWell, SettlesWell, SettlingsKeep}
use Rattle.law_order.proofs.Ordering.Sends.{if_map, if_both, chain}
use Rattle.law_order.proofs.Ordering.Onward.{retargeted, all_sent, leads_here}
use Rattle.law_order.proofs.Ordering.Remaining.{kept_grown, order_then}
use Rattle.law_order.proofs.Ordering.SettledPlaces.{here_so, nothing_so, ready_settled, sent_to}
use Rattle.law_order.proofs.Ordering.Far.{WentOut, all_out, line_out, far_aimed}
use Rattle.law_order.proofs.Ordering.FarSettled.{far_so}
use Rattle.law_order.proofs.Ordering.ToldLists.{list_told}
use Rattle.law_order.proofs.Ordering.Adds.{AddsQuietly, adds_nothing, adds_message, adds_note, grown_adds, stays_quiet}

-- ---- acts

module _ (K : Naming Name Name) (s : Vat Name) where
  pub line_adds : (e : state.Happened Name) → AddsQuietly K s (with_line s e)
  line_adds e = (adds_nothing K s (with_line s e) refl refl refl refl refl refl, refl, refl, refl)

  queue_adds : (m : Message Name) → AddsQuietly K s (record s { queue = s.queue ++ m ∷ [] })
  queue_adds m = (adds_message K s m, refl, refl, refl)

  told_adds : (f h : ℕ) (p : Name) (z : state.Passed Name) → AddsQuietly K s (record s { fuel = f; outbox = s.outbox ++ record { to = h; note = SettledTo p z } ∷ [] })
  told_adds f h p z = let g = adds_note K s (record { to = h; note = SettledTo p z }) tt in (
    record {
      alike = record { number = refl; gifts = refl; noticed = refl; names_known = refl; entries = g.alike.entries };
      queue = g.queue;
      held = g.held;
      notes = g.notes;
    },
    refl,
    refl,
    refl,
  )

  same_adds : AddsQuietly K s s
  same_adds = (adds_nothing K s s refl refl refl refl refl refl, refl, refl, refl)

-- ---- a vat is told

-- an object of the vat, broken, or other data but a list
abbrev IsPassed : Naming Name Name → Value Name → Type 0
IsPassed K (Ref n) = IsOwnSpot (K.spot n)
IsPassed K (Items k) = ⊥
IsPassed K other = Unit {0}

module _ (K : Naming Name Name) (p : Name) (y : Value Name) where
  abbrev Follows : Vat Name → Type 0
  Follows s = (refs.follow K s (Ref p) ≡ y) × (refs.follow K s y ≡ y)

  abbrev Told : Vat Name → Vat Name → Type 0
  Told s t = AddsQuietly K s t × Follows t

  follows_more : (s : Vat Name) (f : ℕ) (ps : List (state.Put Name)) → Follows s → Follows (record s { fuel = f; outbox = ps })
  unfolding refs.follow refs.severed refs.severed_at refs.severed_by
  follows_more s f ps h = h

  follows_queue : (s : Vat Name) (q : List (Message Name)) → Follows s → Follows (record s { queue = q })
  unfolding refs.follow refs.severed refs.severed_at refs.severed_by
  follows_queue s q h = h

  -- of an object of another vat the receiver is told where it is
  module _ (n : Name) (is : y ≡ Ref n) (g : ℕ) (far : K.spot n ≡ Foreign g) where
    far_place : (s : Vat Name) → refs.place K s y ≡ Away g n true
    unfolding refs.place refs.spotted
    far_place s = ap (λ z. refs.place K s z) is ∙ ap (λ q. refs.spotted K s n q) far

    elsewhere : (s : Vat Name) (h : ℕ) → Follows s → IfGives (Told s) (refs.inform_of K p h y (Away g n true) s)
    unfolding refs.inform_of state.send_out
    elsewhere s h f = let m : state.Put Name = record { to = h; note = state.Elsewhere p g } in ((adds_note K s m tt, refl, refl, refl), follows_more s s.fuel (s.outbox ++ m ∷ []) f)

    far_if : (s : Vat Name) (h : ℕ) (c : Bool) → Follows s → IfGives (Told s) ((if c then state.give tt else refs.inform_of K p h y (refs.place K s y)) s)
    unfolding state.give
    far_if s h true f = (same_adds K s, f)
    far_if s h false f = subst (λ q. IfGives (Told s) (refs.inform_of K p h y q s)) (sym (far_place s)) (elsewhere s h f)

    informed_far : (s : Vat Name) (h : ℕ) → Follows s → IfGives (Told s) (refs.inform K p h s)
    unfolding refs.inform state.◌>>=◌ state.and_then state.look
    informed_far s h f = subst (λ z. IfGives (Told s) ((if state.is_in h s.noticed then state.give tt else refs.inform_of K p h z (refs.place K s z)) s)) (sym f.0) (far_if s h (state.is_in h s.noticed) f)

module _ (K : Naming Name Name) (p : Name) (y : Value Name) (plain : IsPassed K y) where
  abbrev IsPlainPlace : refs.Place Name → Type 0
  IsPlainPlace (Mine n) = ⊥
  IsPlainPlace (Away h n o) = ⊥
  IsPlainPlace other = Unit {0}

  spot_place : (s : Vat Name) (n : Name) (q : Spot) → IsOwnSpot q → IsPlainPlace (refs.spotted K s n q)
  unfolding refs.spotted
  spot_place s n (Own i) h = tt
  spot_place s n other h = absurd h

  plain_place : (s : Vat Name) (z : Value Name) → IsPassed K z → IsPlainPlace (refs.place K s z)
  unfolding refs.place
  plain_place s (Ref n) h = spot_place s n (K.spot n) h
  plain_place s (Items k) h = absurd h
  plain_place s other h = tt

  -- what passes for it
  plain_parcel : (s : Vat Name) (z : Value Name) → IsPassed K z → refs.parcel_at K s z ≡ record { weight = refs.own_weight z; value = Plain z }
  unfolding refs.parcel_at
  plain_parcel s (Items k) h = absurd h
  plain_parcel s other h = refl

  plain_address : (s : Vat Name) (h : ℕ) (q : refs.Place Name) → IsPlainPlace q → refs.address_plain K h y q s ≡ Gives (Plain y) s
  unfolding refs.address_plain state.give
  plain_address s h (Mine n) i = absurd i
  plain_address s h (Away g n o) i = absurd i
  plain_address s h other i = refl

  addressed : (s : Vat Name) (h : ℕ) → refs.address K h (Plain y) s ≡ Gives (Plain y) s
  unfolding refs.address state.◌>>=◌ state.and_then state.look
  addressed s h = plain_address s h (refs.place K s y) (plain_place s y plain)

  -- the note is put, where there is fuel
  told_by : (s : Vat Name) (h n : ℕ) (c : Bool) → Follows K p y s → IfGives (Told K p y s) (state.and_then (state.and_then (state.spent n c s) (λ _. refs.address K h (Plain y))) (λ z. state.send_out h (SettledTo p z)))
  unfolding state.and_then state.spent state.send_out
  told_by s h n true f = subst (λ d. IfGives (Told K p y s) (state.and_then d (λ z. state.send_out h (SettledTo p z)))) (sym (addressed (record s { fuel = s.fuel - n }) h)) (told_adds K s (s.fuel - n) h p (Plain y), follows_more K p y s (s.fuel - n) (s.outbox ++ record { to = h; note = SettledTo p (Plain y) } ∷ []) f)
  told_by s h n false f = tt

  told_parcel : (s : Vat Name) (h : ℕ) (b : refs.Parcel Name) → b ≡ record { weight = refs.own_weight y; value = Plain y } → Follows K p y s → IfGives (Told K p y s) (state.and_then (state.and_then (state.spend b.weight s) (λ _. refs.address K h b.value)) (λ z. state.send_out h (SettledTo p z)))
  unfolding state.spend
  told_parcel s h b e f = subst (λ c. IfGives (Told K p y s) (state.and_then (state.and_then (state.spend c.weight s) (λ _. refs.address K h c.value)) (λ z. state.send_out h (SettledTo p z)))) (sym e) (told_by s h (refs.own_weight y) (nat_le (refs.own_weight y) s.fuel) f)

  told_of : (s : Vat Name) (h : ℕ) → Follows K p y s → IfGives (Told K p y s) (state.◌>>=◌ (refs.pass K h y) (λ z. state.send_out h (SettledTo p z)) s)
  unfolding state.◌>>=◌ state.◌>>◌ state.and_then state.look refs.pass refs.parcel
  told_of s h f = told_parcel s h (refs.parcel_at K s (refs.follow K s y)) (ap (λ z. refs.parcel_at K s z) f.1 ∙ plain_parcel s y plain) f

  informed_of : (s : Vat Name) (h : ℕ) (q : refs.Place Name) → IsPlainPlace q → Follows K p y s → IfGives (Told K p y s) (refs.inform_of K p h y q s)
  unfolding refs.inform_of
  informed_of s h (Mine n) i f = absurd i
  informed_of s h (Away g n o) i f = absurd i
  informed_of s h other i f = told_of s h f

  informed_if : (s : Vat Name) (h : ℕ) (c : Bool) → Follows K p y s → IfGives (Told K p y s) ((if c then state.give tt else refs.inform_of K p h y (refs.place K s y)) s)
  unfolding state.give
  informed_if s h true f = (same_adds K s, f)
  informed_if s h false f = informed_of s h (refs.place K s y) (plain_place s y plain) f

  informed_at : (s : Vat Name) (h : ℕ) (z : Value Name) → z ≡ y → Follows K p y s → IfGives (Told K p y s) ((if state.is_in h s.noticed then state.give tt else refs.inform_of K p h z (refs.place K s z)) s)
  informed_at s h z e f = subst (λ x. IfGives (Told K p y s) ((if state.is_in h s.noticed then state.give tt else refs.inform_of K p h x (refs.place K s x)) s)) (sym e) (informed_if s h (state.is_in h s.noticed) f)

  informed : (s : Vat Name) (h : ℕ) → Follows K p y s → IfGives (Told K p y s) (refs.inform K p h s)
  unfolding refs.inform state.◌>>=◌ state.and_then state.look
  informed s h f = informed_at s h (refs.follow K s (Ref p)) f.0 f

abbrev IsUnlisted : Value Name → Type 0
IsUnlisted (Items k) = ⊥
IsUnlisted other = Unit {0}

module _ (K : Naming Name Name) (p : Name) (y : Value Name) where
  informed_spot : (n : Name) (q : Spot) → y ≡ Ref n → K.spot n ≡ q → IsObjectSpot q → (s : Vat Name) (h : ℕ) → Follows K p y s → IfGives (Told K p y s) (refs.inform K p h s)
  informed_spot n (Own j) e i _ = λ s h f. informed K p y (subst (λ z. IsPassed K z) (sym e) (subst IsOwnSpot (sym i) tt)) s h f
  informed_spot n (Foreign g) e i _ = λ s h f. informed_far K p y n e g i s h f
  informed_spot n NoObject e i o = absurd o

  informed_by : (z : Value Name) → y ≡ z → IsUnlisted z → IsPlain K z → (s : Vat Name) (h : ℕ) → Follows K p y s → IfGives (Told K p y s) (refs.inform K p h s)
  informed_by (Ref n) e l i = informed_spot n (K.spot n) e refl i
  informed_by (Items k) e l i = absurd l
  informed_by other e l i = λ s h f. informed K p y (subst (λ z. IsPassed K z) (sym e) tt) s h f

-- ---- the whole

line_same : (K : Naming Name Name) (p : Name) (y : Value Name) (t : Vat Name) (e : state.Happened Name) → (refs.follow K t (Ref p) ≡ y) × (refs.place K t y ≡ Near) → (refs.follow K (with_line t e) (Ref p) ≡ y) × (refs.place K (with_line t e) y ≡ Near)
unfolding refs.follow refs.severed refs.severed_at refs.severed_by refs.place refs.spotted
line_same K p y t e h = h

module _ (script : Script) (honest : ℕ → Bool) (w : World) (v : ℕ) where
  abbrev K : Naming Name Name
  K = names script v

  abbrev Kept : Vat Name → Vat Name → Type 0
  Kept s t = StaysInOrder script honest w v s t

  pub kept_adds : (s t : Vat Name) → AddsQuietly K s t → Kept s t
  kept_adds s t g = (λ r. (stays_quiet script honest w v s t g r).0, kept_grown script honest w v s t (grown_adds script honest w v s t g.0))

  kept_self : (s : Vat Name) → Kept s s
  kept_self s = kept_adds s s (same_adds K s)

  from_there : {A : Type 0} (s t : Vat Name) (d : Done Name A) → Kept s t → IfGives (λ u. Kept t u) d → IfGives (λ u. Kept s u) d
  from_there s t d g h = if_map (λ u. Kept t u) (λ u. Kept s u) (λ u i. order_then script honest w v s t u g i) d h

  -- a message is lost, and its answer settles
  module _ (x : List ℕ) (R : Name → Vat Name → Type 0) (settle : Settler {N = Name} {W = Name} K) (each_kept : (q : Name) (s : Vat Name) → R q s → IfGives (λ t. Kept s t) (settle q (Broken x) s)) where
    lost_to : (m : Message Name) (s : Vat Name) → WhereSome (λ a. R a (with_line s (Lost m.id))) m.answer → IfGives (λ t. Kept s t) (refs.send_to K settle m (Broken x) (Gone x) s)
    unfolding refs.send_to state.for_some state.give state.◌>>◌ state.and_then state.tell
    lost_to m s h = from_there s (with_line s (Lost m.id)) (state.for_some m.answer (λ a. settle a (Broken x)) (state.give tt) (with_line s (Lost m.id))) (kept_adds s (with_line s (Lost m.id)) (line_adds K s (Lost m.id))) (answered m.answer h)
      where
        answered : (o : Option Name) → WhereSome (λ a. R a (with_line s (Lost m.id))) o → IfGives (λ t. Kept (with_line s (Lost m.id)) t) (state.for_some o (λ a. settle a (Broken x)) (state.give tt) (with_line s (Lost m.id)))
        answered (Some a) g = each_kept a (with_line s (Lost m.id)) g
        answered None g = kept_self (with_line s (Lost m.id))

    lost_on : (m : Message Name) (s : Vat Name) → LosesWell script honest w v (Broken x) R (Broken x) m s → IfGives (λ t. Kept s t) (refs.send_on K settle m s)
    unfolding refs.send_on state.◌>>=◌ state.and_then state.look refs.place
    lost_on m s h = subst (λ z. IfGives (λ t. Kept s t) (refs.send_to K settle m z (refs.place K s z) s)) (sym h.0) (lost_to m s h.1)

    all_lost : (ms : List (Message Name)) (s : Vat Name) → SendsWell script honest w v (Broken x) R settle ms s → IfGives (λ t. Kept s t) (state.each (refs.send_on K settle) ms s)
    unfolding state.each state.◌>>◌ state.give
    all_lost [] s h = kept_self s
    all_lost (m ∷ ms) s h = chain (λ t. Kept s t × SendsWell script honest w v (Broken x) R settle ms t) (λ t. Kept s t) (refs.send_on K settle m s) (state.each (refs.send_on K settle) ms)
        (if_both (λ t. Kept s t) (λ t. SendsWell script honest w v (Broken x) R settle ms t) (refs.send_on K settle m s) (lost_on m s h.0) h.1)
        (λ t g. from_there s t (state.each (refs.send_on K settle) ms t) g.0 (all_lost ms t g.1))

  module _ (r : Vat Name) (at : slice_get w.vats v ≡ Some r) where
    abbrev Then : Vat Name → Name → Value Name → Vat Name
    Then s p y = settled_to K (with_line s (Settles p y)) p y

    -- what is here
    here_loop : (settle : Settler {N = Name} {W = Name} K) (p : Name) (y : Value Name) (k : Known Name) (s : Vat Name) → IsHere K y → refs.entry_of K s.known p ≡ Some k → CanSettle script honest w v y p k s → IfGives (λ t. Kept s t) (state.each (refs.send_on K settle) k.held (Then s p y))
    here_loop settle p y k s here e h =
        let t = settled_to K s p y in
        let u : Vat Name = record t { queue = retargeted y s.queue k.held } in
        subst (λ d. IfGives (λ z. Kept s z) d) (sym (all_sent K settle p y k.held (Then s p y) h.1 (line_same K p y t (Settles p y) (leads_here script honest w v r s p y k at h.0 e here))))
        (order_then script honest w v s u (with_line u (Settles p y)) (here_so script honest w v r s p y at h.0 k e here h.2) (kept_adds u (with_line u (Settles p y)) (line_adds K u (Settles p y))))

    -- what goes to an object of another vat
    far_loop : (R : Name → Vat Name → Type 0) (settle : Settler {N = Name} {W = Name} K) (p n : Name) (a : ℕ) → K.spot n ≡ Foreign a → honest v ≡ true → honest a ≡ true → (k : Known Name) (s : Vat Name) → refs.entry_of K s.known p ≡ Some k → CanSettle script honest w v (Ref n) p k s → SendsWell script honest w v (Ref n) R settle k.held (Then s p (Ref n)) → IfGives (λ t. Kept s t) (state.each (refs.send_on K settle) k.held (Then s p (Ref n)))
    far_loop R settle p n a far here there k s e h g =
        let t = settled_to K s p (Ref n) in
        let u = Then s p (Ref n) in
        let q : Ready script honest w v s × (state.is_in a s.noticed ≡ false) = subst (λ z. ReadyAt script honest w v s z) far h.3 in
        let line = line_adds K t (Settles p (Ref n)) in
        let first = stays_quiet script honest w v t u line (ready_settled script honest w v r s p (Ref n) at h.0 q.0) in
        if_map (WentOut script honest w v a n r at here there (sent_to n (held_on p k.held)) u) (λ z. Kept s z)
        (λ z i. far_so script honest w v a n r at here there s z p h.0 k e h.2 (far_aimed script v a n far t q.1) (line_out script honest w v a n r at here there (sent_to n (held_on p k.held)) t u z refl first.1 i))
        (state.each (refs.send_on K settle) k.held u)
        (all_out script honest w v a n r at here there far R settle p k.held u first.0 g)

    nowhere_there : (s : Vat Name) (p : Name) (x : List ℕ) → aimed_at script v (settled_to K s p (Broken x)) (Broken x) ≡ Nowhere
    unfolding aimed_at refs.severed refs.place aimed
    nowhere_there s p x = refl

    broken_first : (p : Name) (x : List ℕ) (k : Known Name) (s : Vat Name) → CanSettle script honest w v (Broken x) p k s → Kept s (settled_to K s p (Broken x))
    broken_first p x k s h = nothing_so script honest w v r s p (Broken x) at h.0 (nowhere_there s p x) h.2

    broken_loop : (settle : Settler {N = Name} {W = Name} K) (R : Name → Vat Name → Type 0) (p : Name) (x : List ℕ) (k : Known Name) (s : Vat Name) → ((q : Name) (t : Vat Name) → R q t → IfGives (λ u. Kept t u) (settle q (Broken x) t)) → CanSettle script honest w v (Broken x) p k s → SendsWell script honest w v (Broken x) R settle k.held (Then s p (Broken x)) → IfGives (λ t. Kept s t) (state.each (refs.send_on K settle) k.held (Then s p (Broken x)))
    broken_loop settle R p x k s f h g = let t = settled_to K s p (Broken x) in
        from_there s (Then s p (Broken x)) (state.each (refs.send_on K settle) k.held (Then s p (Broken x)))
        (order_then script honest w v s t (Then s p (Broken x)) (broken_first p x k s h) (kept_adds t (Then s p (Broken x)) (line_adds K t (Settles p (Broken x)))))
        (all_lost x R settle f k.held (Then s p (Broken x)) g)

    module _ (y : Value Name) (plain : IsPlain K y) (near : IsHonestTo script honest v y) (R : Name → Vat Name → Type 0) (settle : Settler {N = Name} {W = Name} K) (each_kept : (q : Name) (s : Vat Name) → R q s → IfGives (λ t. Kept s t) (settle q y s)) where
      abbrev Loop : Value Name → Type 0
      Loop z = (p : Name) (k : Known Name) (s : Vat Name) → ((q : Name) (t : Vat Name) → R q t → IfGives (λ u. Kept t u) (settle q z t)) → refs.entry_of K s.known p ≡ Some k → CanSettle script honest w v z p k s → SendsWell script honest w v z R settle k.held (Then s p z) → IfGives (λ t. Kept s t) (state.each (refs.send_on K settle) k.held (Then s p z))

      loop_spot : (n : Name) (q : Spot) → K.spot n ≡ q → IsObjectSpot q → HonestSpot honest v q → Loop (Ref n)
      loop_spot n (Own j) i o a = λ p k s f e h g. here_loop settle p (Ref n) k s (subst IsOwnSpot (sym i) tt) e h
      loop_spot n (Foreign a) i o b = λ p k s f e h g. far_loop R settle p n a i b.0 b.1 k s e h g
      loop_spot n NoObject i o a = absurd o

      loop : (z : Value Name) → IsPlain K z → IsHonestTo script honest v z → Loop z
      loop (Ref n) i a = loop_spot n (K.spot n) refl i a
      loop (Broken x) i a = λ p k s f e h g. broken_loop settle R p x k s f h g
      loop other i a = λ p k s f e h g. here_loop settle p other k s tt e h

      waits : (p : Name) (qs : List Name) (s : Vat Name) → WaitsWell script honest w v y R settle p qs s → IfGives (λ t. Kept s t × Follows K p y t) (state.each (λ q. settle q y) qs s)
      unfolding state.each state.◌>>◌ state.give
      waits p [] s h = (kept_self s, h)
      waits p (q ∷ qs) s h = chain (λ t. Kept s t × WaitsWell script honest w v y R settle p qs t) (λ t. Kept s t × Follows K p y t) (settle q y s) (state.each (λ q. settle q y) qs)
          (if_both (λ t. Kept s t) (λ t. WaitsWell script honest w v y R settle p qs t) (settle q y s) (each_kept q s h.0) h.1)
          (λ t g. if_map (λ u. Kept t u × Follows K p y u) (λ u. Kept s u × Follows K p y u) (λ u i. (order_then script honest w v s t u g.0 i.0, i.1)) (state.each (λ q. settle q y) qs t) (waits p qs t g.1))

      reacts : (p : Name) (ms : List (Message Name)) (s : Vat Name) → Follows K p y s → IfGives (λ t. Kept s t × Follows K p y t) (state.each state.enqueue ms s)
      unfolding state.each state.◌>>◌ state.and_then state.give state.enqueue
      reacts p [] s h = (kept_self s, h)
      reacts p (m ∷ ms) s h = let t : Vat Name = record s { queue = s.queue ++ m ∷ [] } in
          if_map (λ u. Kept t u × Follows K p y u) (λ u. Kept s u × Follows K p y u) (λ u i. (order_then script honest w v s t u (kept_adds s t (queue_adds K s m)) i.0, i.1)) (state.each state.enqueue ms t)
          (reacts p ms t (follows_queue K p y s (s.queue ++ m ∷ []) h))

      tells : IsUnlisted y → (p : Name) (hs : List ℕ) (s : Vat Name) → Follows K p y s → IfGives (λ t. Kept s t) (state.each (refs.inform K p) hs s)
      unfolding state.each state.◌>>◌ state.give
      tells l p [] s h = kept_self s
      tells l p (a ∷ hs) s h = chain (Told K p y s) (λ t. Kept s t) (refs.inform K p a s) (state.each (refs.inform K p) hs) (informed_by K p y y refl l plain s a h)
          (λ t g. from_there s t (state.each (refs.inform K p) hs t) (kept_adds s t g.0) (tells l p hs t g.1))

      -- of a list a vat that is ready tells
      tells_list : (j : ℕ) → y ≡ Items j → (p : Name) (hs : List ℕ) (s : Vat Name) → Ready script honest w v s → Follows K p y s → IfGives (λ t. Kept s t) (state.each (refs.inform K p) hs s)
      unfolding state.each state.◌>>◌ state.give
      tells_list j e p [] s q h = kept_self s
      tells_list j e p (a ∷ hs) s q h = chain (λ t. StaysReady script honest w v s t × Follows K p y t) (λ t. Kept s t) (refs.inform K p a s) (state.each (refs.inform K p) hs) (list_told script honest w v p y j e s a h)
          (λ t g. let f = g.0 q in from_there s t (state.each (refs.inform K p) hs t) (λ r. f.0, kept_grown script honest w v s t f.1) (tells_list j e p hs t f.0 g.1))

      abbrev Needs : Value Name → Vat Name → Type 0
      Needs (Items j) s = Ready script honest w v s
      Needs other s = Unit {0}

      needs : (x : Value Name) (s t : Vat Name) → ReadyFor script honest w v s x → (Ready script honest w v s → Ready script honest w v t) → Needs x t
      needs (Items j) s t q f = f q
      needs other s t q f = tt

      tells_of : (x : Value Name) → y ≡ x → (p : Name) (hs : List ℕ) (s : Vat Name) → Needs x s → Follows K p y s → IfGives (λ t. Kept s t) (state.each (refs.inform K p) hs s)
      tells_of (Items j) e p hs s q h = tells_list j e p hs s q h
      tells_of other e p hs s q h = tells (subst IsUnlisted (sym e) tt) p hs s h

      pub known_kept : (p : Name) (k : Known Name) (s : Vat Name) → refs.entry_of K s.known p ≡ Some k → KnownWell script honest w v y R settle p k s → IfGives (λ t. Kept s t) (refs.settle_known K settle p y k s)
      unfolding refs.settle_known state.◌>>◌ state.and_then state.tell state.alter
      known_kept p k s e h = chain (λ t. Kept s t × WaitsWell script honest w v y R settle p k.waiting t) (λ t. Kept s t) (state.each (refs.send_on K settle) k.held (Then s p y))
          (λ t. state.and_then (state.each (λ q. settle q y) k.waiting t) (λ a. λ u. state.and_then (state.each state.enqueue k.reactions u) (λ b. state.each (refs.inform K p) k.told)))
          (if_both (λ t. Kept s t) (λ t. WaitsWell script honest w v y R settle p k.waiting t) (state.each (refs.send_on K settle) k.held (Then s p y)) (loop y plain near p k s each_kept e h.0 h.1) h.2)
          (λ t g. chain (λ u. Kept t u × Follows K p y u) (λ u. Kept s u) (state.each (λ q. settle q y) k.waiting t)
          (λ u. state.and_then (state.each state.enqueue k.reactions u) (λ b. state.each (refs.inform K p) k.told))
          (waits p k.waiting t g.1)
          (λ u i. chain (λ z. Kept u z × Follows K p y z) (λ z. Kept s z) (state.each state.enqueue k.reactions u) (state.each (refs.inform K p) k.told)
          (reacts p k.reactions u i.1)
          (λ z j. let done = order_then script honest w v s u z (order_then script honest w v s t u g.0 i.0) j.0 in from_there s z (state.each (refs.inform K p) k.told z) done (tells_of y refl p k.told z (needs y s z h.0.3 done.0) j.1))))

      stands_kept : (p : Name) (k : Known Name) (s : Vat Name) (q : Standing Name) → refs.entry_of K s.known p ≡ Some k → StandsWell script honest w v y R settle p k q s → IfGives (λ t. Kept s t) (refs.settle_standing K settle p y k q s)
      unfolding refs.settle_standing state.give
      stands_kept p k s (Settled z) e h = kept_self s
      stands_kept p k s other e h = known_kept p k s e h

      entry_kept : (p : Name) (s : Vat Name) (o : Option (Known Name)) → refs.entry_of K s.known p ≡ o → EntryWell script honest w v y R settle p o s → IfGives (λ t. Kept s t) (refs.settle_entry K settle p y o s)
      unfolding refs.settle_entry state.give
      entry_kept p s None e h = kept_self s
      entry_kept p s (Some k) e h = stands_kept p k s k.standing e h

    pub target_plain : (s : Vat Name) (p : Name) (z : Value Name) → IsPlain K z → IsPlain K (refs.target_of K s p z)
    unfolding refs.target_of refs.cut_cycle
    target_plain s p (Items j) h = go (refs.reaches K (suc (length s.lists)) s p (Items j))
      where
        go : (c : Bool) → IsPlain K (refs.cut_cycle K c (Items j))
        go true = tt
        go false = tt
    target_plain s p other h = h

    pub target_honest : (s : Vat Name) (p : Name) (z : Value Name) → IsHonestTo script honest v z → IsHonestTo script honest v (refs.target_of K s p z)
    unfolding refs.target_of refs.cut_cycle
    target_honest s p (Items j) h = go (refs.reaches K (suc (length s.lists)) s p (Items j))
      where
        go : (c : Bool) → IsHonestTo script honest v (refs.cut_cycle K c (Items j))
        go true = tt
        go false = tt
    target_honest s p other h = h

    settlings : (y : Value Name) → IsPlain K y → IsHonestTo script honest v y → (d : ℕ) (p : Name) (s : Vat Name) → SettlesWell script honest w v y d p s → IfGives (λ t. Kept s t) (refs.settle_at K d p y s)
    unfolding refs.settle_at refs.settle_one state.stop state.◌>>=◌ state.and_then state.look
    settlings y plain near zero p s h = tt
    settlings y plain near (suc d) p s h = let z = refs.target_of K s p y in
        entry_kept z (target_plain s p y plain) (target_honest s p y near) (λ q t. SettlesWell script honest w v z d q t) (λ q x. refs.settle_at K d q x) (λ q t g. settlings z (target_plain s p y plain) (target_honest s p y near) d q t g) p s (refs.entry_of K s.known p) refl h

pub settlings_keep : SettlingsKeep
settlings_keep = λ script honest w v r y at plain near d p s h. settlings script honest w v r at y plain near d p s h
