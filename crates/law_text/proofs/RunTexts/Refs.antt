-- References: what they lead to fits, and so does all that is sent, passed and settled.
use Rattle.std.proofs.Common.{◌≡◌, ℕ, zero, suc, ◌<◌, Bool, true, false, List, [], ◌∷◌, ◌++◌, Option, Some, None, ◌==◌, refl, subst, length, map, codes, arith}
use Rattle.def_machine.specs.Values.{Words, Value, Null, Broken, Items, Ref, Name, Root, Object, Promise, Answer, Gift, Sent, Spot, Own, Foreign, NoObject, Coming, IsAnswer, Mailing, Naming, naming, name_of, answer_of, mail_of, spot_of}
use Rattle.def_machine.specs.State.{Message, Standing, Unsettled, WaitsOn, Viewed, Settled, Known, Change, Hold, Wait, WaitOn, See, React, ToTell, Settle, Passed, Passeds, Plain, AGift, Many, NoMore, More, Deliver, Open, SettledTo, Elsewhere, Sends, Lost, Posted, Vat, Act, Astray, WhereSome, each, look, draw, draws, come, mail, alter, with_change, changed, changed_to, unless_settled, with_vat, is_in, begun, new_promise, new_message, new_lone_message}
use Rattle.def_machine.specs.Refs as refs
use Rattle.def_machine.specs.Refs.{Place, Near, Mine, Away, Gone}
use Rattle.def_machine.specs.Native.{list_at}
use Rattle.law_machine.specs.Machine.Steps.{After}
use Rattle.law_text.specs.Text.Feeds.{AllOf}
use Rattle.law_text.specs.RunTexts.Fitting.{Limits, size, IsVat, IsLow, MsgFits, NameFits, ValueFits, ValuesFit, MessageFits, StandingFits, KnownFits, PassedFits, PassedsFit, VatFits, TextFits, IsNoList}
use Rattle.law_text.proofs.RunTexts.Fine.{Fine, Ends, Grows, nothing, all_end, fine_bind, fine_then, fine_give, fine_stop, fine_look, fine_sees, fine_some, fine_if, fine_each, fine_tell, fine_spend, fine_enqueue, fine_out}
use Rattle.law_text.proofs.RunTexts.Texts.{plain}
use Rattle.law_text.proofs.RunTexts.Natives.{either_has, list_at_fits}

pub where_is : {A : Type 0} (P : A → Type 0) (o : Option A) (a : A) → o ≡ Some a → WhereSome P o → P a
where_is P (Some b) a e h = let same : b ≡ a = cc in subst P same h
where_is P None a e h = cc

pub where_either : {A : Type 0} (P : A → Type 0) (b : Bool) (a : A) (o : Option A) → P a → WhereSome P o → WhereSome P (elim b [ true ↦ Some a | false ↦ o ])
where_either P true a o h i = h
where_either P false a o h i = i

module _ (L : Limits) where
  abbrev pub PlaceFits : Place Name → Type 0
  PlaceFits Near = Unit {0}
  PlaceFits (Mine n) = NameFits L n
  PlaceFits (Away h n o) = IsVat L h × NameFits L n
  PlaceFits (Gone p) = TextFits p

  abbrev pub ChangeFits : Change Name → Type 0
  ChangeFits (Hold m) = MessageFits L m
  ChangeFits (Wait q) = NameFits L q
  ChangeFits (WaitOn q) = NameFits L q
  ChangeFits (See q) = NameFits L q
  ChangeFits (React m) = MessageFits L m
  ChangeFits (ToTell w) = IsVat L w
  ChangeFits (Settle y) = ValueFits L y

  -- whoever settles
  abbrev pub GoodSettler : (Name → Value Name → Act Name (Unit {0})) → Type 1
  GoodSettler settle = (D : Type 0) (n : Name) (y : Value Name) → (D → NameFits L n) → (D → ValueFits L y) → Fine L D (settle n y) (nothing L)

  pub answer_fits : (h : ℕ) (n : Name) → IsVat L h → NameFits L n → NameFits L (answer_of h n)
  unfolding answer_of
  answer_fits h (Sent m) i f = (i, f)
  answer_fits h other i f = f

  -- ---- changes of what is known

  told_fits : (w : ℕ) (ws : List ℕ) → IsVat L w → AllOf (IsVat L) ws → AllOf (IsVat L) (with_vat w ws)
  unfolding with_vat
  told_fits w ws g h = either_has (AllOf (IsVat L)) (is_in w ws) ws (ws ++ w ∷ []) h (all_end (IsVat L) ws w h g)

  to_fits : (c : Change Name) (k : Known Name) → ChangeFits c → KnownFits L k → KnownFits L (changed_to c k)
  unfolding changed_to
  to_fits (Hold m) k g h = (h.0, h.1, h.2, all_end (MessageFits L) k.held m h.3 g, h.4, h.5, h.6)
  to_fits (Wait q) k g h = (h.0, h.1, h.2, h.3, all_end (NameFits L) k.waiting q h.4 g, h.5, h.6)
  to_fits (React m) k g h = (h.0, h.1, h.2, h.3, h.4, all_end (MessageFits L) k.reactions m h.5 g, h.6)
  to_fits (ToTell w) k g h = (h.0, h.1, h.2, h.3, h.4, h.5, told_fits w k.told g h.6)
  to_fits (Settle y) k g h = (h.0, h.1, g, tt, tt, tt, tt)
  to_fits other k g h = (h.0, h.1, g, h.3, h.4, h.5, h.6)

  unless_fits : (x : Standing Name) (k new : Known Name) → KnownFits L k → KnownFits L new → KnownFits L (unless_settled x k new)
  unfolding unless_settled
  unless_fits (Settled y) k new h i = h
  unless_fits other k new h i = i

  changed_fits : (c : Change Name) (k : Known Name) → ChangeFits c → KnownFits L k → KnownFits L (changed c k)
  unfolding changed
  changed_fits c k g h = unless_fits k.standing k (changed_to c k) h (to_fits c k g h)

  pub begun_fits : (n : Name) (h : ℕ) → NameFits L n → IsVat L h → KnownFits L (begun n h)
  unfolding begun
  begun_fits n h f i = (f, i, tt, tt, tt, tt, tt)

  module _ (word : ℕ → ℕ) (v : ℕ) (inside : v < L.many) where
    abbrev K : Naming Name Name
    K = naming word v

    with_fits : (c : Change Name) (n : Name) (ks : List (Known Name)) → ChangeFits c → AllOf (KnownFits L) ks → AllOf (KnownFits L) (with_change K c n ks)
    unfolding with_change
    with_fits c n [] g h = tt
    with_fits c n (k ∷ ks) g h = either_has (AllOf (KnownFits L)) (K.same k.name n) (changed c k ∷ ks) (k ∷ with_change K c n ks) (changed_fits c k g h.0, h.1) (h.0, with_fits c n ks g h.1)

    pub fine_alter : {C : Type 0} (c : Change Name) (n : Name) → (C → ChangeFits c) → Fine L C (alter K c n) (nothing L)
    unfolding alter size
    fine_alter d n g = record {
      grows = λ s. omega arith;
      after = λ s h c low. (record { here = h.here; things = h.things; slots = h.slots; lists = h.lists; queue = h.queue; known = with_fits d n s.known (g c) h.known; gifts = h.gifts; outbox = h.outbox; happened = h.happened }, tt);
    }

    pub fine_come : {C : Type 0} (x : Coming Name Name) (w : ℕ) → (C → NameFits L (name_of v x)) → (C → IsVat L w) → Fine L C (come K x w) (NameFits L)
    unfolding come naming size
    fine_come x w g k = record {
      grows = λ s. omega arith;
      after = λ s h c low. (record { here = h.here; things = h.things; slots = h.slots; lists = h.lists; queue = h.queue; known = all_end (KnownFits L) s.known _ h.known (begun_fits (name_of v x) w (g c) (k c)); gifts = h.gifts; outbox = h.outbox; happened = h.happened }, g c);
    }

    pub fine_mail : {C : Type 0} (x : Mailing Name) → (C → NameFits L (mail_of v x)) → Fine L C (mail K x) (NameFits L)
    unfolding mail naming size
    fine_mail x g = record {
      grows = λ s. omega arith;
      after = λ s h c low. (record { here = h.here; things = h.things; slots = h.slots; lists = h.lists; queue = h.queue; known = h.known; gifts = h.gifts; outbox = h.outbox; happened = h.happened }, g c);
    }

    pub fine_promise : {C : Type 0} → Fine L C (new_promise K) (NameFits L)
    unfolding new_promise naming name_of size
    fine_promise = record {
      grows = λ s. omega arith;
      after = λ s h c low. let f : NameFits L (Promise v s.promises) = (inside, omega (arith, low)) in
          (record { here = h.here; things = h.things; slots = h.slots; lists = h.lists; queue = h.queue; known = all_end (KnownFits L) s.known _ h.known (begun_fits (Promise v s.promises) s.number f h.here); gifts = h.gifts; outbox = h.outbox; happened = h.happened }, f);
    }

    pub fine_new_message : {C : Type 0} (w : ℕ) → (C → IsVat L w) → Fine L C (new_message K w) (λ p. NameFits L p.0 × NameFits L p.1)
    unfolding new_message naming name_of mail_of answer_of size
    fine_new_message w g = record {
      grows = λ s. omega arith;
      after = λ s h c low. let m : MsgFits L (record { sender = v; number = s.messages }) = (inside, omega (arith, low)) in let f : NameFits L (Answer w (record { sender = v; number = s.messages })) = (g c, m) in
          (record { here = h.here; things = h.things; slots = h.slots; lists = h.lists; queue = h.queue; known = all_end (KnownFits L) s.known _ h.known (begun_fits _ w f (g c)); gifts = h.gifts; outbox = h.outbox; happened = h.happened }, (m, f));
    }

    pub fine_lone_message : {C : Type 0} → Fine L C (new_lone_message K) (NameFits L)
    unfolding new_lone_message naming mail_of size
    fine_lone_message = record {
      grows = λ s. omega arith;
      after = λ s h c low. (record { here = h.here; things = h.things; slots = h.slots; lists = h.lists; queue = h.queue; known = h.known; gifts = h.gifts; outbox = h.outbox; happened = h.happened }, (inside, omega (arith, low)));
    }

    draws_grow : (s : Vat Name) (w : ℕ) (o : Option ℕ) → After Grows s (draws w o s)
    unfolding draws size
    draws_grow s w (Some i) = omega arith
    draws_grow s w None = omega arith

    draws_fit : (s : Vat Name) (w : ℕ) (o : Option ℕ) → VatFits L s → Ends L (nothing L) (draws w o s)
    unfolding draws
    draws_fit s w (Some i) h = tt
    draws_fit s w None h = λ low. (record { here = h.here; things = h.things; slots = h.slots; lists = h.lists; queue = h.queue; known = h.known; gifts = h.gifts; outbox = h.outbox; happened = h.happened }, tt)

    pub fine_draw : {C : Type 0} → Fine L C (draw K) (nothing L)
    unfolding draw
    fine_draw = record { grows = λ s. draws_grow s _ _; after = λ s h c. draws_fit s _ _ h }

    -- ---- following

    pub entry_fits : (ks : List (Known Name)) (n : Name) → AllOf (KnownFits L) ks → WhereSome (KnownFits L) (refs.entry_of K ks n)
    unfolding refs.entry_of
    entry_fits [] n h = tt
    entry_fits (k ∷ ks) n h = where_either (KnownFits L) (K.same k.name n) k (refs.entry_of K ks n) h.0 (entry_fits ks n h.1)

    standing_fits : (o : Option (Known Name)) → WhereSome (KnownFits L) o → StandingFits L (refs.standing_in o)
    unfolding refs.standing_in
    standing_fits (Some k) h = h.2
    standing_fits None h = tt

    host_fits : (u : ℕ) (o : Option (Known Name)) → IsVat L u → WhereSome (KnownFits L) o → IsVat L (refs.host_in u o)
    unfolding refs.host_in
    host_fits u (Some k) i h = h.1
    host_fits u None i h = i

    pub host_at_fits : (s : Vat Name) (n : Name) → VatFits L s → IsVat L (refs.host_at K s.number s.known n)
    unfolding refs.host_at
    host_at_fits s n h = host_fits s.number (refs.entry_of K s.known n) h.here (entry_fits s.known n h.known)

    led_fits : (on : Value Name → Value Name) (n : Name) (x : Standing Name) → ((y : Value Name) → ValueFits L y → ValueFits L (on y)) → NameFits L n → StandingFits L x → ValueFits L (refs.led K on n x)
    unfolding refs.led
    led_fits on n (Settled y) f g h = f y h
    led_fits on n (Viewed q) f g h = f (Ref q) h
    led_fits on n other f g h = g

    follow_at_fits : (d : ℕ) (ks : List (Known Name)) (x : Value Name) → AllOf (KnownFits L) ks → ValueFits L x → ValueFits L (refs.follow_at K d ks x)
    unfolding refs.follow_at refs.standing_of
    follow_at_fits zero ks x h f = f
    follow_at_fits (suc d) ks (Ref n) h f = led_fits (λ y. refs.follow_at K d ks y) n (refs.standing_in (refs.entry_of K ks n)) (λ y g. follow_at_fits d ks y h g) f (standing_fits (refs.entry_of K ks n) (entry_fits ks n h))
    follow_at_fits (suc d) ks other h f = f

    severed_by_fits : (w : ℕ) (s : Vat Name) (n : Name) → NameFits L n → ValueFits L (refs.severed_by K w s n)
    unfolding refs.severed_by
    severed_by_fits w s n f = either_has (ValueFits L) (is_in w s.noticed) (Broken (codes "partition")) (Ref n) (plain _ refl) f

    severed_at_fits : (s : Vat Name) (n : Name) (p : Spot) → NameFits L n → ValueFits L (refs.severed_at K s n p)
    unfolding refs.severed_at
    severed_at_fits s n (Own i) f = f
    severed_at_fits s n (Foreign w) f = severed_by_fits w s n f
    severed_at_fits s n NoObject f = severed_by_fits _ s n f

    severed_fits : (s : Vat Name) (y : Value Name) → ValueFits L y → ValueFits L (refs.severed K s y)
    unfolding refs.severed
    severed_fits s (Ref n) f = severed_at_fits s n (K.spot n) f
    severed_fits s other f = f

    pub follow_fits : (s : Vat Name) (x : Value Name) → VatFits L s → ValueFits L x → ValueFits L (refs.follow K s x)
    unfolding refs.follow
    follow_fits s x h f = severed_fits s _ (follow_at_fits (suc (length s.known)) s.known x h.known f)

    pub follows_fit : (s : Vat Name) (xs : List (Value Name)) → VatFits L s → ValuesFit L xs → ValuesFit L (map (refs.follow K s) xs)
    follows_fit s [] h f = tt
    follows_fit s (x ∷ xs) h f = (follow_fits s x h f.0, follows_fit s xs h f.1)

    -- ---- places

    hosted_fits : (u w : ℕ) (n : Name) → IsVat L w → NameFits L n → PlaceFits (refs.hosted K u n w)
    unfolding refs.hosted
    hosted_fits u w n i f = either_has PlaceFits (u == w) (Mine n) (Away w n false) f (i, f)

    spot_fits : (s : Vat Name) (n : Name) → VatFits L s → NameFits L n → PlaceFits (refs.spotted K s n (spot_of v n))
    unfolding spot_of refs.spotted
    spot_fits s (Object w i) h f = by (v == w)
      where
        by : (b : Bool) → PlaceFits (refs.spotted K s (Object w i) (elim b [ true ↦ Own i | false ↦ Foreign w ]))
        by true = tt
        by false = (f.0, f)
    spot_fits s (Root w) h f = hosted_fits s.number _ (Root w) (host_at_fits s (Root w) h) f
    spot_fits s (Promise w i) h f = hosted_fits s.number _ (Promise w i) (host_at_fits s (Promise w i) h) f
    spot_fits s (Answer w m) h f = hosted_fits s.number _ (Answer w m) (host_at_fits s (Answer w m) h) f
    spot_fits s (Gift w i) h f = hosted_fits s.number _ (Gift w i) (host_at_fits s (Gift w i) h) f
    spot_fits s (Sent m) h f = hosted_fits s.number _ (Sent m) (host_at_fits s (Sent m) h) f

    pub place_fits : (s : Vat Name) (y : Value Name) → VatFits L s → ValueFits L y → PlaceFits (refs.place K s y)
    unfolding refs.place naming
    place_fits s (Ref n) h f = spot_fits s n h f
    place_fits s (Broken p) h f = f
    place_fits s other h f = tt

    -- ---- looks

    pub look_follow : {C : Type 0} (x : Value Name) → (C → ValueFits L x) → Fine L C (look (λ s. refs.follow K s x)) (ValueFits L)
    look_follow x g = fine_look L _ (λ s h c. follow_fits s x h (g c))

    pub look_place : {C : Type 0} (y : Value Name) → (C → ValueFits L y) → Fine L C (look (λ s. refs.place K s y)) PlaceFits
    look_place y g = fine_look L _ (λ s h c. place_fits s y h (g c))

    pub look_place_of : {C : Type 0} (x : Value Name) → (C → ValueFits L x) → Fine L C (look (λ s. refs.place K s (refs.follow K s x))) PlaceFits
    look_place_of x g = fine_look L _ (λ s h c. place_fits s _ h (follow_fits s x h (g c)))

    pub look_here : {C : Type 0} → Fine L C (look (λ (s : Vat Name). s.number)) (IsVat L)
    look_here = fine_look L _ (λ s h c. h.here)

    pub look_entry : {C : Type 0} (n : Name) → Fine L C (look (λ s. refs.entry_of K s.known n)) (WhereSome (KnownFits L))
    look_entry n = fine_look L _ (λ s h c. entry_fits s.known n h.known)

    -- ---- passing

    shape_by_fits : (d : ℕ) (members : List (Value Name) → Passed Name) (ls : List (List (Value Name))) (y : Value Name) → ((vs : List (Value Name)) → ValuesFit L vs → PassedFits L d (members vs)) → AllOf (ValuesFit L) ls → ValueFits L y → PassedFits L d (refs.shape_by K members ls y)
    unfolding refs.shape_by
    shape_by_fits d members ls (Items k) m h f = m (list_at ls k) (list_at_fits L ls k h)
    shape_by_fits d members ls other m h f = (f, tt)

    shapes_fit : (d : ℕ) (f : Value Name → Passed Name) → ((x : Value Name) → ValueFits L x → PassedFits L d (f x)) → (vs : List (Value Name)) → ValuesFit L vs → PassedsFit L (suc d) (refs.shapes K f vs)
    unfolding refs.shapes
    shapes_fit d f g [] h = tt
    shapes_fit d f g (x ∷ vs) h = (g x h.0, shapes_fit d f g vs h.1)

    shape_fits : (d : ℕ) (s : Vat Name) (x : Value Name) → VatFits L s → ValueFits L x → PassedFits L d (refs.shape K d s x)
    unfolding refs.shape
    shape_fits zero s x h f = shape_by_fits zero (λ vs. Plain (Broken (codes "too heavy"))) s.lists _ (λ vs g. (plain _ refl, tt)) h.lists (follow_fits s x h f)
    shape_fits (suc d) s x h f = shape_by_fits (suc d) _ s.lists _ (λ vs g. shapes_fit d (λ y. refs.shape K d s y) (λ y i. shape_fits d s y h i) vs g) h.lists (follow_fits s x h f)

    parcel_of_fits : (s : Vat Name) (x : Value Name) (o : Option ℕ) → VatFits L s → ValueFits L x → PassedFits L 100 (refs.parcel_of_list K s x o).value
    unfolding refs.parcel_of_list refs.too_heavy refs.highest
    parcel_of_fits s x (Some left) h f = shape_fits 100 s x h f
    parcel_of_fits s x None h f = (plain _ refl, tt)

    parcel_at_fits : (s : Vat Name) (y : Value Name) → VatFits L s → ValueFits L y → PassedFits L 100 (refs.parcel_at K s y).value
    unfolding refs.parcel_at
    parcel_at_fits s (Items k) h f = parcel_of_fits s (Items k) _ h f
    parcel_at_fits s other h f = (f, tt)

    look_parcel : {C : Type 0} (x : Value Name) → (C → ValueFits L x) → Fine L C (look (λ s. refs.parcel K s x)) (λ y. PassedFits L 100 y.value)
    unfolding refs.parcel
    look_parcel x g = fine_look L _ (λ s h c. parcel_at_fits s _ h (follow_fits s x h (g c)))

    address_plain : {C : Type 0} (d w : ℕ) (y : Value Name) (p : Place Name) → (C → IsVat L w) → (C → ValueFits L y × IsNoList y) → (C → PlaceFits p) → Fine L C (refs.address_plain K w y p) (PassedFits L d)
    unfolding refs.address_plain
    address_plain d w y (Away u n o) i g p = fine_if L (u == w) (fine_give L (Plain y) g)
        (fine_bind L (nothing L) fine_draw (λ j. fine_then L (fine_out L u (Open j n) (λ c. (p c.0).1)) (fine_give L (AGift u j) (λ c. (p c.0).0))))
    address_plain d w y (Mine n) i g p = fine_then L (fine_alter (ToTell w) n i) (fine_give L (Plain y) g)
    address_plain d w y other i g p = fine_give L (Plain y) g

    mutual
      unfolding refs.address refs.address_all

      fine_address : (d w : ℕ) (y : Passed Name) {C : Type 0} → (C → IsVat L w) → (C → PassedFits L d y) → Fine L C (refs.address K w y) (PassedFits L d)
      fine_address d w (Plain y) i g = fine_bind L PlaceFits (look_place y (λ c. (g c).0)) (λ p. address_plain d w y p (λ c. i c.0) (λ c. g c.0) (λ c. c.1))
      fine_address d w (AGift u j) i g = fine_give L (AGift u j) g
      fine_address d w (Many ys) i g = fine_bind L (PassedsFit L d) (fine_address_all d w ys i g) (λ zs. fine_give L (Many zs) (λ c. c.1))

      fine_address_all : (d w : ℕ) (ys : Passeds Name) {C : Type 0} → (C → IsVat L w) → (C → PassedsFit L d ys) → Fine L C (refs.address_all K w ys) (PassedsFit L d)
      fine_address_all d w NoMore i g = fine_give L NoMore g
      fine_address_all zero w (More y ys) i g = fine_bind L (PassedFits L zero) (fine_address zero w y i (λ c. absurd (g c)))
          (λ z. fine_bind L (PassedsFit L zero) (fine_address_all zero w ys (λ c. i c.0) (λ c. absurd (g c.0))) (λ zs. fine_give L (More z zs) (λ c. absurd (g c.0.0))))
      fine_address_all (suc d) w (More y ys) i g = fine_bind L (PassedFits L d) (fine_address d w y i (λ c. (g c).0))
          (λ z. fine_bind L (PassedsFit L (suc d)) (fine_address_all (suc d) w ys (λ c. i c.0) (λ c. (g c.0).1)) (λ zs. fine_give L (More z zs) (λ c. (c.0.1, c.1))))

    pub fine_pass : {C : Type 0} (w : ℕ) (x : Value Name) → (C → IsVat L w) → (C → ValueFits L x) → Fine L C (refs.pass K w x) (PassedFits L 100)
    unfolding refs.pass
    fine_pass w x i g = fine_bind L (λ y. PassedFits L 100 y.value) (look_parcel x g) (λ y. fine_then L (fine_spend L y.weight) (fine_address 100 w y.value (λ c. i c.0) (λ c. c.1)))

    fine_pass_all : (w : ℕ) (xs : List (Value Name)) {C : Type 0} → (C → IsVat L w) → (C → ValuesFit L xs) → Fine L C (refs.pass_all K w xs) (PassedsFit L 101)
    unfolding refs.pass_all
    fine_pass_all w [] i g = fine_give L NoMore (λ c. tt)
    fine_pass_all w (x ∷ xs) i g = fine_bind L (PassedFits L 100) (fine_pass w x i (λ c. (g c).0))
        (λ y. fine_bind L (PassedsFit L 101) (fine_pass_all w xs (λ c. i c.0) (λ c. (g c.0).1)) (λ ys. fine_give L (More y ys) (λ c. (c.0.1, c.1))))

    pub fine_deliver : {C : Type 0} (m : Message Name) (w : ℕ) (n : Name) → (C → MessageFits L m) → (C → IsVat L w) → (C → NameFits L n) → Fine L C (refs.deliver K m w n) (nothing L)
    unfolding refs.deliver
    fine_deliver m w n g i k = fine_bind L (PassedsFit L 101) (fine_pass_all w m.args i (λ c. (g c).3))
        (λ ys. fine_then L (fine_tell L (Posted w m.id) (λ c. (g c.0).0)) (fine_out L w (Deliver (refs.delivery_of K m) n m.verb ys) (λ c. ((g c.0).0, k c.0, (g c.0).2, c.1))))

    -- ---- settling

    pub fine_wait_on : {C : Type 0} (p q : Name) → (C → NameFits L p) → (C → NameFits L q) → Fine L C (refs.wait_on K p q) (nothing L)
    unfolding refs.wait_on
    fine_wait_on p q g k = fine_then L (fine_tell L _ (λ c. (g c, k c))) (fine_then L (fine_alter (WaitOn q) p k) (fine_alter (Wait p) q g))

    fine_pass_on : {C : Type 0} (m : Message Name) (w : ℕ) (n : Name) → (C → MessageFits L m) → (C → IsVat L w) → (C → NameFits L n) → Fine L C (refs.pass_on K m w n) (nothing L)
    unfolding refs.pass_on name_of
    fine_pass_on m w n g i k = fine_some L (NameFits L) m.answer
        (λ p e. fine_bind L (NameFits L) (fine_come (IsAnswer w m.id) w (λ c. answer_name m w (g c) (i c)) i)
        (λ a. fine_then L (fine_deliver (record m { answer = Some a }) w n (λ c. let h = g c.0 in (h.0, h.1, h.2, h.3, c.1)) (λ c. i c.0) (λ c. k c.0))
        (fine_wait_on p a (λ c. where_is (NameFits L) m.answer p e (g c.0).4) (λ c. c.1))))
        (fine_deliver m w n g i k)
      where
        answer_name : (m : Message Name) (w : ℕ) → MessageFits L m → IsVat L w → NameFits L (name_of v (IsAnswer w m.id))
        answer_name m w h i = answer_fits w m.id i h.0

    pub fine_send_to : (settle : refs.Settler K) → GoodSettler settle → {C : Type 0} (m : Message Name) (y : Value Name) (p : Place Name) → (C → MessageFits L m) → (C → ValueFits L y) → (C → PlaceFits p) → Fine L C (refs.send_to K settle m y p) (nothing L)
    unfolding refs.send_to
    fine_send_to settle good m y Near g f p = fine_enqueue L (record m { target = y }) (λ c. let h = g c in (h.0, f c, h.2, h.3, h.4))
    fine_send_to settle good m y (Mine n) g f p = fine_alter (Hold (record m { target = y })) n (λ c. let h = g c in (h.0, f c, h.2, h.3, h.4))
    fine_send_to settle good m y (Away w n o) g f p = fine_pass_on m w n g (λ c. (p c).0) (λ c. (p c).1)
    fine_send_to settle good {C = C} m y (Gone t) g f p = fine_then L (fine_tell L (Lost m.id) (λ c. (g c).0))
        (fine_some L (NameFits L) m.answer (λ a e. good C a (Broken t) (λ c. where_is (NameFits L) m.answer a e (g c).4) p) (fine_give L tt (λ c. tt)))

    pub fine_send_on : (settle : refs.Settler K) → GoodSettler settle → {C : Type 0} (m : Message Name) → (C → MessageFits L m) → Fine L C (refs.send_on K settle m) (nothing L)
    unfolding refs.send_on
    fine_send_on settle good m g = fine_bind L (ValueFits L) (look_follow m.target (λ c. (g c).1))
        (λ y. fine_bind L PlaceFits (look_place y (λ c. c.1)) (λ p. fine_send_to settle good m y p (λ c. g c.0.0) (λ c. c.0.1) (λ c. c.1)))

    pub fine_inform : {C : Type 0} (p : Name) (w : ℕ) → (C → NameFits L p) → (C → IsVat L w) → Fine L C (refs.inform K p w) (nothing L)
    unfolding refs.inform refs.inform_of
    fine_inform p w g i = fine_bind L (ValueFits L) (look_follow (Ref p) g) (λ y. fine_bind L PlaceFits (look_place y (λ c. c.1))
        (λ q. fine_bind L (nothing L) (fine_sees L _) (λ gone. fine_if L gone (fine_give L tt (λ c. tt)) (inform_of p w y q (λ c. g c.0.0.0) (λ c. i c.0.0.0) (λ c. c.0.0.1) (λ c. c.0.1)))))
      where
        inform_of : {C : Type 0} (p : Name) (w : ℕ) (y : Value Name) (q : Place Name) → (C → NameFits L p) → (C → IsVat L w) → (C → ValueFits L y) → (C → PlaceFits q) → Fine L C (refs.inform_of K p w y q) (nothing L)
        inform_of p w y (Away h n true) g i f k = fine_out L w (Elsewhere p h) (λ c. (g c, (k c).0))
        inform_of p w y other g i f k = fine_bind L (PassedFits L 100) (fine_pass w y i f) (λ z. fine_out L w (SettledTo p z) (λ c. (g c.0, c.1)))

    cut_fits : (b : Bool) (y : Value Name) → ValueFits L y → ValueFits L (refs.cut_cycle K b y)
    unfolding refs.cut_cycle
    cut_fits true y f = plain _ refl
    cut_fits false y f = f

    target_fits : (s : Vat Name) (p : Name) (y : Value Name) → ValueFits L y → ValueFits L (refs.target_of K s p y)
    unfolding refs.target_of
    target_fits s p (Items k) f = cut_fits _ (Items k) f
    target_fits s p other f = f

    settle_known : (settle : refs.Settler K) → GoodSettler settle → {C : Type 0} (p : Name) (y : Value Name) (k : Known Name) → (C → NameFits L p) → (C → ValueFits L y) → (C → KnownFits L k) → Fine L C (refs.settle_known K settle p y k) (nothing L)
    unfolding refs.settle_known each
    settle_known settle good p y k g f h = fine_then L (fine_tell L _ (λ c. (g c, f c))) (fine_then L (fine_alter (Settle y) p f)
        (fine_then L (fine_each L (MessageFits L) k.held (λ c. (h c).3) (λ D m e. fine_send_on settle good m e))
        (fine_then L (waiting k.waiting (λ c. (h c).4) f)
        (fine_then L (fine_each L (MessageFits L) k.reactions (λ c. (h c).5) (λ D m e. fine_enqueue L m e))
        (told p k.told g (λ c. (h c).6))))))
      where
        waiting : {C : Type 0} (qs : List Name) → (C → AllOf (NameFits L) qs) → (C → ValueFits L y) → Fine L C (each (λ q. settle q y) qs) (nothing L)
        waiting [] e f = fine_give L tt (λ c. tt)
        waiting {C = C} (q ∷ qs) e f = fine_then L (good C q y (λ c. (e c).0) f) (waiting qs (λ c. (e c).1) f)

        told : {C : Type 0} (p : Name) (ws : List ℕ) → (C → NameFits L p) → (C → AllOf (IsVat L) ws) → Fine L C (each (refs.inform K p) ws) (nothing L)
        told p [] g e = fine_give L tt (λ c. tt)
        told p (w ∷ ws) g e = fine_then L (fine_inform p w g (λ c. (e c).0)) (told p ws g (λ c. (e c).1))

    settle_entry : (settle : refs.Settler K) → GoodSettler settle → {C : Type 0} (p : Name) (y : Value Name) (o : Option (Known Name)) → (C → NameFits L p) → (C → ValueFits L y) → (C → WhereSome (KnownFits L) o) → Fine L C (refs.settle_entry K settle p y o) (nothing L)
    unfolding refs.settle_entry refs.settle_standing
    settle_entry settle good p y None g f h = fine_give L tt (λ c. tt)
    settle_entry settle good {C = C} p y (Some k) g f h = standing k.standing
      where
        standing : (x : Standing Name) → Fine L C (refs.settle_standing K settle p y k x) (nothing L)
        standing (Settled z) = fine_give L tt (λ c. tt)
        standing Unsettled = settle_known settle good p y k g f h
        standing (WaitsOn q) = settle_known settle good p y k g f h
        standing (Viewed q) = settle_known settle good p y k g f h

    settle_one : (settle : refs.Settler K) → GoodSettler settle → {C : Type 0} (p : Name) (x : Value Name) → (C → NameFits L p) → (C → ValueFits L x) → Fine L C (refs.settle_one K settle p x) (nothing L)
    unfolding refs.settle_one
    settle_one settle good p x g f = fine_bind L (ValueFits L) (fine_look L _ (λ s h c. target_fits s p x (f c)))
        (λ y. fine_bind L (WhereSome (KnownFits L)) (look_entry p) (λ k. settle_entry settle good p y k (λ c. g c.0.0) (λ c. c.0.1) (λ c. c.1)))

    settle_at : (d : ℕ) → GoodSettler (refs.settle_at K d)
    unfolding refs.settle_at
    settle_at zero = λ D p y g f. fine_stop L Astray
    settle_at (suc d) = λ D p y g f. settle_one (λ q z. refs.settle_at K d q z) (settle_at d) p y g f

    pub fine_settle : GoodSettler (refs.settle K)
    unfolding refs.settle
    fine_settle = λ D p y g f. fine_bind L (nothing L) (fine_sees L _) (λ n. settle_at n (D × Unit {0}) p y (λ c. g c.0) (λ c. f c.0))

    wait_unless : {C : Type 0} (p q : Name) → (C → NameFits L p) → (C → NameFits L q) → Fine L C (refs.wait_unless_cycle K p q) (nothing L)
    unfolding refs.wait_unless_cycle
    wait_unless p q g k = fine_bind L (nothing L) (fine_sees L _) (λ back. fine_if L back (fine_settle _ p (Broken (codes "cycle")) (λ c. g c.0) (λ c. plain _ refl)) (fine_wait_on p q (λ c. g c.0) (λ c. k c.0)))

    pub fine_resolve : {C : Type 0} (p : Name) (x : Value Name) → (C → NameFits L p) → (C → ValueFits L x) → Fine L C (refs.resolve K p x) (nothing L)
    unfolding refs.resolve refs.resolve_to
    fine_resolve p x g f = fine_bind L (ValueFits L) (look_follow x f) (λ y. fine_bind L PlaceFits (look_place y (λ c. c.1)) (λ q. to p y q (λ c. g c.0.0) (λ c. c.0.1) (λ c. c.1)))
      where
        to : {C : Type 0} (p : Name) (y : Value Name) (q : Place Name) → (C → NameFits L p) → (C → ValueFits L y) → (C → PlaceFits q) → Fine L C (refs.resolve_to K p y q) (nothing L)
        to p y (Mine q) g f k = wait_unless p q g k
        to p y (Away h q false) g f k = wait_unless p q g (λ c. (k c).1)
        to p y other g f k = fine_settle _ p y g f

    -- ---- sending and reacting

    answer_host_fits : (u : ℕ) (p : Place Name) → IsVat L u → PlaceFits p → IsVat L (refs.answer_host K u p)
    unfolding refs.answer_host
    answer_host_fits u (Away h n o) i f = f.0
    answer_host_fits u other i f = i

    send_first : {C : Type 0} (m : Message Name) (y : Value Name) (p : Place Name) → (C → MessageFits L m) → (C → ValueFits L y) → (C → PlaceFits p) → Fine L C (refs.send_first K m y p) (nothing L)
    unfolding refs.send_first
    send_first m y (Away h n o) g f k = fine_deliver m h n g (λ c. (k c).0) (λ c. (k c).1)
    send_first m y Near g f k = fine_send_to (refs.settle K) fine_settle m y Near g f k
    send_first m y (Mine n) g f k = fine_send_to (refs.settle K) fine_settle m y (Mine n) g f k
    send_first m y (Gone t) g f k = fine_send_to (refs.settle K) fine_settle m y (Gone t) g f k

    pub fine_send : {C : Type 0} (act : ℕ) (x : Value Name) (verb : Words) (args : List (Value Name)) → (C → IsLow L act) → (C → ValueFits L x) → (C → TextFits verb) → (C → ValuesFit L args) → Fine L C (refs.send K act x verb args) (ValueFits L)
    unfolding refs.send
    fine_send act x verb args a f t g = fine_bind L (ValueFits L) (look_follow x f) (λ y. fine_bind L PlaceFits (look_place y (λ c. c.1)) (λ p. fine_bind L (IsVat L) look_here
        (λ u. fine_bind L (λ n. NameFits L n.0 × NameFits L n.1) (fine_new_message (refs.answer_host K u p) (λ c. answer_host_fits u p c.1 c.0.1))
        (λ new. fine_then L (fine_tell L (Sends act (record { id = new.0; target = x; verb = verb; args = args; answer = Some new.1 })) (λ c. (a c.0.0.0.0, (c.1.0, f c.0.0.0.0, t c.0.0.0.0, g c.0.0.0.0, c.1.1))))
        (fine_then L (send_first (record { id = new.0; target = y; verb = verb; args = args; answer = Some new.1 }) y p (λ c. (c.1.0, c.0.0.0.1, t c.0.0.0.0, g c.0.0.0.0, c.1.1)) (λ c. c.0.0.0.1) (λ c. c.0.0.1))
        (fine_give L (Ref new.1) (λ c. c.1.1)))))))

    pub fine_send_only : {C : Type 0} (act : ℕ) (x : Value Name) (verb : Words) (args : List (Value Name)) → (C → IsLow L act) → (C → ValueFits L x) → (C → TextFits verb) → (C → ValuesFit L args) → Fine L C (refs.send_only K act x verb args) (ValueFits L)
    unfolding refs.send_only
    fine_send_only act x verb args a f t g = fine_bind L (ValueFits L) (look_follow x f) (λ y. fine_bind L PlaceFits (look_place y (λ c. c.1))
        (λ p. fine_bind L (NameFits L) fine_lone_message
        (λ id. fine_then L (fine_tell L (Sends act (record { id = id; target = x; verb = verb; args = args; answer = None })) (λ c. (a c.0.0.0, (c.1, f c.0.0.0, t c.0.0.0, g c.0.0.0, tt))))
        (fine_then L (send_first (record { id = id; target = y; verb = verb; args = args; answer = None }) y p (λ c. (c.1, c.0.0.1, t c.0.0.0, g c.0.0.0, tt)) (λ c. c.0.0.1) (λ c. c.0.1))
        (fine_give L Null (λ c. tt))))))

    react_at : {C : Type 0} (m : Message Name) (p : Place Name) → (C → MessageFits L m) → Fine L C (refs.react_at K m p) (nothing L)
    unfolding refs.react_at
    react_at m (Mine n) g = fine_alter (React m) n g
    react_at m (Away h n false) g = fine_alter (React m) n g
    react_at m other g = fine_enqueue L m g

    pub fine_react : {C : Type 0} (act : ℕ) (x o near : Value Name) → (C → IsLow L act) → (C → ValueFits L x) → (C → ValueFits L o) → (C → ValueFits L near) → Fine L C (refs.react K act x o near) (ValueFits L)
    unfolding refs.react refs.reaction
    fine_react act x o near a f g k = fine_bind L (IsVat L) look_here (λ u. fine_bind L (λ n. NameFits L n.0 × NameFits L n.1) (fine_new_message u (λ c. c.1))
        (λ new. fine_then L (fine_tell L _ (λ c. (a c.0.0, f c.0.0, g c.0.0, (c.1.0, k c.0.0, plain _ refl, (f c.0.0, tt), c.1.1))))
        (fine_bind L PlaceFits (look_place_of x (λ c. f c.0.0)) (λ p. fine_then L (react_at _ p (λ c. (c.0.1.0, k c.0.0.0, plain _ refl, (f c.0.0.0, tt), c.0.1.1))) (fine_give L (Ref new.1) (λ c. c.0.1.1))))))
