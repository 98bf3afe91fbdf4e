-- What a vat does with references brings messages that stem from what was sent.
use Rattle.std.proofs.Common.{◌≡◌, ℕ, zero, suc, Bool, true, false, List, [], ◌∷◌, Option, Some, None, length, refl, sym, ap, ◌∙◌, subst, ◌⊎◌, inl, inr, if◌then◌else◌, ◌==◌, eq-eqb}
use Rattle.std.specs.Prelude.{slice_get, codes}
use Rattle.def_machine.specs.Values.{Words, Value, Null, Flag, Number, Letter, Text, Prim, Broken, Items, Ref, Name, Root, Object, Promise, Answer, Gift, Sent, spot_of, Spot, Own, Foreign, NoObject, naming, same_reference}
use Rattle.def_machine.specs.State.{SettledTo, Elsewhere, and_then, send_out, look, tell, new_message, Message, Standing, Viewed, Settled, Known, Passed, Passeds, Plain, AGift, Many, NoMore, More, Deliver, Hold, React, Settle, Sends, Reacts, Settles, Vat, Act, is_in, spend, each, give, ◌>>=◌, ◌>>◌, new_lone_message}
use Rattle.def_machine.specs.Native.{list_at}
use Rattle.def_machine.specs.Refs as refs
use Rattle.def_machine.specs.Refs.{Place, Near, Mine, Away, Gone, Parcel}
use Rattle.law_fate.proofs.Name.SameNames.{reference_is}
use Rattle.law_uses.specs.Connectivity.Known.{IsAmong, AllOf}
use Rattle.law_uses.specs.Connectivity.Stems.{LeadsTo, itself, settled, viewed, HostIn, IsOf}
use Rattle.law_uses.proofs.Connectivity.Passing.{kept_all, passes_on, leads_on, leads_map, all_map}
use Rattle.law_uses.proofs.Connectivity.Moments.{Past, Line, Members, StandTold, Fine, fine_later, ReactionFine, reaction_later, IsGone, gone_later, Passing, PassingAll, line_later, passing_later, passing_all_later, KnownFine, Good, Ends, Any, Brings, Does, Lasting, does_bind, does_then, does_also, does_any, does_from, does_to, does_keep, does_give, does_look, brings_does, brings_bind, brings_then, brings_look, brings_give, brings_each, does_for_some, brings_some}
use Rattle.law_uses.proofs.Connectivity.Singles.{brings, brings_spend, brings_draw, brings_come, brings_message, does_tell, does_enqueue, does_out, does_open, does_alter, alters_tell, tells_posted, tells_lost, brings_lone_message}

abbrev pub GoodSettler : Past → (Name → Value Name → Act Name (Unit {0})) → Type 0
GoodSettler past settle = (p : Name) (y : Value Name) → Brings past (settle p y)

-- a target is followed
fine_on : (past : Past) (s : Vat Name) (m : Message Name) (y : Value Name) → Fine past s m → LeadsTo (Line past s) m.target y → Fine past s (record m { target = y })
fine_on past s m y h l = (h.0, leads_on (Line past s) h.0 m.target y h.1 l, h.2)

-- to each of a list, of which something is known that stays so
does_each : {A : Type 0} (past : Past) (F : A → Vat Name → Type 0) {f : A → Act Name (Unit {0})} → ((x : A) → Lasting past (F x)) → ((x : A) → Does past (F x) (Any past) (f x)) → (xs : List A) → Does past (λ s. AllOf (λ x. F x s) xs) (Any past) (each f xs)
unfolding each
does_each past F l h [] = does_give past tt
does_each past F l h (x ∷ xs) = does_then past (does_from past (λ s i. (i.1, i.0)) (does_also past (λ s. AllOf (λ y. F y s) xs) (λ s t k. all_map (λ y. F y s) (λ y. F y t) (λ y. l y s t k) xs) (h x)))
    (λ a. does_from past (λ s i. i.0) (does_each past F l h xs))

abbrev IsBroken : Value Name → Type 0
IsBroken y = (p : Words) × (y ≡ Broken p)

gone_near : (p : Words) → ◌≡◌ {A = Place Name} (Gone p) Near → ⊥
gone_near p e = cc

gone_mine : (p : Words) (n : Name) → ◌≡◌ {A = Place Name} (Gone p) (Mine n) → ⊥
gone_mine p n e = cc

gone_away : (p : Words) (h : ℕ) (n : Name) (o : Bool) → ◌≡◌ {A = Place Name} (Gone p) (Away h n o) → ⊥
gone_away p h n o e = cc

module _ (word : ℕ → ℕ) (past : Past) where
  -- ---- following

  told_entry : (s : Vat Name) (n : Name) (ks : List (Known Name)) → AllOf (KnownFine past s) ks → StandTold (Line past s) n (refs.standing_of (naming word past.home) ks n)
  unfolding refs.standing_of refs.entry_of refs.standing_in naming
  told_entry s n [] h = tt
  told_entry s n (k ∷ ks) h = either (same_reference k.name n) (λ e. subst (λ m. StandTold (Line past s) m k.standing) (reference_is k.name n e) h.0.2) (told_entry s n ks h.1)
    where
      either : (b : Bool) → (b ≡ true → StandTold (Line past s) n k.standing) → StandTold (Line past s) n (refs.standing_in (refs.entry_of (naming word past.home) ks n))
          → StandTold (Line past s) n (refs.standing_in (elim b [ true ↦ Some k | false ↦ refs.entry_of (naming word past.home) ks n ]))
      either true f r = f refl
      either false f r = r

  led_leads : (s : Vat Name) (n : Name) (x : Standing Name) (on : Value Name → Value Name) → StandTold (Line past s) n x → ((y : Value Name) → LeadsTo (Line past s) y (on y)) → LeadsTo (Line past s) (Ref n) (refs.led (naming word past.home) on n x)
  unfolding refs.led
  led_leads s n (Settled y) on h f = settled n y h (f y)
  led_leads s n (Viewed q) on h f = viewed n q h (f (Ref q))
  led_leads s n other on h f = itself

  follow_leads : (s : Vat Name) → AllOf (KnownFine past s) s.known → (d : ℕ) (x : Value Name) → LeadsTo (Line past s) x (refs.follow_at (naming word past.home) d s.known x)
  unfolding refs.follow_at
  follow_leads s h zero x = itself
  follow_leads s h (suc d) (Ref n) = led_leads s n (refs.standing_of (naming word past.home) s.known n) (λ y. refs.follow_at (naming word past.home) d s.known y) (told_entry s n s.known h) (follow_leads s h d)
  follow_leads s h (suc d) other = itself

  -- what a value is followed to: what lines lead to, or a problem
  abbrev Follows : Vat Name → Value Name → Value Name → Type 0
  Follows s x y = LeadsTo (Line past s) x y ⊎ ((n : Name) × LeadsTo (Line past s) x (Ref n) × IsGone past s n × (y ≡ Broken (codes "partition")))

  by_host : (s : Vat Name) → Good past s → (x : Value Name) (n : Name) (h : ℕ) → IsOf s h n → LeadsTo (Line past s) x (Ref n) → Follows s x (refs.severed_by (naming word past.home) h s n)
  unfolding refs.severed_by
  by_host s g x n h o l = either (is_in h s.noticed) refl
    where
      either : (b : Bool) → is_in h s.noticed ≡ b → Follows s x (elim b [ true ↦ Broken (codes "partition") | false ↦ Ref n ])
      either true e = inr (n, l, (h, g.4 h e, o), refl)
      either false e = inl l

  host_found : (s : Vat Name) (n : Name) (ks : List (Known Name)) → ((u : ℕ) → HostIn ks n u → HostIn s.known n u) → IsOf s (refs.host_at (naming word past.home) s.number ks n) n
  unfolding refs.host_at refs.host_in refs.entry_of naming
  host_found s n [] f = inr (inr refl)
  host_found s n (k ∷ ks) f = either (same_reference k.name n) refl (host_found s n ks (λ u h. f u (h.0, inr h.1, h.2, h.3)))
    where
      either : (b : Bool) → same_reference k.name n ≡ b → IsOf s (refs.host_in s.number (refs.entry_of (naming word past.home) ks n)) n → IsOf s (refs.host_in s.number (elim b [ true ↦ Some k | false ↦ refs.entry_of (naming word past.home) ks n ])) n
      either true e i = inr (inl (f k.host (k, inl refl, reference_is k.name n e, refl)))
      either false e i = i

  foreign_object : (v : ℕ) (n : Name) (h : ℕ) → spot_of v n ≡ Foreign h → (i : ℕ) × (n ≡ Object h i)
  unfolding spot_of
  foreign_object v (Object w i) h e = either (v == w) e
    where
      either : (b : Bool) → elim b [ true ↦ Own i | false ↦ Foreign w ] ≡ Foreign h → (j : ℕ) × (Object w i ≡ Object h j)
      either true f = cc
      either false f = (i, cc)
  foreign_object v other h e = cc

  at_spot : (s : Vat Name) → Good past s → (x : Value Name) (n : Name) (o : Spot) → spot_of past.home n ≡ o → LeadsTo (Line past s) x (Ref n) → Follows s x (refs.severed_at (naming word past.home) s n o)
  unfolding refs.severed_at
  at_spot s g x n (Own i) e l = inl l
  at_spot s g x n (Foreign h) e l = by_host s g x n h (inl (foreign_object past.home n h e)) l
  at_spot s g x n NoObject e l = by_host s g x n _ (host_found s n s.known (λ u h. h)) l

  severs : (s : Vat Name) → Good past s → (x y : Value Name) → LeadsTo (Line past s) x y → Follows s x (refs.severed (naming word past.home) s y)
  unfolding refs.severed naming
  severs s g x (Ref n) l = at_spot s g x n (spot_of past.home n) refl l
  severs s g x other l = inl l

  follows : (s : Vat Name) → Good past s → (x : Value Name) → Follows s x (refs.follow (naming word past.home) s x)
  unfolding refs.follow
  follows s g x = severs s g x _ (follow_leads s g.1 (suc (length s.known)) x)

  -- ---- passing

  same_problem : (t u : Words) → ◌≡◌ {A = Value Name} (Broken t) (Broken u) → t ≡ u
  same_problem t u e = cc

  plain_passes : (s : Vat Name) (x y : Value Name) → Follows s x y → ((k : ℕ) → y ≡ Items k → ⊥) → Passing past s x (Plain y)
  plain_passes s x (Broken t) (inl l) f = inl l
  plain_passes s x (Broken t) (inr h) f = inr (inl (h.0, h.1, h.2, same_problem t (codes "partition") h.3))
  plain_passes s x (Items k) l f = absurd (f k refl)
  plain_passes s x (Ref n) (inl l) f = l
  plain_passes s x Null (inl l) f = l
  plain_passes s x (Flag b) (inl l) f = l
  plain_passes s x (Number z) (inl l) f = l
  plain_passes s x (Letter c) (inl l) f = l
  plain_passes s x (Text t) (inl l) f = l
  plain_passes s x (Prim i) (inl l) f = l
  plain_passes s x other (inr h) f = let e = h.3 in cc

  list_leads : (s : Vat Name) (x : Value Name) (k : ℕ) → Follows s x (Items k) → LeadsTo (Line past s) x (Items k)
  list_leads s x k (inl l) = l
  list_leads s x k (inr h) = let e = h.3 in cc

  members_at : (s : Vat Name) (k : ℕ) → Members s k (list_at s.lists k) ⊎ (list_at s.lists k ≡ [])
  unfolding list_at
  members_at s k = either (slice_get s.lists k)
    where
      either : (o : Option (List (Value Name))) → (o ≡ Some (elim o [ Some vs ↦ vs | None ↦ [] ])) ⊎ (elim o [ Some vs ↦ vs | None ↦ [] ] ≡ [])
      either (Some vs) = inl refl
      either None = inr refl

  abbrev Room : Vat Name → ℕ → Value Name → ℕ → Option ℕ
  Room s d x room = refs.room_after (refs.follow (naming word past.home) s) s.lists d x room

  shapes_pass : (s : Vat Name) (d : ℕ) → ((x : Value Name) (room left : ℕ) → Room s d x room ≡ Some left → Passing past s x (refs.shape (naming word past.home) d s x))
      → (xs : List (Value Name)) (room left : ℕ) → refs.room_behind (Room s d) xs room ≡ Some left → PassingAll past s xs (refs.shapes (naming word past.home) (λ w. refs.shape (naming word past.home) d s w) xs)
  unfolding refs.shapes refs.room_behind
  shapes_pass s d h [] room left e = tt
  shapes_pass s d h (x ∷ xs) room left e = either (Room s d x room) refl e (λ r i. shapes_pass s d h xs r left i)
    where
      either : (o : Option ℕ) → Room s d x room ≡ o → elim o [ Some r ↦ refs.room_behind (Room s d) xs r | None ↦ None ] ≡ Some left → ((r : ℕ) → refs.room_behind (Room s d) xs r ≡ Some left → PassingAll past s xs (refs.shapes (naming word past.home) (λ w. refs.shape (naming word past.home) d s w) xs))
          → Passing past s x (refs.shape (naming word past.home) d s x) × PassingAll past s xs (refs.shapes (naming word past.home) (λ w. refs.shape (naming word past.home) d s w) xs)
      either (Some r) f i g = (h x room r f, g r i)
      either None f i g = cc

  shape_passes : (s : Vat Name) (x y : Value Name) (members : List (Value Name) → Passed Name) → Follows s x y → ((k : ℕ) → y ≡ Items k → Passing past s x (members (list_at s.lists k))) → Passing past s x (refs.shape_by (naming word past.home) members s.lists y)
  unfolding refs.shape_by
  shape_passes s x (Items k) members l f = f k refl
  shape_passes s x (Broken t) members l f = plain_passes s x (Broken t) l (λ k e. cc)
  shape_passes s x (Ref n) members l f = plain_passes s x (Ref n) l (λ k e. cc)
  shape_passes s x Null members l f = plain_passes s x Null l (λ k e. cc)
  shape_passes s x (Flag b) members l f = plain_passes s x (Flag b) l (λ k e. cc)
  shape_passes s x (Number z) members l f = plain_passes s x (Number z) l (λ k e. cc)
  shape_passes s x (Letter c) members l f = plain_passes s x (Letter c) l (λ k e. cc)
  shape_passes s x (Text t) members l f = plain_passes s x (Text t) l (λ k e. cc)
  shape_passes s x (Prim i) members l f = plain_passes s x (Prim i) l (λ k e. cc)

  -- a list for which there is room, and what is behind it
  no_height : (room left : ℕ) (o : Option ℕ) → ◌≡◌ {A = Option ℕ} (elim o [ Some r ↦ None | None ↦ None ]) (Some left) → ⊥
  no_height room left (Some r) e = cc
  no_height room left None e = cc

  some_room : (f : ℕ → Option ℕ) (left : ℕ) (o : Option ℕ) → elim o [ Some r ↦ f r | None ↦ None ] ≡ Some left → (r : ℕ) × (f r ≡ Some left)
  some_room f left (Some r) e = (r, e)
  some_room f left None e = cc

  shape_of : (s : Vat Name) → Good past s → (d : ℕ) (x : Value Name) (room left : ℕ) → Room s d x room ≡ Some left → Passing past s x (refs.shape (naming word past.home) d s x)
  unfolding refs.shape refs.room_after refs.room_by
  shape_of s g zero x room left h = shape_passes s x (refs.follow (naming word past.home) s x) (λ vs. Plain (Broken (codes "too heavy"))) (follows s g x)
      (λ k e. absurd (no_height room left (refs.take_room 1 room) (subst (λ y. refs.room_by (λ vs r. None) s.lists y room ≡ Some left) e h)))
  shape_of s g (suc d) x room left h = shape_passes s x (refs.follow (naming word past.home) s x) (λ vs. Many (refs.shapes (naming word past.home) (λ w. refs.shape (naming word past.home) d s w) vs)) (follows s g x)
      (λ k e. let r = some_room (refs.room_behind (Room s d) (list_at s.lists k)) left (refs.take_room 1 room) (subst (λ y. refs.room_by (refs.room_behind (Room s d)) s.lists y room ≡ Some left) e h) in
      (k, list_at s.lists k, list_leads s x k (subst (λ y. Follows s x y) e (follows s g x)), members_at s k, shapes_pass s d (shape_of s g d) (list_at s.lists k) r.0 left r.1))

  list_parcel : (s : Vat Name) → Good past s → (x : Value Name) (k : ℕ) → LeadsTo (Line past s) x (Items k) → (o : Option ℕ) → Room s refs.highest (Items k) refs.most ≡ o → Passing past s x (refs.parcel_of_list (naming word past.home) s (Items k) o).value
  unfolding refs.parcel_of_list refs.too_heavy
  list_parcel s g x k l (Some left) e = passes_on (Line past s) _ _ _ x (Items k) _ l (shape_of s g refs.highest (Items k) refs.most left e)
  list_parcel s g x k l None e = inr (inr (k, l, record { followed = refs.follow (naming word past.home) s; lists = s.lists; leads = follows s g; there = λ j vs i. i; heavy = e }, refl))

  parcel_passes : (s : Vat Name) → Good past s → (x y : Value Name) → Follows s x y → Passing past s x (refs.parcel_at (naming word past.home) s y).value
  unfolding refs.parcel_at
  parcel_passes s g x (Items k) l = list_parcel s g x k (list_leads s x k l) _ refl
  parcel_passes s g x (Broken t) l = plain_passes s x (Broken t) l (λ k e. cc)
  parcel_passes s g x (Ref n) l = plain_passes s x (Ref n) l (λ k e. cc)
  parcel_passes s g x Null l = plain_passes s x Null l (λ k e. cc)
  parcel_passes s g x (Flag b) l = plain_passes s x (Flag b) l (λ k e. cc)
  parcel_passes s g x (Number z) l = plain_passes s x (Number z) l (λ k e. cc)
  parcel_passes s g x (Letter c) l = plain_passes s x (Letter c) l (λ k e. cc)
  parcel_passes s g x (Text t) l = plain_passes s x (Text t) l (λ k e. cc)
  parcel_passes s g x (Prim i) l = plain_passes s x (Prim i) l (λ k e. cc)

  -- a place elsewhere is that of a name
  room_ref : (m n : Name) (w h : ℕ) (b o : Bool) → ◌≡◌ {A = Place Name} (elim b [ true ↦ Mine m | false ↦ Away w m false ]) (Away h n o) → Ref m ≡ Ref n
  room_ref m n w h true o e = cc
  room_ref m n w h false o e = cc

  spot_ref : (s : Vat Name) (m n : Name) (h : ℕ) (o : Bool) (k : Spot) → refs.spotted (naming word past.home) s m k ≡ Away h n o → Ref m ≡ Ref n
  unfolding refs.spotted refs.hosted
  spot_ref s m n h o NoObject e = room_ref m n _ h _ o e
  spot_ref s m n h o other e = cc

  away_ref : (s : Vat Name) (y : Value Name) (h : ℕ) (n : Name) (o : Bool) → refs.place (naming word past.home) s y ≡ Away h n o → y ≡ Ref n
  unfolding refs.place
  away_ref s (Ref m) h n o e = spot_ref s m n h o _ e
  away_ref s other h n o e = cc

  does_if : {A : Type 0} {P : Vat Name → Type 0} {Q : A → Vat Name → Type 0} (b : Bool) {m n : Act Name A} → Does past P Q m → Does past P Q n → Does past P Q (if b then m else n)
  does_if true h k = h
  does_if false h k = k

  lead_lasts : (x y : Value Name) → Lasting past (λ s. LeadsTo (Line past s) x y)
  lead_lasts x y s t l h = leads_map (Line past s) (Line past t) (kept_all (Line past s) (Line past t) (line_later past s t l)) x y h

  pass_lasts : (x : Value Name) (y : Passed Name) → Lasting past (λ s. Passing past s x y)
  pass_lasts x y s t l h = passing_later past s t l x y h

  -- the vat h is not this one
  abbrev OffHome : ℕ → Name → Vat Name → Type 0
  OffHome h n s = (spot_of past.home n ≡ Foreign h) ⊎ (h ≡ s.number → ⊥)

  off_lasts : (h : ℕ) (n : Name) → Lasting past (OffHome h n)
  off_lasts h n s t l (inl e) = inl e
  off_lasts h n s t l (inr f) = inr (λ e. f (e ∙ l.3))

  away_by : (s : Vat Name) (m n : Name) (g h : ℕ) (o b : Bool) → (s.number == g) ≡ b → ◌≡◌ {A = Place Name} (elim b [ true ↦ Mine m | false ↦ Away g m false ]) (Away h n o) → OffHome h n s
  away_by s m n g h o true e f = cc
  away_by s m n g h o false e f = let same : g ≡ h = cc in inr (λ i. absurd (other s.number g (sym i ∙ sym same) e))
    where
      other : (a b : ℕ) → a ≡ b → (a == b) ≡ false → ⊥
      other a b q r = let t = eq-eqb a b q in cc

  spot_off : (s : Vat Name) (m n : Name) (h : ℕ) (o : Bool) (k : Spot) → spot_of past.home m ≡ k → refs.spotted (naming word past.home) s m k ≡ Away h n o → OffHome h n s
  unfolding refs.spotted refs.hosted
  spot_off s m n h o (Own i) q e = cc
  spot_off s m n h o (Foreign w) q e = let same : m ≡ n = cc in let there : w ≡ h = cc in inl (subst (λ z. spot_of past.home z ≡ Foreign h) same (q ∙ ap Foreign there))
  spot_off s m n h o NoObject q e = away_by s m n _ h o _ refl e

  away_off : (s : Vat Name) (y : Value Name) (h : ℕ) (n : Name) (o : Bool) → refs.place (naming word past.home) s y ≡ Away h n o → OffHome h n s
  unfolding refs.place naming
  away_off s (Ref m) h n o e = spot_off s m n h o (spot_of past.home m) refl e
  away_off s other h n o e = cc

  does_away : (x y : Value Name) (w h : ℕ) (n : Name) (o : Bool) → Does past (λ s. Passing past s x (Plain y) × (LeadsTo (Line past s) x (Ref n) × OffHome h n s)) (λ z t. Passing past t x z) (refs.address_plain (naming word past.home) w y (Away h n o))
  unfolding refs.address_plain
  does_away x y w h n o = does_if (h == w) (does_from past (λ s i. i.0) (does_give past (Plain y)))
      (does_from past (λ s i. i.1) (does_bind past (does_keep past (λ s. LeadsTo (Line past s) x (Ref n) × OffHome h n s) (λ s t l j. (lead_lasts x (Ref n) s t l j.0, off_lasts h n s t l j.1)) (brings_draw word past.home past))
      (λ i. does_then past (does_from past (λ s f. (f, tt)) (does_also past (λ s. LeadsTo (Line past s) x (Ref n) × OffHome h n s) (λ s t l j. (lead_lasts x (Ref n) s t l j.0, off_lasts h n s t l j.1)) (does_open past h i n)))
      (λ a. does_from past (λ s j. (n, j.0.0, (j.1, j.0.1))) (does_give past {Q = λ z t. Passing past t x z} (AGift h i))))))

  address_fits : (x y : Value Name) (w : ℕ) (s : Vat Name) (o : Place Name) → refs.place (naming word past.home) s y ≡ o → Passing past s x (Plain y) → Good past s → Ends past s (λ z t. Passing past t x z) (refs.address_plain (naming word past.home) w y o s)
  unfolding refs.address_plain
  address_fits x y w s (Away h n o) e i g = (does_away x y w h n o).after s (i, (subst (λ z. Passing past s x (Plain z)) (away_ref s y h n o e) i, away_off s y h n o e)) g
  address_fits x y w s (Mine n) e i g = (does_then past (does_keep past (λ t. Passing past t x (Plain y)) (pass_lasts x (Plain y)) (alters_tell word past.home past w n)) (λ a. does_give past {Q = λ z t. Passing past t x z} (Plain y))).after s i g
  address_fits x y w s Near e i g = (does_give past {Q = λ z t. Passing past t x z} (Plain y)).after s i g
  address_fits x y w s (Gone t) e i g = (does_give past {Q = λ z t. Passing past t x z} (Plain y)).after s i g

  list_lasts : (k : ℕ) (vs : List (Value Name)) → Lasting past (λ s. Members s k vs ⊎ (vs ≡ []))
  list_lasts k vs s t l (inl h) = inl (l.1 k vs h)
  list_lasts k vs s t l (inr h) = inr h

  does_many : (x : Value Name) (w : ℕ) (ys : Passeds Name) (k : ℕ) (vs : List (Value Name)) → Does past (λ s. PassingAll past s vs ys) (λ zs t. PassingAll past t vs zs) (refs.address_all (naming word past.home) w ys)
      → Does past (λ s. (LeadsTo (Line past s) x (Items k) × (Members s k vs ⊎ (vs ≡ []))) × PassingAll past s vs ys) (λ z t. Passing past t x z) (refs.address_all (naming word past.home) w ys >>= λ zs. give (Many zs))
  does_many x w ys k vs h = does_bind past (does_also past (λ t. LeadsTo (Line past t) x (Items k) × (Members t k vs ⊎ (vs ≡ []))) (λ t u l j. (lead_lasts x (Items k) t u l j.0, list_lasts k vs t u l j.1)) h)
      (λ zs. does_from past (λ t j. (k, vs, j.0.0, j.0.1, j.1)) (does_give past {Q = λ z t. Passing past t x z} (Many zs)))

  mutual
    unfolding refs.address refs.address_all

    does_address : (x : Value Name) (w : ℕ) (y : Passed Name) → Does past (λ s. Passing past s x y) (λ z t. Passing past t x z) (refs.address (naming word past.home) w y)
    does_address x w (Plain y) = does_look past (λ s. refs.place (naming word past.home) s y) (refs.address_plain (naming word past.home) w y) (λ s i g. address_fits x y w s _ refl i g)
    does_address x w (AGift h i) = does_give past {Q = λ z t. Passing past t x z} (AGift h i)
    does_address x w (Many ys) = record { after = λ s i g. (does_many x w ys i.0 i.1 (does_address_all i.1 w ys)).after s ((i.2, i.3), i.4) g }

    does_address_all : (xs : List (Value Name)) (w : ℕ) (ys : Passeds Name) → Does past (λ s. PassingAll past s xs ys) (λ zs t. PassingAll past t xs zs) (refs.address_all (naming word past.home) w ys)
    does_address_all [] w NoMore = does_give past {Q = λ zs t. PassingAll past t [] zs} NoMore
    does_address_all (x ∷ xs) w (More y ys) = does_bind past (does_from past (λ s i. (i.1, i.0)) (does_also past (λ s. PassingAll past s xs ys) (λ s t l i. passing_all_later past s t l xs ys i) (does_address x w y)))
        (λ z. does_bind past (does_from past (λ s i. (i.1, i.0)) (does_also past (λ s. Passing past s x z) (pass_lasts x z) (does_address_all xs w ys)))
        (λ zs. does_give past {Q = λ us t. PassingAll past t (x ∷ xs) us} (More z zs)))
    does_address_all [] w (More y ys) = record { after = λ s i g. absurd i }
    does_address_all (x ∷ xs) w NoMore = record { after = λ s i g. absurd i }

  does_pass : (w : ℕ) (x : Value Name) → Does past (λ s. Unit {0}) (λ z t. Passing past t x z) (refs.pass (naming word past.home) w x)
  unfolding refs.pass refs.parcel
  does_pass w x = does_look past (λ s. refs.parcel (naming word past.home) s x) _ (λ s i g. from_parcel (refs.parcel (naming word past.home) s x) s (parcel_passes s g x (refs.follow (naming word past.home) s x) (follows s g x)) g)
    where
      from_parcel : (y : Parcel Name) (s : Vat Name) → Passing past s x y.value → Good past s → Ends past s (λ z t. Passing past t x z) ((spend y.weight >> refs.address (naming word past.home) w y.value) s)
      from_parcel y s i g = (does_then past (does_keep past (λ t. Passing past t x y.value) (pass_lasts x y.value) (brings_spend past y.weight)) (λ a. does_address x w y.value)).after s i g

  pub brings_pass : (w : ℕ) (x : Value Name) → Brings past (refs.pass (naming word past.home) w x)
  brings_pass w x = brings_does past (does_pass w x)

  does_pass_all : (w : ℕ) (xs : List (Value Name)) → Does past (λ s. Unit {0}) (λ ys t. PassingAll past t xs ys) (refs.pass_all (naming word past.home) w xs)
  unfolding refs.pass_all
  does_pass_all w [] = does_from past (λ s i. i) (does_give past {Q = λ ys t. PassingAll past t [] ys} NoMore)
  does_pass_all w (x ∷ xs) = does_bind past (does_pass w x) (λ y. does_bind past (does_from past (λ s i. (i, tt)) (does_also past (λ s. Passing past s x y) (pass_lasts x y) (does_pass_all w xs)))
      (λ ys. does_give past {Q = λ us t. PassingAll past t (x ∷ xs) us} (More y ys)))

  fine_lasts : (m : Message Name) → Lasting past (λ s. Fine past s m)
  fine_lasts m s t l h = fine_later past s t l m h

  reaction_lasts : (m : Message Name) → Lasting past (λ s. ReactionFine past s m)
  reaction_lasts m s t l h = reaction_later past s t l m h

  abbrev GoesTo : Message Name → Name → Vat Name → Type 0
  GoesTo m n s = Fine past s m × LeadsTo (Line past s) m.target (Ref n)

  goes_lasts : (m : Message Name) (n : Name) → Lasting past (GoesTo m n)
  goes_lasts m n s t l h = (fine_later past s t l m h.0, lead_lasts m.target (Ref n) s t l h.1)

  pub does_deliver : (m : Message Name) (answer : Option Name) (h : ℕ) (n : Name) → Does past (GoesTo m n) (Any past) (refs.deliver (naming word past.home) (record m { answer = answer }) h n)
  unfolding refs.deliver
  does_deliver m answer h n = does_bind past (does_from past (λ s i. (i, tt)) (does_also past (GoesTo m n) (goes_lasts m n) (does_pass_all h m.args)))
      (λ ys. does_then past (does_keep past (λ s. GoesTo m n s × PassingAll past s m.args ys) (λ s t l i. (goes_lasts m n s t l i.0, passing_all_later past s t l m.args ys i.1)) (tells_posted past h m.id))
      (λ a. does_to past (λ b t i. tt) (does_from past (λ s i. (m, i.0.0, refl, refl, i.0.1, i.1)) (does_out past h (Deliver (refs.delivery_of (naming word past.home) (record m { answer = answer })) n m.verb ys)
      (λ s t l i. (i.0, fine_lasts i.0 s t l i.1, i.2, i.3, lead_lasts i.0.target (Ref n) s t l i.4, passing_all_later past s t l i.0.args ys i.5))))))

  -- ---- sending on

  pub brings_wait_on : (p q : Name) → Brings past (refs.wait_on (naming word past.home) p q)
  unfolding refs.wait_on
  brings_wait_on p q = search (brings) depth 14

  does_pass_on : (m : Message Name) (h : ℕ) (n : Name) → Does past (GoesTo m n) (Any past) (refs.pass_on (naming word past.home) m h n)
  unfolding refs.pass_on
  does_pass_on m h n = does_for_some past m.answer (λ p. does_bind past (does_keep past (GoesTo m n) (goes_lasts m n) (brings_come word past.home past _ h)) (λ a. does_then past (does_deliver m (Some a) h n) (λ b. does_any past (brings_wait_on p a)))) (does_deliver m m.answer h n)

  -- a target is followed to what has that place; nothing is asked where it is broken
  abbrev ToPlace : Value Name → Value Name → Place Name → Vat Name → Type 0
  ToPlace x y (Away h n o) s = LeadsTo (Line past s) x y × (y ≡ Ref n)
  ToPlace x y (Gone t) s = Unit {0}
  ToPlace x y other s = LeadsTo (Line past s) x y

  place_lasts : (x y : Value Name) (o : Place Name) → Lasting past (ToPlace x y o)
  place_lasts x y (Away w n o) s t l h = (lead_lasts x y s t l h.0, h.1)
  place_lasts x y (Gone p) s t l h = tt
  place_lasts x y other s t l h = lead_lasts x y s t l h

  broken_place : (s : Vat Name) (x y : Value Name) (o : Place Name) → refs.place (naming word past.home) s y ≡ o → IsBroken y → ToPlace x y o s
  unfolding refs.place
  broken_place s x y (Gone t) e b = tt
  broken_place s x y Near e b = let f : refs.place (naming word past.home) s (Broken b.0) ≡ Near = subst (λ z. refs.place (naming word past.home) s z ≡ Near) b.1 e in absurd (gone_near b.0 f)
  broken_place s x y (Mine n) e b = let f : refs.place (naming word past.home) s (Broken b.0) ≡ Mine n = subst (λ z. refs.place (naming word past.home) s z ≡ Mine n) b.1 e in absurd (gone_mine b.0 n f)
  broken_place s x y (Away h n o) e b = let f : refs.place (naming word past.home) s (Broken b.0) ≡ Away h n o = subst (λ z. refs.place (naming word past.home) s z ≡ Away h n o) b.1 e in absurd (gone_away b.0 h n o f)

  at_place : (s : Vat Name) (x y : Value Name) (o : Place Name) → refs.place (naming word past.home) s y ≡ o → Follows s x y → ToPlace x y o s
  at_place s x y o e (inr b) = broken_place s x y o e (codes "partition", b.3)
  at_place s x y Near e (inl l) = l
  at_place s x y (Mine n) e (inl l) = l
  at_place s x y (Away h n o) e (inl l) = (l, away_ref s y h n o e)
  at_place s x y (Gone t) e (inl l) = tt

  follow_lasts : (x y : Value Name) → Lasting past (λ s. Follows s x y)
  follow_lasts x y s t l (inl h) = inl (lead_lasts x y s t l h)
  follow_lasts x y s t l (inr h) = inr (h.0, lead_lasts x (Ref h.0) s t l h.1, gone_later past s t l h.0 h.2, h.3)

  does_send_to : (settle : Name → Value Name → Act Name (Unit {0})) → GoodSettler past settle → (m : Message Name) (y : Value Name) (o : Place Name) → Does past (λ s. Fine past s m × ToPlace m.target y o s) (Any past) (refs.send_to (naming word past.home) settle m y o)
  unfolding refs.send_to
  does_send_to settle h m y Near = does_from past (λ s i. inl (fine_on past s m y i.0 i.1)) (does_enqueue past (record m { target = y }))
  does_send_to settle h m y (Mine n) = does_from past (λ s i. fine_on past s m y i.0 i.1) (does_alter word past.home past (Hold (record m { target = y })) n)
  does_send_to settle h m y (Away w n o) = does_from past (λ s i. (i.0, subst (λ z. LeadsTo (Line past s) m.target z) i.1.1 i.1.0)) (does_pass_on m w n)
  does_send_to settle h m y (Gone t) = does_from past (λ s i. tt) (does_any past (brings_then past (tells_lost past m.id) (brings_some past m.answer (λ a. h a (Broken t)) (brings_give past tt))))

  send_placed : (settle : Name → Value Name → Act Name (Unit {0})) → GoodSettler past settle → (m : Message Name) (y : Value Name)
      → Does past (λ s. Fine past s m × Follows s m.target y) (Any past) (look (λ s. refs.place (naming word past.home) s y) >>= λ o. refs.send_to (naming word past.home) settle m y o)
  send_placed settle h m y = does_look past _ _ (λ s i g. (does_send_to settle h m y _).after s (i.0, at_place s m.target y _ refl i.1) g)

  pub does_send_on : (settle : Name → Value Name → Act Name (Unit {0})) → GoodSettler past settle → (m : Message Name) → Does past (λ s. Fine past s m) (Any past) (refs.send_on (naming word past.home) settle m)
  unfolding refs.send_on
  does_send_on settle h m = does_look past _ _ (λ s i g. (send_placed settle h m _).after s (i, follows s g m.target) g)

  -- ---- telling

  -- an object elsewhere is one of that vat
  abbrev OffAt : Value Name → Place Name → Type 0
  OffAt y (Away h n true) = (i : ℕ) × (y ≡ Ref (Object h i))
  OffAt y other = Unit {0}

  hosted_off : (s : Vat Name) (n : Name) (h : ℕ) → OffAt (Ref n) (refs.hosted (naming word past.home) s.number n h)
  unfolding refs.hosted
  hosted_off s n h = either (s.number == h)
    where
      either : (b : Bool) → OffAt (Ref n) (elim b [ true ↦ Mine n | false ↦ Away h n false ])
      either true = tt
      either false = tt

  spotted_off : (s : Vat Name) (n : Name) → OffAt (Ref n) (refs.spotted (naming word past.home) s n (spot_of past.home n))
  unfolding refs.spotted spot_of
  spotted_off s (Object w i) = either (past.home == w)
    where
      either : (b : Bool) → OffAt (Ref (Object w i)) (refs.spotted (naming word past.home) s (Object w i) (elim b [ true ↦ Own i | false ↦ Foreign w ]))
      either true = tt
      either false = (i, refl)
  spotted_off s (Root w) = hosted_off s (Root w) _
  spotted_off s (Promise w i) = hosted_off s (Promise w i) _
  spotted_off s (Answer w m) = hosted_off s (Answer w m) _
  spotted_off s (Gift w i) = hosted_off s (Gift w i) _
  spotted_off s (Sent m) = hosted_off s (Sent m) _

  placed_off : (s : Vat Name) (y : Value Name) → OffAt y (refs.place (naming word past.home) s y)
  unfolding refs.place naming
  placed_off s (Ref n) = spotted_off s n
  placed_off s other = tt

  -- what is broken leads to nothing else
  broken_leads : (s : Vat Name) (x z : Value Name) (t : Words) → x ≡ Broken t → LeadsTo (Line past s) x z → z ≡ Broken t
  broken_leads s x z t e itself = e
  broken_leads s x z t e (settled n y l r) = cc
  broken_leads s x z t e (viewed n q l r) = cc

  not_broken : (s : Vat Name) (z : Value Name) (t : Words) → LeadsTo (Line past s) (Broken t) z → (z ≡ Broken t → ⊥) → ⊥
  not_broken s z t l f = f (broken_leads s (Broken t) z t refl l)

  -- and passes as nothing else; so does a name that is severed
  severed_plain : (s : Vat Name) (x y : Value Name) → ((n : Name) × LeadsTo (Line past s) x (Ref n) × IsGone past s n) → Passing past s (Broken (codes "partition")) (Plain y) → Passing past s x (Plain y)
  severed_plain s x (Broken t) l (inl h) = inr (inl (l.0, l.1, l.2, same_problem t (codes "partition") (broken_leads s (Broken (codes "partition")) (Broken t) (codes "partition") refl h)))
  severed_plain s x (Broken t) l (inr (inl h)) = absurd (not_broken s (Ref h.0) (codes "partition") h.1 (λ e. cc))
  severed_plain s x (Broken t) l (inr (inr h)) = absurd (not_broken s (Items h.0) (codes "partition") h.1 (λ e. cc))
  severed_plain s x (Items k) l h = absurd h
  severed_plain s x (Ref n) l h = absurd (not_broken s (Ref n) (codes "partition") h (λ e. cc))
  severed_plain s x Null l h = absurd (not_broken s Null (codes "partition") h (λ e. cc))
  severed_plain s x (Flag b) l h = absurd (not_broken s (Flag b) (codes "partition") h (λ e. cc))
  severed_plain s x (Number z) l h = absurd (not_broken s (Number z) (codes "partition") h (λ e. cc))
  severed_plain s x (Letter c) l h = absurd (not_broken s (Letter c) (codes "partition") h (λ e. cc))
  severed_plain s x (Text t) l h = absurd (not_broken s (Text t) (codes "partition") h (λ e. cc))
  severed_plain s x (Prim i) l h = absurd (not_broken s (Prim i) (codes "partition") h (λ e. cc))

  severed_passes : (s : Vat Name) (x : Value Name) (z : Passed Name) → ((n : Name) × LeadsTo (Line past s) x (Ref n) × IsGone past s n) → Passing past s (Broken (codes "partition")) z → Passing past s x z
  severed_passes s x (Plain y) l h = severed_plain s x y l h
  severed_passes s x (AGift w i) l h = absurd (not_broken s (Ref h.0) (codes "partition") h.1 (λ e. cc))
  severed_passes s x (Many ys) l h = absurd (not_broken s (Items h.0) (codes "partition") h.2 (λ e. cc))

  followed_passes : (s : Vat Name) (x y : Value Name) (z : Passed Name) → Follows s x y → Passing past s y z → Passing past s x z
  followed_passes s x y z (inl l) h = passes_on (Line past s) _ _ _ x y z l h
  followed_passes s x y z (inr e) h = severed_passes s x z (e.0, e.1, e.2) (subst (λ u. Passing past s u z) e.3 h)

  -- what a name is followed to passes, and the note tells it of the name
  does_tell_passed : (p : Name) (w : ℕ) (y : Value Name) → Does past (λ s. Follows s (Ref p) y) (Any past) (refs.pass (naming word past.home) w y >>= λ z. send_out w (SettledTo p z))
  does_tell_passed p w y = does_bind past (does_from past (λ s i. (i, tt)) (does_also past (λ s. Follows s (Ref p) y) (follow_lasts (Ref p) y) (does_pass w y)))
      (λ z. does_to past (λ b t i. tt) (does_from past (λ s i. followed_passes s (Ref p) y z i.0 i.1) (does_out past w (SettledTo p z) (pass_lasts (Ref p) z))))

  no_object : (h i : ℕ) (t : Words) → ◌≡◌ {A = Value Name} (Ref (Object h i)) (Broken t) → ⊥
  no_object h i t e = cc

  object_leads : (s : Vat Name) (x y : Value Name) (h i : ℕ) → Follows s x y → y ≡ Ref (Object h i) → LeadsTo (Line past s) x (Ref (Object h i))
  object_leads s x y h i (inl l) e = subst (λ z. LeadsTo (Line past s) x z) e l
  object_leads s x y h i (inr f) e = absurd (no_object h i (codes "partition") (sym e ∙ f.3))

  does_inform_of : (p : Name) (w : ℕ) (y : Value Name) (o : Place Name) → Does past (λ s. Follows s (Ref p) y × OffAt y o) (Any past) (refs.inform_of (naming word past.home) p w y o)
  unfolding refs.inform_of
  does_inform_of p w y (Away h n true) = does_to past (λ b t i. tt) (does_from past (λ s i. (i.1.0, object_leads s (Ref p) y h i.1.0 i.0 i.1.1))
      (does_out past w (Elsewhere p h) (λ s t l i. (i.0, lead_lasts (Ref p) (Ref (Object h i.0)) s t l i.1))))
  does_inform_of p w y other = does_from past (λ s i. i.0) (does_tell_passed p w y)

  does_inform_unless : (p : Name) (w : ℕ) (y : Value Name) (o : Place Name) (b : Bool) → Does past (λ s. Follows s (Ref p) y × OffAt y o) (Any past) (if b then give tt else refs.inform_of (naming word past.home) p w y o)
  does_inform_unless p w y o true = does_from past (λ s i. tt) (does_any past (brings_give past tt))
  does_inform_unless p w y o false = does_inform_of p w y o

  pub brings_inform : (p : Name) (w : ℕ) → Brings past (refs.inform (naming word past.home) p w)
  unfolding refs.inform ◌>>=◌ look and_then
  brings_inform p w = record { after = λ s g. (does_inform_unless p w (refs.follow (naming word past.home) s (Ref p)) (refs.place (naming word past.home) s (refs.follow (naming word past.home) s (Ref p))) (is_in w s.noticed)).after s (follows s g (Ref p), placed_off s _) g }

  -- ---- settling

  abbrev HasFine : Known Name → Vat Name → Type 0
  HasFine k s = AllOf (Fine past s) k.held × AllOf (ReactionFine past s) k.reactions

  has_lasts : (k : Known Name) → Lasting past (HasFine k)
  has_lasts k s t l h = (all_map (Fine past s) (Fine past t) (fine_later past s t l) k.held h.0, all_map (ReactionFine past s) (ReactionFine past t) (reaction_later past s t l) k.reactions h.1)

  does_settle_known : (settle : Name → Value Name → Act Name (Unit {0})) → GoodSettler past settle → (p : Name) (y : Value Name) (k : Known Name) → Does past (HasFine k) (Any past) (refs.settle_known (naming word past.home) settle p y k)
  unfolding refs.settle_known
  does_settle_known settle h p y k = does_then past (does_from past (λ s f. (f, tt)) (does_also past (HasFine k) (has_lasts k) (does_tell past (Settles p y) tt)))
      (λ a. does_then past (does_from past (λ s i. (i.0, inr i.1)) (does_also past (HasFine k) (has_lasts k) (does_alter word past.home past (Settle y) p)))
      (λ b. does_then past (does_from past (λ s i. (i.0, i.0.0)) (does_also past (HasFine k) (has_lasts k) (does_each past (λ m s. Fine past s m) fine_lasts (does_send_on settle h) k.held)))
      (λ c. does_then past (does_from past (λ s i. i.0) (does_keep past (HasFine k) (has_lasts k) (brings_each past k.waiting (λ q. h q y))))
      (λ d. does_then past (does_from past (λ s i. i.1) (does_each past (λ m s. ReactionFine past s m) reaction_lasts (λ m. does_from past (λ s j. inr j) (does_enqueue past m)) k.reactions))
      (λ e. does_any past (brings_each past k.told (brings_inform p)))))))

  does_settle_standing : (settle : Name → Value Name → Act Name (Unit {0})) → GoodSettler past settle → (p : Name) (y : Value Name) (k : Known Name) (x : Standing Name) → Does past (HasFine k) (Any past) (refs.settle_standing (naming word past.home) settle p y k x)
  unfolding refs.settle_standing
  does_settle_standing settle h p y k (Settled z) = does_from past (λ s i. tt) (does_any past (brings_give past tt))
  does_settle_standing settle h p y k other = does_settle_known settle h p y k

  abbrev EntryFine : Option (Known Name) → Vat Name → Type 0
  EntryFine None s = Unit {0}
  EntryFine (Some k) s = HasFine k s

  does_settle_entry : (settle : Name → Value Name → Act Name (Unit {0})) → GoodSettler past settle → (p : Name) (y : Value Name) (o : Option (Known Name)) → Does past (EntryFine o) (Any past) (refs.settle_entry (naming word past.home) settle p y o)
  unfolding refs.settle_entry
  does_settle_entry settle h p y None = does_any past (brings_give past tt)
  does_settle_entry settle h p y (Some k) = does_settle_standing settle h p y k k.standing

  entry_fine : (s : Vat Name) (n : Name) (ks : List (Known Name)) → AllOf (KnownFine past s) ks → EntryFine (refs.entry_of (naming word past.home) ks n) s
  unfolding refs.entry_of
  entry_fine s n [] h = tt
  entry_fine s n (k ∷ ks) h = either ((naming word past.home).same k.name n) (entry_fine s n ks h.1)
    where
      either : (b : Bool) → EntryFine (refs.entry_of (naming word past.home) ks n) s → EntryFine (elim b [ true ↦ Some k | false ↦ refs.entry_of (naming word past.home) ks n ]) s
      either true i = (h.0.0, h.0.1)
      either false i = i

  brings_settle_one : (settle : Name → Value Name → Act Name (Unit {0})) → GoodSettler past settle → (p : Name) (x : Value Name) → Brings past (refs.settle_one (naming word past.home) settle p x)
  unfolding refs.settle_one
  brings_settle_one settle h p x = brings_bind past (brings_look past _) (λ y. brings_does past (does_look past (λ s. refs.entry_of (naming word past.home) s.known p) _ (λ s i g. (does_settle_entry settle h p y _).after s (entry_fine s p s.known g.1) g)))

  pub brings_settle_at : (d : ℕ) (p : Name) (y : Value Name) → Brings past (refs.settle_at (naming word past.home) d p y)
  unfolding refs.settle_at
  brings_settle_at zero p y = search (brings)
  brings_settle_at (suc d) p y = brings_settle_one (λ q z. refs.settle_at (naming word past.home) d q z) (λ q z. brings_settle_at d q z) p y

  pub brings_settle : (p : Name) (y : Value Name) → Brings past (refs.settle (naming word past.home) p y)
  unfolding refs.settle
  brings_settle p y = search (brings, brings_settle_at) depth 14

  pub brings_wait_unless_cycle : (p q : Name) → Brings past (refs.wait_unless_cycle (naming word past.home) p q)
  unfolding refs.wait_unless_cycle
  brings_wait_unless_cycle p q = search (brings, brings_settle, brings_wait_on) depth 14

  pub brings_resolve_to : (p : Name) (y : Value Name) (o : Place Name) → Brings past (refs.resolve_to (naming word past.home) p y o)
  unfolding refs.resolve_to
  brings_resolve_to p y (Mine q) = search (brings, brings_wait_unless_cycle) depth 14
  brings_resolve_to p y (Away h q false) = search (brings, brings_wait_unless_cycle) depth 14
  brings_resolve_to p y _ = search (brings, brings_settle) depth 14

  pub brings_resolve : (p : Name) (x : Value Name) → Brings past (refs.resolve (naming word past.home) p x)
  unfolding refs.resolve
  brings_resolve p x = search (brings, brings_resolve_to) depth 14

  -- ---- sending and reacting

  gone_sent : (m : Message Name) (y : Value Name) (t : Words) → Brings past (refs.send_first (naming word past.home) m y (Gone t))
  unfolding refs.send_first refs.send_to
  gone_sent m y t = brings_then past (tells_lost past m.id) (brings_some past m.answer (λ a. brings_settle a (Broken t)) (brings_give past tt))

  does_send_first : (m : Message Name) (x y : Value Name) (o : Place Name) → Does past (λ s. Fine past s (record m { target = x }) × ToPlace x y o s) (Any past) (refs.send_first (naming word past.home) (record m { target = y }) y o)
  unfolding refs.send_first
  does_send_first m x y (Away h n o) = does_from past (λ s i. (fine_on past s (record m { target = x }) y i.0 i.1.0, subst (λ z. LeadsTo (Line past s) y z) i.1.1 itself)) (does_deliver (record m { target = y }) m.answer h n)
  does_send_first m x y Near = does_from past (λ s i. (fine_on past s (record m { target = x }) y i.0 i.1, itself)) (does_send_to (refs.settle (naming word past.home)) brings_settle (record m { target = y }) y Near)
  does_send_first m x y (Mine n) = does_from past (λ s i. (fine_on past s (record m { target = x }) y i.0 i.1, itself)) (does_send_to (refs.settle (naming word past.home)) brings_settle (record m { target = y }) y (Mine n))
  does_send_first m x y (Gone t) = does_from past (λ s i. tt) (does_any past (gone_sent (record m { target = y }) y t))

  does_sends : (act : ℕ) (x y : Value Name) (o : Place Name) (verb : Words) (args : List (Value Name)) (id : Name) (n : Option Name) (z : Value Name) → Does past (ToPlace x y o) (Any past)
      (tell (Sends act (record { id = id; target = x; verb = verb; args = args; answer = n })) >> (refs.send_first (naming word past.home) (record { id = id; target = y; verb = verb; args = args; answer = n }) y o >> give z))
  does_sends act x y o verb args id n z = does_then past (does_from past (λ s i. (i, tt)) (does_also past (ToPlace x y o) (place_lasts x y o) (does_tell past (Sends act (record { id = id; target = x; verb = verb; args = args; answer = n })) tt)))
      (λ a. does_then past (does_from past (λ s i. ((x, itself, inl (act, i.1)), i.0)) (does_send_first (record { id = id; target = x; verb = verb; args = args; answer = n }) x y o)) (λ b. does_any past (brings_give past z)))

  does_numbered : (act : ℕ) (x y : Value Name) (o : Place Name) (verb : Words) (args : List (Value Name)) (u : ℕ) → Does past (ToPlace x y o) (Any past)
      (new_message (naming word past.home) u >>= λ new. tell (Sends act (record { id = new.0; target = x; verb = verb; args = args; answer = Some new.1 })) >> (refs.send_first (naming word past.home) (record { id = new.0; target = y; verb = verb; args = args; answer = Some new.1 }) y o >> give (Ref new.1)))
  does_numbered act x y o verb args u = does_bind past (does_keep past (ToPlace x y o) (place_lasts x y o) (brings_message word past.home past u)) (λ new. does_sends act x y o verb args new.0 (Some new.1) (Ref new.1))

  pub brings_send : (act : ℕ) (x : Value Name) (verb : Words) (args : List (Value Name)) → Brings past (refs.send (naming word past.home) act x verb args)
  unfolding refs.send
  brings_send act x verb args = record {
    after = λ s g. (does_look past {P = λ t. Unit {0}} _ _ (λ s i g. (does_look past {P = λ t. Follows t x (refs.follow (naming word past.home) s x)} _ _ (λ t j k. (does_look past {P = ToPlace x (refs.follow (naming word past.home) s x) (refs.place (naming word past.home) t (refs.follow (naming word past.home) s x))} _ _
        (λ u a b. (does_numbered act x _ _ verb args _).after u a b)).after t (at_place t x _ _ refl j) k)).after s (follows s g x) g)).after s tt g;
  }

  does_lone : (act : ℕ) (x y : Value Name) (o : Place Name) (verb : Words) (args : List (Value Name)) → Does past (ToPlace x y o) (Any past)
      (new_lone_message (naming word past.home) >>= λ id. tell (Sends act (record { id = id; target = x; verb = verb; args = args; answer = None })) >> (refs.send_first (naming word past.home) (record { id = id; target = y; verb = verb; args = args; answer = None }) y o >> give {A = Value Name} Null))
  does_lone act x y o verb args = does_bind past (does_keep past (ToPlace x y o) (place_lasts x y o) (brings_lone_message word past.home past)) (λ id. does_sends act x y o verb args id None Null)

  pub brings_send_only : (act : ℕ) (x : Value Name) (verb : Words) (args : List (Value Name)) → Brings past (refs.send_only (naming word past.home) act x verb args)
  unfolding refs.send_only
  brings_send_only act x verb args = record {
    after = λ s g. (does_look past {P = λ t. Unit {0}} _ _ (λ s i g. (does_look past {P = λ t. Follows t x (refs.follow (naming word past.home) s x)} _ _ (λ t j k.
        (does_lone act x _ _ verb args).after t (at_place t x _ _ refl j) k)).after s (follows s g x) g)).after s tt g;
  }

  does_react_at : (m : Message Name) (o : Place Name) → Does past (λ s. ReactionFine past s m) (Any past) (refs.react_at (naming word past.home) m o)
  unfolding refs.react_at
  does_react_at m (Mine n) = does_alter word past.home past (React m) n
  does_react_at m (Away h n false) = does_alter word past.home past (React m) n
  does_react_at m other = does_from past (λ s i. inr i) (does_enqueue past m)

  reaction_fine : (s : Vat Name) (act : ℕ) (x o near : Value Name) (id n : Name) → IsAmong (Reacts act x o (refs.reaction (naming word past.home) id near x n)) s.happened → ReactionFine past s (refs.reaction (naming word past.home) id near x n)
  unfolding refs.reaction
  reaction_fine s act x o near id n i = inl (act, x, o, n, refl, refl, i)

  does_reacts : (m : Message Name) (o : Place Name) (n : Name) → Does past (λ s. ReactionFine past s m) (Any past) (refs.react_at (naming word past.home) m o >> give (Ref n))
  does_reacts m o n = does_then past (does_react_at m o) (λ b. does_any past (brings_give past (Ref n)))

  pub brings_react : (act : ℕ) (x o near : Value Name) → Brings past (refs.react (naming word past.home) act x o near)
  unfolding refs.react
  brings_react act x o near = brings_bind past (brings_look past _) (λ u. brings_bind past (brings_message word past.home past u) (λ new.
      brings_does past (does_then past (does_tell past (Reacts act x o (refs.reaction (naming word past.home) new.0 near x new.1)) tt)
      (λ a. does_look past _ _ (λ s i g. (does_reacts (refs.reaction (naming word past.home) new.0 near x new.1) _ new.1).after s (reaction_fine s act x o near new.0 new.1 i) g)))))

pub ruleset brings_refs = (brings, brings_pass, brings_wait_on, brings_inform, brings_settle_at, brings_settle, brings_wait_unless_cycle, brings_resolve_to, brings_resolve, brings_send, brings_send_only, brings_react)
