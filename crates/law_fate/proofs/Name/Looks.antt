-- What is looked at in a sound state.
use Rattle.std.proofs.Common.{◌≡◌, ℕ, zero, suc, Bool, true, false, List, [], ◌∷◌, Option, Some, None, length, refl, subst}
use Rattle.std.specs.Prelude.{slice_get}
use Rattle.def_machine.specs.Values.{Words, Value, Broken, Items, Ref, Naming, Spot, Own, Foreign, NoObject}
use Rattle.def_machine.specs.State.{Message, Standing, Viewed, Settled, Known, Passed, Passeds, Plain, AGift, Many, NoMore, More, Deliver, Open, Ask, SettledTo, Elsewhere, Shorten, GiftEntry, Vat, Act, each, look, is_in, is_gift, Delivery}
use Rattle.def_machine.specs.Refs as refs
use Rattle.def_machine.specs.Refs.{Place, Away}
use Rattle.def_machine.specs.Arrive as arrive
use Rattle.def_machine.specs.Native.{list_at}
use Rattle.law_fate.specs.Name.Names.{Bit, Named, AllOf, ValueOk, ValuesOk, StandingOk, KnownOk, CellOk, ThingOk, GiftOk, PassedOk, PassedsOk}
use Rattle.law_fate.proofs.Name.Facts.{MayBe, PlaceOk, Fact, Also, IsName, IsMail, IsDraw, IsVat, IsOff, IsEntry, IsGiven, AreEntries, AreTold, MayEntry, NoteGoes, IsValue, AreValues, IsMessage, AreMessages, IsKnown, AreKnown, IsGiftEntry, AreGifts, IsPlace, MayCell, MayThing, MayGift, DoesPass, DoAllPass, NoteDoes, parcel, nothing}
use Rattle.law_fate.proofs.Name.Care.{Care, Spots, Gets, Fine, fine_sees, fine_then, fine_give, got_nothing}

pub get_all : {A : Type 0} (P : A → Type 0) (xs : List A) (n : ℕ) → AllOf P xs → MayBe P (slice_get xs n)
get_all P [] n h = tt
get_all P (x ∷ xs) zero h = h.0
get_all P (x ∷ xs) (suc n) h = get_all P xs n h.1

in_option : {N : Type 0} (P : Bit N → Type 0) (o : Option (List (Value N))) → MayBe (ValuesOk P) o → ValuesOk P (elim o [ Some vs ↦ vs | None ↦ [] ])
in_option P (Some vs) h = h
in_option P None h = tt

pub list_at_ok : {N : Type 0} (P : Bit N → Type 0) (ms : List (List (Value N))) (k : ℕ) → AllOf (ValuesOk P) ms → ValuesOk P (list_at ms k)
unfolding list_at
list_at_ok P ms k h = in_option P (slice_get ms k) (get_all (ValuesOk P) ms k h)

either_gift : {N : Type 0} (P : Bit N → Type 0) (b : Bool) (g : GiftEntry N) (o : Option (GiftEntry N)) → GiftOk P g → MayBe (GiftOk P) o → MayBe (GiftOk P) (elim b [ true ↦ Some g | false ↦ o ])
either_gift P true g o h i = h
either_gift P false g o h i = i

pub gift_at_ok : {N : Type 0} (P : Bit N → Type 0) (p i : ℕ) (gs : List (GiftEntry N)) → AllOf (GiftOk P) gs → MayBe (GiftOk P) (arrive.gift_at p i gs)
unfolding arrive.gift_at
gift_at_ok P p i [] h = tt
gift_at_ok P p i (g ∷ gs) h = either_gift P (is_gift p i g) g (arrive.gift_at p i gs) h.0 (gift_at_ok P p i gs h.1)

module _ {N W : Type 0} (K : Naming N W) (P : Bit N → Type 0) where
  -- ---- following

  either_known : (b : Bool) (k : Known N) (o : Option (Known N)) → KnownOk P k → MayBe (KnownOk P) o → MayBe (KnownOk P) (elim b [ true ↦ Some k | false ↦ o ])
  either_known true k o h i = h
  either_known false k o h i = i

  pub entry_ok : (ks : List (Known N)) (n : N) → AllOf (KnownOk P) ks → MayBe (KnownOk P) (refs.entry_of K ks n)
  unfolding refs.entry_of
  entry_ok [] n h = tt
  entry_ok (k ∷ ks) n h = either_known (K.same k.name n) k (refs.entry_of K ks n) h.0 (entry_ok ks n h.1)

  standing_ok : (o : Option (Known N)) → MayBe (KnownOk P) o → StandingOk P (refs.standing_in o)
  unfolding refs.standing_in
  standing_ok (Some k) h = h.1
  standing_ok None h = tt

  led_ok : (on : Value N → Value N) (n : N) (x : Standing N) → ((y : Value N) → ValueOk P y → ValueOk P (on y)) → P (Named n) → StandingOk P x → ValueOk P (refs.led K on n x)
  unfolding refs.led
  led_ok on n (Settled y) f g h = f y h
  led_ok on n (Viewed q) f g h = f (Ref q) h
  led_ok on n other f g h = g

  follow_at_ok : (d : ℕ) (ks : List (Known N)) (x : Value N) → AllOf (KnownOk P) ks → ValueOk P x → ValueOk P (refs.follow_at K d ks x)
  unfolding refs.follow_at refs.standing_of
  follow_at_ok zero ks x h i = i
  follow_at_ok (suc d) ks (Ref n) h i = led_ok (λ y. refs.follow_at K d ks y) n (refs.standing_of K ks n) (λ y j. follow_at_ok d ks y h j) i (standing_ok (refs.entry_of K ks n) (entry_ok ks n h))
  follow_at_ok (suc d) ks other h i = tt

  by_ok : (n : N) (b : Bool) (t : Words) → P (Named n) → ValueOk P (elim b [ true ↦ Broken t | false ↦ Ref n ])
  by_ok n true t h = tt
  by_ok n false t h = h

  at_ok : (s : Vat N) (n : N) (p : Spot) → P (Named n) → ValueOk P (refs.severed_at K s n p)
  unfolding refs.severed_at refs.severed_by
  at_ok s n (Own i) h = h
  at_ok s n (Foreign w) h = by_ok n (is_in w s.noticed) _ h
  at_ok s n NoObject h = by_ok n (is_in (refs.host_at K s.number s.known n) s.noticed) _ h

  severed_ok : (s : Vat N) (x : Value N) → ValueOk P x → ValueOk P (refs.severed K s x)
  unfolding refs.severed
  severed_ok s (Ref n) h = at_ok s n (K.spot n) h
  severed_ok s other h = tt

  pub follow_ok : (s : Vat N) → AllOf (KnownOk P) s.known → (x : Value N) → ValueOk P x → ValueOk P (refs.follow K s x)
  unfolding refs.follow
  follow_ok s h x i = severed_ok s (refs.follow_at K (suc (length s.known)) s.known x) (follow_at_ok (suc (length s.known)) s.known x h i)

  pub place_ok : (s : Vat N) → ((n : N) → P (Named n) → PlaceOk P (refs.spotted K s n (K.spot n))) → (y : Value N) → ValueOk P y → PlaceOk P (refs.place K s y)
  unfolding refs.place
  place_ok s f (Ref n) h = f n h
  place_ok s f other h = tt

  -- ---- passing

  module _ (s : Vat N) (known : AllOf (KnownOk P) s.known) (lists : AllOf (ValuesOk P) s.lists) where
    shape_by_ok : (f : List (Value N) → Passed N) (y : Value N) → ValueOk P y → ((vs : List (Value N)) → ValuesOk P vs → PassedOk P (f vs)) → PassedOk P (refs.shape_by K f s.lists y)
    unfolding refs.shape_by
    shape_by_ok f (Items k) i h = h (list_at s.lists k) (list_at_ok P s.lists k lists)
    shape_by_ok f (Ref n) i h = i
    shape_by_ok f other i h = tt

    shapes_ok : (f : Value N → Passed N) (vs : List (Value N)) → ValuesOk P vs → ((v : Value N) → ValueOk P v → PassedOk P (f v)) → PassedsOk P (refs.shapes K f vs)
    unfolding refs.shapes
    shapes_ok f [] i h = tt
    shapes_ok f (v ∷ vs) i h = (h v i.0, shapes_ok f vs i.1 h)

    shape_ok : (d : ℕ) (x : Value N) → ValueOk P x → PassedOk P (refs.shape K d s x)
    unfolding refs.shape
    shape_ok zero x i = shape_by_ok _ (refs.follow K s x) (follow_ok s known x i) (λ vs h. tt)
    shape_ok (suc d) x i = shape_by_ok _ (refs.follow K s x) (follow_ok s known x i) (λ vs h. shapes_ok (λ v. refs.shape K d s v) vs h (λ v k. shape_ok d v k))

    of_list_ok : (x : Value N) (o : Option ℕ) → ValueOk P x → PassedOk P (refs.parcel_of_list K s x o).value
    unfolding refs.parcel_of_list refs.too_heavy
    of_list_ok x (Some left) i = shape_ok refs.highest x i
    of_list_ok x None i = tt

    parcel_at_ok : (y : Value N) → ValueOk P y → PassedOk P (refs.parcel_at K s y).value
    unfolding refs.parcel_at
    parcel_at_ok (Items k) i = of_list_ok (Items k) _ tt
    parcel_at_ok (Ref n) i = i
    parcel_at_ok other i = tt

    pub parcel_ok : (x : Value N) → ValueOk P x → PassedOk P (refs.parcel K s x).value
    unfolding refs.parcel
    parcel_ok x i = parcel_at_ok (refs.follow K s x) (follow_ok s known x i)

  -- ---- settling

  cut_ok : (b : Bool) (y : Value N) → ValueOk P y → ValueOk P (refs.cut_cycle K b y)
  unfolding refs.cut_cycle
  cut_ok true y h = tt
  cut_ok false y h = h

  pub target_ok : (s : Vat N) (p : N) (x : Value N) → ValueOk P x → ValueOk P (refs.target_of K s p x)
  unfolding refs.target_of
  target_ok s p (Items k) h = cut_ok (refs.reaches K (suc (length s.lists)) s p (Items k)) (Items k) tt
  target_ok s p (Ref n) h = h
  target_ok s p other h = tt

module _ {N : Type 0} (S : Care N) where
  pub look_list : {C : Fact N} (k : ℕ) → Fine S C (look (λ s. list_at s.lists k)) AreValues
  look_list k = fine_sees S (λ s. list_at s.lists k) AreValues (λ s h c. list_at_ok (S.ok s) s.lists k h.parts.lists)

  pub look_cell : {C : Fact N} (k : ℕ) → Fine S C (look (λ s. slice_get s.slots k)) MayCell
  look_cell k = fine_sees S (λ s. slice_get s.slots k) MayCell (λ s h c. get_all (CellOk (S.ok s)) s.slots k h.parts.slots)

  pub look_thing : {C : Fact N} (i : ℕ) → Fine S C (look (λ s. slice_get s.things i)) MayThing
  look_thing i = fine_sees S (λ s. slice_get s.things i) MayThing (λ s h c. get_all (ThingOk (S.ok s)) s.things i h.parts.things)

  pub look_gift : {C : Fact N} (p i : ℕ) → Fine S C (look (λ s. arrive.gift_at p i s.gifts)) MayGift
  look_gift p i = fine_sees S (λ s. arrive.gift_at p i s.gifts) MayGift (λ s h c. gift_at_ok (S.ok s) p i s.gifts h.parts.gifts)

  pub look_known : {C : Fact N} → Fine S C (look (λ s. s.known)) AreKnown
  look_known = fine_sees S (λ s. s.known) AreKnown (λ s h c. h.parts.known)

  pub look_gifts : {C : Fact N} → Fine S C (look (λ s. s.gifts)) AreGifts
  look_gifts = fine_sees S (λ s. s.gifts) AreGifts (λ s h c. h.parts.gifts)

  pub each_message : {C : Fact N} {f : Message N → Act N (Unit {0})} (ms : List (Message N)) → Gets S C (AreMessages ms) → ((m : Message N) → Fine S (Also C (IsMessage m)) (f m) nothing) → Fine S C (each f ms) nothing
  unfolding each
  each_message {C = C} [] g h = fine_give S tt (got_nothing S C)
  each_message {C = C} {f = f} (m ∷ ms) g h = fine_then S nothing first (each_message ms (record { at = λ s c. (g.at s c).1 }) h)
    where
      first : Fine S C (f m) nothing
      first = record { after = λ s i c. (h m).after s i (c, (g.at s c).0) }

  pub each_entry : {C : Fact N} {f : N → Act N (Unit {0})} (ns : List N) → Gets S C (AreEntries ns) → ((n : N) → Fine S (Also C (IsEntry n)) (f n) nothing) → Fine S C (each f ns) nothing
  unfolding each
  each_entry {C = C} [] g h = fine_give S tt (got_nothing S C)
  each_entry {C = C} {f = f} (n ∷ ns) g h = fine_then S nothing first (each_entry ns (record { at = λ s c. (g.at s c).1 }) h)
    where
      first : Fine S C (f n) nothing
      first = record { after = λ s i c. (h n).after s i (c, (g.at s c).0) }

  -- of each vat that is to be told of a name, with that name in hand
  pub each_told : {C : Fact N} {f : ℕ → Act N (Unit {0})} (p : N) (ws : List ℕ) → Gets S C (AreTold p ws) → ((w : ℕ) → Fine S (Also C (IsName p)) (f w) nothing) → Fine S C (each f ws) nothing
  unfolding each
  each_told {C = C} p [] g h = fine_give S tt (got_nothing S C)
  each_told {C = C} {f = f} p (w ∷ ws) g h = fine_then S nothing first (each_told p ws (record { at = λ s c. (g.at s c).1 }) h)
    where
      first : Fine S C (f w) nothing
      first = record { after = λ s i c. (h w).after s i (c, (g.at s c).0) }

  pub each_known : {C : Fact N} {f : Known N → Act N (Unit {0})} (ks : List (Known N)) → Gets S C (AreKnown ks) → ((k : Known N) → Fine S (Also C (IsKnown k)) (f k) nothing) → Fine S C (each f ks) nothing
  unfolding each
  each_known {C = C} [] g h = fine_give S tt (got_nothing S C)
  each_known {C = C} {f = f} (k ∷ ks) g h = fine_then S nothing first (each_known ks (record { at = λ s c. (g.at s c).1 }) h)
    where
      first : Fine S C (f k) nothing
      first = record { after = λ s i c. (h k).after s i (c, (g.at s c).0) }

  pub each_gift : {C : Fact N} {f : GiftEntry N → Act N (Unit {0})} (gs : List (GiftEntry N)) → Gets S C (AreGifts gs) → ((g : GiftEntry N) → Fine S (Also C (IsGiftEntry g)) (f g) nothing) → Fine S C (each f gs) nothing
  unfolding each
  each_gift {C = C} [] g h = fine_give S tt (got_nothing S C)
  each_gift {C = C} {f = f} (k ∷ ks) g h = fine_then S nothing first (each_gift ks (record { at = λ s c. (g.at s c).1 }) h)
    where
      first : Fine S C (f k) nothing
      first = record { after = λ s i c. (h k).after s i (c, (g.at s c).0) }

  pub got_plain : (C : Fact N) (y : Value N) → Gets S C (IsValue y) → Gets S C (DoesPass (Plain y))
  got_plain C y g = record { at = λ s c. g.at s c }

  pub got_gift : (C : Fact N) (h i : ℕ) → Gets S C (IsVat h) → Gets S C (IsDraw i) → Gets S C (DoesPass (AGift h i))
  got_gift C h i k g = record { at = λ s c. (k.at s c, g.at s c) }

  pub got_many : (C : Fact N) (ys : Passeds N) → Gets S C (DoAllPass ys) → Gets S C (DoesPass (Many ys))
  got_many C ys g = record { at = λ s c. g.at s c }

  pub got_no_more : (C : Fact N) → Gets S C (DoAllPass NoMore)
  got_no_more C = record { at = λ s c. tt }

  pub got_one_more : (C : Fact N) (y : Passed N) (ys : Passeds N) → Gets S C (DoesPass y) → Gets S C (DoAllPass ys) → Gets S C (DoAllPass (More y ys))
  got_one_more C y ys g k = record { at = λ s c. (g.at s c, k.at s c) }

  pub note_deliver : (C : Fact N) (d : Delivery N) (n : N) (verb : Words) (ys : Passeds N) → Gets S C (IsMail d.message) → Gets S C (IsName n) → Gets S C (DoAllPass ys) → Gets S C (NoteDoes (Deliver d n verb ys))
  note_deliver C d n verb ys i k g = record { at = λ s c. (i.at s c, k.at s c, g.at s c) }

  pub note_open : (C : Fact N) (i : ℕ) (n : N) → Gets S C (IsDraw i) → Gets S C (IsName n) → Gets S C (NoteDoes (Open i n))
  note_open C i n g k = record { at = λ s c. (g.at s c, k.at s c) }

  pub note_ask : (C : Fact N) (p i : ℕ) (n : N) → Gets S C (IsGiven i) → Gets S C (IsName n) → Gets S C (NoteDoes (Ask p i n))
  note_ask C p i n g k = record { at = λ s c. (g.at s c, k.at s c) }

  pub note_settled : (C : Fact N) (n : N) (y : Passed N) → Gets S C (IsName n) → Gets S C (DoesPass y) → Gets S C (NoteDoes (SettledTo n y))
  note_settled C n y k g = record { at = λ s c. (k.at s c, g.at s c) }

  pub note_elsewhere : (C : Fact N) (n : N) (h : ℕ) → Gets S C (IsName n) → Gets S C (IsVat h) → Gets S C (NoteDoes (Elsewhere n h))
  note_elsewhere C n h g k = record { at = λ s c. (g.at s c, k.at s c) }

  pub goes_deliver : (C : Fact N) (to : ℕ) (d : Delivery N) (n : N) (verb : Words) (ys : Passeds N) → Gets S C (IsOff to) → Gets S C (NoteGoes to (Deliver d n verb ys))
  goes_deliver C to d n verb ys g = record { at = λ s c. g.at s c }

  pub goes_open : (C : Fact N) (to i : ℕ) (n : N) → Gets S C (NoteGoes to (Open i n))
  goes_open C to i n = record { at = λ s c. tt }

  pub goes_ask : (C : Fact N) (to p i : ℕ) (n : N) → Gets S C (NoteGoes to (Ask p i n))
  goes_ask C to p i n = record { at = λ s c. tt }

  pub goes_settled : (C : Fact N) (to : ℕ) (n : N) (y : Passed N) → Gets S C (NoteGoes to (SettledTo n y))
  goes_settled C to n y = record { at = λ s c. tt }

  pub goes_elsewhere : (C : Fact N) (to : ℕ) (n : N) (h : ℕ) → Gets S C (NoteGoes to (Elsewhere n h))
  goes_elsewhere C to n h = record { at = λ s c. tt }

  pub goes_shorten : (C : Fact N) (to : ℕ) (n : N) (h i : ℕ) → Gets S C (NoteGoes to (Shorten n h i))
  goes_shorten C to n h i = record { at = λ s c. tt }

  pub look_number : {C : Fact N} → Fine S C (look (λ s. s.number)) IsVat
  look_number = fine_sees S (λ s. s.number) IsVat (λ s h c. S.here s h.more)

  pub got_answer_host : {W : Type 0} (K : Naming N W) (C : Fact N) (v : ℕ) (p : Place N) → Gets S C (IsVat v) → Gets S C (IsPlace p) → Gets S C (IsVat (refs.answer_host K v p))
  unfolding refs.answer_host
  got_answer_host K C v (Away h n o) g k = record { at = λ s c. S.near s h (k.at s c).1 }
  got_answer_host K C v other g k = g

  pub note_shorten : (C : Fact N) (n : N) (h i : ℕ) → Gets S C (IsName n) → Gets S C (IsDraw i) → Gets S C (NoteDoes (Shorten n h i))
  note_shorten C n h i g k = record { at = λ s c. (g.at s c, k.at s c) }

module _ {N W : Type 0} (K : Naming N W) (S : Care N) where
  pub look_follow : {C : Fact N} (x : Value N) → Gets S C (IsValue x) → Fine S C (look (λ s. refs.follow K s x)) IsValue
  look_follow x g = fine_sees S (λ s. refs.follow K s x) IsValue (λ s h c. follow_ok K (S.ok s) s h.parts.known x (g.at s c))

  pub look_target : {C : Fact N} (p : N) (x : Value N) → Gets S C (IsValue x) → Fine S C (look (λ s. refs.target_of K s p x)) IsValue
  look_target p x g = fine_sees S (λ s. refs.target_of K s p x) IsValue (λ s h c. target_ok K (S.ok s) s p x (g.at s c))

  pub look_parcel : {C : Fact N} (x : Value N) → Gets S C (IsValue x) → Fine S C (look (λ s. refs.parcel K s x)) parcel
  look_parcel x g = fine_sees S (λ s. refs.parcel K s x) parcel (λ s h c. parcel_ok K (S.ok s) s h.parts.known h.parts.lists x (g.at s c))

module _ {N W : Type 0} (K : Naming N W) (S : Care N) (spots : Spots K S) where
  -- of a name of which others are to be told, it is in hand
  told_as : (P : Bit N → Type 0) (p : N) (k : Known N) → k.name ≡ p → KnownOk P k → AllOf (λ (w : ℕ). P (Named p)) k.told
  told_as P p k e h = subst (λ n. AllOf (λ (w : ℕ). P (Named n)) k.told) e h.5

  either_entry : (P : Bit N → Type 0) (p : N) (b : Bool) (k : Known N) (o : Option (Known N)) → K.same k.name p ≡ b → KnownOk P k → MayBe (λ (j : Known N). KnownOk P j × AllOf (λ (w : ℕ). P (Named p)) j.told) o
      → MayBe (λ (j : Known N). KnownOk P j × AllOf (λ (w : ℕ). P (Named p)) j.told) (elim b [ true ↦ Some k | false ↦ o ])
  either_entry P p true k o e h i = (h, told_as P p k (spots.alike k.name p e) h)
  either_entry P p false k o e h i = i

  entered_ok : (P : Bit N → Type 0) (ks : List (Known N)) (p : N) → AllOf (KnownOk P) ks → MayBe (λ (j : Known N). KnownOk P j × AllOf (λ (w : ℕ). P (Named p)) j.told) (refs.entry_of K ks p)
  unfolding refs.entry_of
  entered_ok P [] p h = tt
  entered_ok P (k ∷ ks) p h = either_entry P p (K.same k.name p) k (refs.entry_of K ks p) refl h.0 (entered_ok P ks p h.1)

  pub look_entry : {C : Fact N} (p : N) → Fine S C (look (λ s. refs.entry_of K s.known p)) (MayEntry p)
  look_entry p = fine_sees S (λ s. refs.entry_of K s.known p) (MayEntry p) (λ s h c. entered_ok (S.ok s) s.known p h.parts.known)

  pub look_place : {C : Fact N} (y : Value N) → Gets S C (IsValue y) → Fine S C (look (λ s. refs.place K s y)) IsPlace
  look_place y g = fine_sees S (λ s. refs.place K s y) IsPlace (λ s h c. place_ok K (S.ok s) s (spots.placed s h.more) y (g.at s c))

  pub look_place_of : {C : Fact N} (x : Value N) → Gets S C (IsValue x) → Fine S C (look (λ s. refs.place K s (refs.follow K s x))) IsPlace
  look_place_of x g = fine_sees S (λ s. refs.place K s (refs.follow K s x)) IsPlace (λ s h c. place_ok K (S.ok s) s (spots.placed s h.more) (refs.follow K s x) (follow_ok K (S.ok s) s h.parts.known x (g.at s c)))

pub ruleset looks = (look_number, got_answer_host, goes_deliver, goes_open, goes_ask, goes_settled, goes_elsewhere, goes_shorten, look_follow, look_list, look_target, look_parcel, look_cell, look_thing, look_gift, look_known, look_gifts, each_message, each_entry, each_told, each_known, each_gift, got_plain, got_gift, got_many, got_no_more, got_one_more, note_deliver, note_open, note_ask, note_settled, note_elsewhere, note_shorten)
