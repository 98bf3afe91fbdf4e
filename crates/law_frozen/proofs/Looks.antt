-- What is looked at in a sound state.
use Rattle.std.proofs.Common.{ℕ, zero, suc, Bool, true, false, List, [], ◌∷◌, Option, Some, None, length}
use Rattle.std.specs.Prelude.{slice_get}
use Rattle.def_machine.specs.Values.{Words, Value, Broken, Items, Ref, Naming, Spot, Own, Foreign, NoObject}
use Rattle.def_machine.specs.State.{Message, Standing, Viewed, Settled, Known, Passed, Passeds, AGift, Many, NoMore, More, Deliver, Open, Ask, SettledTo, Elsewhere, Shorten, Vat, Act, ◌>>=◌, each, look, is_in, Delivery}
use Rattle.def_machine.specs.Refs as refs
use Rattle.def_machine.specs.Native.{list_at}
use Rattle.law_frozen.specs.Frozen.{AllOf, Lists, IsThere, AreThere, StandingThere, KnownThere, CellThere, Passes, AllPass, ThingWell, Sound}
use Rattle.law_frozen.proofs.Fine.{Keeper, MayBe, Fact, Also, IsValue, AreValues, IsMessage, AreMessages, MayCell, MayThing, MayKnown, DoesPass, DoAllPass, NoteDoes, parcel, nothing, Gets, Fine, fine_sees, fine_bind, fine_then, fine_give, got_nothing}

pub get_all : {A : Type 0} (P : A → Type 0) (xs : List A) (n : ℕ) → AllOf P xs → MayBe P (slice_get xs n)
get_all P [] n h = tt
get_all P (x ∷ xs) zero h = h.0
get_all P (x ∷ xs) (suc n) h = get_all P xs n h.1

in_option : {N : Type 0} (ls : Lists N) (o : Option (List (Value N))) → MayBe (AreThere ls) o → AreThere ls (elim o [ Some vs ↦ vs | None ↦ [] ])
in_option ls (Some vs) h = h
in_option ls None h = tt

pub list_at_there : {N : Type 0} (ls ms : Lists N) (k : ℕ) → AllOf (AreThere ls) ms → AreThere ls (list_at ms k)
unfolding list_at
list_at_there ls ms k h = in_option ls (slice_get ms k) (get_all (AreThere ls) ms k h)

module _ {N W : Type 0} (K : Naming N W) where
  -- ---- following

  either_known : (ls : Lists N) (b : Bool) (k : Known N) (o : Option (Known N)) → KnownThere ls k → MayBe (KnownThere ls) o → MayBe (KnownThere ls) (elim b [ true ↦ Some k | false ↦ o ])
  either_known ls true k o h i = h
  either_known ls false k o h i = i

  pub entry_there : (ls : Lists N) (ks : List (Known N)) (n : N) → AllOf (KnownThere ls) ks → MayBe (KnownThere ls) (refs.entry_of K ks n)
  unfolding refs.entry_of
  entry_there ls [] n h = tt
  entry_there ls (k ∷ ks) n h = either_known ls (K.same k.name n) k (refs.entry_of K ks n) h.0 (entry_there ls ks n h.1)

  standing_there : (ls : Lists N) (o : Option (Known N)) → MayBe (KnownThere ls) o → StandingThere ls (refs.standing_in o)
  unfolding refs.standing_in
  standing_there ls (Some k) h = h.0
  standing_there ls None h = tt

  led_there : (ls : Lists N) (on : Value N → Value N) (n : N) (x : Standing N) → ((y : Value N) → IsThere ls y → IsThere ls (on y)) → StandingThere ls x → IsThere ls (refs.led K on n x)
  unfolding refs.led
  led_there ls on n (Settled y) f h = f y h
  led_there ls on n (Viewed q) f h = f (Ref q) tt
  led_there ls on n other f h = tt

  follow_at_there : (ls : Lists N) (d : ℕ) (ks : List (Known N)) (x : Value N) → AllOf (KnownThere ls) ks → IsThere ls x → IsThere ls (refs.follow_at K d ks x)
  unfolding refs.follow_at refs.standing_of
  follow_at_there ls zero ks x h i = i
  follow_at_there ls (suc d) ks (Ref n) h i = led_there ls (λ y. refs.follow_at K d ks y) n (refs.standing_of K ks n) (λ y j. follow_at_there ls d ks y h j) (standing_there ls (refs.entry_of K ks n) (entry_there ls ks n h))
  follow_at_there ls (suc d) ks (Items k) h i = i
  follow_at_there ls (suc d) ks other h i = tt

  by_there : (ls : Lists N) (n : N) (b : Bool) (t : Words) → IsThere ls (elim b [ true ↦ Broken t | false ↦ Ref n ])
  by_there ls n true t = tt
  by_there ls n false t = tt

  at_there : (s : Vat N) (n : N) (p : Spot) → IsThere s.lists (refs.severed_at K s n p)
  unfolding refs.severed_at refs.severed_by
  at_there s n (Own i) = tt
  at_there s n (Foreign h) = by_there s.lists n (is_in h s.noticed) _
  at_there s n NoObject = by_there s.lists n (is_in (refs.host_at K s.number s.known n) s.noticed) _

  severed_there : (s : Vat N) (x : Value N) → IsThere s.lists x → IsThere s.lists (refs.severed K s x)
  unfolding refs.severed
  severed_there s (Items k) h = h
  severed_there s (Ref n) h = at_there s n (K.spot n)
  severed_there s other h = tt

  pub follow_there : (s : Vat N) → Sound K s → (x : Value N) → IsThere s.lists x → IsThere s.lists (refs.follow K s x)
  unfolding refs.follow
  follow_there s h x i = severed_there s (refs.follow_at K (suc (length s.known)) s.known x) (follow_at_there s.lists (suc (length s.known)) s.known x h.known i)

  -- ---- passing

  shape_by_passes : (f : List (Value N) → Passed N) (ls : Lists N) (y : Value N) → ((vs : List (Value N)) → Passes (f vs)) → Passes (refs.shape_by K f ls y)
  unfolding refs.shape_by
  shape_by_passes f ls (Items k) h = h (list_at ls k)
  shape_by_passes f ls other h = tt

  shapes_pass : (f : Value N → Passed N) (vs : List (Value N)) → ((v : Value N) → Passes (f v)) → AllPass (refs.shapes K f vs)
  unfolding refs.shapes
  shapes_pass f [] h = tt
  shapes_pass f (v ∷ vs) h = (h v, shapes_pass f vs h)

  shape_passes : (d : ℕ) (s : Vat N) (x : Value N) → Passes (refs.shape K d s x)
  unfolding refs.shape
  shape_passes zero s x = shape_by_passes _ s.lists (refs.follow K s x) (λ vs. tt)
  shape_passes (suc d) s x = shape_by_passes _ s.lists (refs.follow K s x) (λ vs. shapes_pass (λ v. refs.shape K d s v) vs (λ v. shape_passes d s v))

  of_list_passes : (s : Vat N) (x : Value N) (o : Option ℕ) → Passes (refs.parcel_of_list K s x o).value
  unfolding refs.parcel_of_list refs.too_heavy
  of_list_passes s x (Some left) = shape_passes refs.highest s x
  of_list_passes s x None = tt

  parcel_at_passes : (s : Vat N) (y : Value N) → Passes (refs.parcel_at K s y).value
  unfolding refs.parcel_at
  parcel_at_passes s (Items k) = of_list_passes s (Items k) _
  parcel_at_passes s other = tt

  parcel_passes : (s : Vat N) (x : Value N) → Passes (refs.parcel K s x).value
  unfolding refs.parcel
  parcel_passes s x = parcel_at_passes s (refs.follow K s x)

  -- ---- settling

  cut_there : (ls : Lists N) (b : Bool) (y : Value N) → IsThere ls y → IsThere ls (refs.cut_cycle K b y)
  unfolding refs.cut_cycle
  cut_there ls true y h = tt
  cut_there ls false y h = h

  pub target_there : (s : Vat N) (p : N) (x : Value N) → IsThere s.lists x → IsThere s.lists (refs.target_of K s p x)
  unfolding refs.target_of
  target_there s p (Items k) h = cut_there s.lists (refs.reaches K (suc (length s.lists)) s p (Items k)) (Items k) h
  target_there s p other h = tt

  -- ---- looks

  pub look_follow : (M : Keeper K) → {C : Fact N} (x : Value N) → Gets K C (IsValue x) → Fine K M C (look (λ s. refs.follow K s x)) IsValue
  look_follow M x g = fine_sees K M (λ s. refs.follow K s x) IsValue (λ s h c. follow_there s h x (g.at s.things s.lists c))

  pub look_list : (M : Keeper K) → {C : Fact N} (k : ℕ) → Fine K M C (look (λ s. list_at s.lists k)) AreValues
  look_list M k = fine_sees K M (λ s. list_at s.lists k) AreValues (λ s h c. list_at_there s.lists s.lists k h.lists)

  pub look_entry : (M : Keeper K) → {C : Fact N} (n : N) → Fine K M C (look (λ s. refs.entry_of K s.known n)) MayKnown
  look_entry M n = fine_sees K M (λ s. refs.entry_of K s.known n) MayKnown (λ s h c. entry_there s.lists s.known n h.known)

  pub look_target : (M : Keeper K) → {C : Fact N} (p : N) (x : Value N) → Gets K C (IsValue x) → Fine K M C (look (λ s. refs.target_of K s p x)) IsValue
  look_target M p x g = fine_sees K M (λ s. refs.target_of K s p x) IsValue (λ s h c. target_there s p x (g.at s.things s.lists c))

  pub look_parcel : (M : Keeper K) → {C : Fact N} (x : Value N) → Fine K M C (look (λ s. refs.parcel K s x)) parcel
  look_parcel M x = fine_sees K M (λ s. refs.parcel K s x) parcel (λ s h c. parcel_passes s x)

  pub look_cell : (M : Keeper K) → {C : Fact N} (k : ℕ) → Fine K M C (look (λ s. slice_get s.slots k)) MayCell
  look_cell M k = fine_sees K M (λ s. slice_get s.slots k) MayCell (λ s h c. get_all (CellThere s.lists) s.slots k h.slots)

  pub look_thing : (M : Keeper K) → {C : Fact N} (i : ℕ) → Fine K M C (look (λ s. slice_get s.things i)) MayThing
  look_thing M i = fine_sees K M (λ s. slice_get s.things i) MayThing (λ s h c. get_all (ThingWell K s.things s.lists) s.things i h.things)

  pub each_message : (M : Keeper K) → {C : Fact N} {f : Message N → Act N (Unit {0})} (ms : List (Message N)) → Gets K C (AreMessages ms) → ((m : Message N) → Fine K M (Also C (IsMessage m)) (f m) nothing) → Fine K M C (each f ms) nothing
  unfolding each
  each_message M {C = C} [] g h = fine_give K M tt (got_nothing K C)
  each_message M {C = C} {f = f} (m ∷ ms) g h = fine_then K M nothing first (each_message M ms (record { at = λ ts ls c. (g.at ts ls c).1 }) h)
    where
      first : Fine K M C (f m) nothing
      first = record { after = λ s i c. (h m).after s i (c, (g.at s.things s.lists c).0) }

  -- a list that is made is there
  pub bind_list : (M : Keeper K) → {B : Type 0} {C : Fact N} {m : Act N ℕ} {f : ℕ → Act N B} {H : B → Fact N} → Fine K M C m (λ k. IsValue (Items k)) → ((k : ℕ) → Fine K M (Also C (IsValue (Items k))) (f k) H) → Fine K M C (m >>= f) H
  bind_list M h k = fine_bind K M (λ k. IsValue (Items k)) h k

  -- ---- what passes

  pub got_gift : (C : Fact N) (h i : ℕ) → Gets K C (DoesPass (AGift h i))
  got_gift C h i = record { at = λ ts ls c. tt }

  pub got_many : (C : Fact N) (ys : Passeds N) → Gets K C (DoAllPass ys) → Gets K C (DoesPass (Many ys))
  got_many C ys g = record { at = λ ts ls c. g.at ts ls c }

  pub got_no_more : (C : Fact N) → Gets K C (DoAllPass NoMore)
  got_no_more C = record { at = λ ts ls c. tt }

  pub got_one_more : (C : Fact N) (y : Passed N) (ys : Passeds N) → Gets K C (DoesPass y) → Gets K C (DoAllPass ys) → Gets K C (DoAllPass (More y ys))
  got_one_more C y ys g k = record { at = λ ts ls c. (g.at ts ls c, k.at ts ls c) }

  pub note_deliver : (C : Fact N) (m : Delivery N) (n : N) (verb : Words) (ys : Passeds N) → Gets K C (DoAllPass ys) → Gets K C (NoteDoes (Deliver m n verb ys))
  note_deliver C m n verb ys g = record { at = λ ts ls c. g.at ts ls c }

  pub note_open : (C : Fact N) (i : ℕ) (n : N) → Gets K C (NoteDoes (Open i n))
  note_open C i n = record { at = λ ts ls c. tt }

  pub note_ask : (C : Fact N) (p i : ℕ) (n : N) → Gets K C (NoteDoes (Ask p i n))
  note_ask C p i n = record { at = λ ts ls c. tt }

  pub note_settled : (C : Fact N) (n : N) (y : Passed N) → Gets K C (DoesPass y) → Gets K C (NoteDoes (SettledTo n y))
  note_settled C n y g = record { at = λ ts ls c. g.at ts ls c }

  pub note_elsewhere : (C : Fact N) (n : N) (h : ℕ) → Gets K C (NoteDoes (Elsewhere n h))
  note_elsewhere C n h = record { at = λ ts ls c. tt }

  pub note_shorten : (C : Fact N) (n : N) (h i : ℕ) → Gets K C (NoteDoes (Shorten n h i))
  note_shorten C n h i = record { at = λ ts ls c. tt }

pub ruleset looks = (bind_list, look_follow, look_list, look_entry, look_target, look_parcel, look_cell, look_thing, each_message, got_gift, got_many, got_no_more, got_one_more, note_deliver, note_open, note_ask, note_settled, note_elsewhere, note_shorten)
