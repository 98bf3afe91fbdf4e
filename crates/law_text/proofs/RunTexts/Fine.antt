-- What a vat does from a state that fits ends in a state that fits, as long as it has not made too much.
use Rattle.std.proofs.Common.{◌≡◌, ℕ, zero, suc, ◌+◌, ◌-◌, ◌≤◌, ◌<◌, Bool, true, false, List, [], ◌∷◌, ◌++◌, Option, Some, None, if◌then◌else◌, refl, sym, subst, length, arith}
use Rattle.std.specs.Prelude.{slice_get, nat_le}
use Rattle.def_machine.specs.Values.{Words, Value, Name}
use Rattle.def_machine.specs.State.{Thing, Ejector, Message, Note, Put, GiftEntry, Happened, Vat, Stop, Done, Gives, Throws, Ejects, Stops, Act, ◌>>=◌, ◌>>◌, and_then, end_by, ending, each, for_some, give, throw, stop, eject, look, tell, spend, spent, new_activation, new_thing, kill, change, dead, new_slot, holding, write_slot, new_list, enqueue, send_out, new_gift, is_gift, with_opened, open_gift, mark}
use Rattle.law_machine.specs.Machine.Steps.{After}
use Rattle.law_text.specs.Text.Feeds.{AllOf}
use Rattle.law_text.specs.RunTexts.Fitting.{Limits, size, IsLow, NameFits, ValueFits, ValuesFit, CellFits, ThingFits, MessageFits, NoteFits, GiftFits, LineFits, VatFits, spread, TextFits}

-- ---- lists

pub all_map : {A : Type 0} {P Q : A → Type 0} → ((x : A) → P x → Q x) → (xs : List A) → AllOf P xs → AllOf Q xs
all_map f [] h = tt
all_map f (x ∷ xs) h = (f x h.0, all_map f xs h.1)

pub all_end : {A : Type 0} (P : A → Type 0) (xs : List A) (x : A) → AllOf P xs → P x → AllOf P (xs ++ x ∷ [])
all_end P [] x h p = (p, tt)
all_end P (y ∷ xs) x h p = (h.0, all_end P xs x h.1 p)

pub all_append : {A : Type 0} (P : A → Type 0) (xs ys : List A) → AllOf P xs → AllOf P ys → AllOf P (xs ++ ys)
all_append P [] ys h k = k
all_append P (x ∷ xs) ys h k = (h.0, all_append P xs ys h.1 k)

pub all_split : {A : Type 0} (P : A → Type 0) (xs ys : List A) → AllOf P (xs ++ ys) → AllOf P xs × AllOf P ys
all_split P [] ys h = (tt, h)
all_split P (x ∷ xs) ys h = let rest = all_split P xs ys h.1 in ((h.0, rest.0), rest.1)

pub all_at : {A : Type 0} (P : A → Type 0) (xs : List A) (i : ℕ) (x : A) → AllOf P xs → slice_get xs i ≡ Some x → P x
all_at P [] i x h e = cc
all_at P (y ∷ xs) zero x h e = let same : y ≡ x = cc in subst P same h.0
all_at P (y ∷ xs) (suc i) x h e = all_at P xs i x h.1 e

all_change : {A : Type 0} (P : A → Type 0) (f : A → A) → ((x : A) → P x → P (f x)) → (n : ℕ) (xs : List A) → AllOf P xs → AllOf P (change f n xs)
unfolding change
all_change P f g n [] h = tt
all_change P f g zero (x ∷ xs) h = (g x h.0, h.1)
all_change P f g (suc n) (x ∷ xs) h = (h.0, all_change P f g n xs h.1)

length_change : {A : Type 0} (f : A → A) (n : ℕ) (xs : List A) → length (change f n xs) ≡ length xs
unfolding change
length_change f n [] = refl
length_change f zero (x ∷ xs) = refl
length_change f (suc n) (x ∷ xs) = let e = length_change f n xs in grind (arith, e)

pub one_longer : {A : Type 0} (xs : List A) (x : A) → length (xs ++ x ∷ []) ≡ suc (length xs)
one_longer [] x = refl
one_longer (y ∷ xs) x = let e = one_longer xs x in grind (arith, e)

one_spread : {A : Type 0} (xs : List (List A)) (x : List A) → spread (xs ++ x ∷ []) ≡ suc (length x + spread xs)
one_spread [] x = refl
one_spread (y ∷ xs) x = let e = one_spread xs x in grind (arith, e)

length_spread : {A : Type 0} (xs : List (List A)) → length xs ≤ spread xs
length_spread [] = omega arith
length_spread (x ∷ xs) = let l = length_spread xs in omega (arith, l)

-- ---- the triple

-- it has made no less
abbrev pub Grows : {N : Type 0} → Vat N → Vat N → Type 0
Grows s t = size s ≤ size t

module _ (L : Limits) where
  -- what holds of a state that made less than the limit
  abbrev pub Kept : Vat Name → Type 0 → Type 0
  Kept t P = size t < L.limit → VatFits L t × P

  -- how it ends; of a stop nothing is said
  abbrev pub Ends : {A : Type 0} → (A → Type 0) → Done Name A → Type 0
  Ends G (Gives a t) = Kept t (G a)
  Ends G (Throws p t) = Kept t (TextFits p)
  Ends G (Ejects n v t) = Kept t (ValueFits L v)
  Ends G (Stops c t) = Unit {0}

  -- where the first holds
  pub record Fine (C : Type 0) {A : Type 0} (m : Act Name A) (G : A → Type 0) : Type 0 where
    pub grows : (s : Vat Name) → After Grows s (m s)
    pub after : (s : Vat Name) → VatFits L s → C → Ends G (m s)

  abbrev pub nothing : {A : Type 0} → A → Type 0
  nothing a = Unit {0}

  -- ---- one thing after another

  more : {A : Type 0} (s t : Vat Name) → Grows s t → (d : Done Name A) → After Grows t d → After Grows s d
  more s t g (Gives a u) h = omega (arith, g, h)
  more s t g other h = omega (arith, g, h)

  -- what comes behind a state made less than that state, where that made less than the limit
  behind : {A : Type 0} (G : A → Type 0) (t : Vat Name) (d : Done Name A) → After Grows t d → (size t < L.limit → Ends G d) → Ends G d
  behind G t (Stops c u) g h = tt
  behind G t other g h = λ low. h (omega (arith, g, low)) low

  grows_bind : {C A B : Type 0} (G : A → Type 0) (H : B → Type 0) (f : A → Act Name B) → ((a : A) → Fine (C × G a) (f a) H) → (s : Vat Name) (d : Done Name A) → After Grows s d → After Grows s (and_then d f)
  unfolding and_then
  grows_bind G H f k s (Gives a t) g = more s t g (f a t) ((k a).grows t)
  grows_bind G H f k s other g = g

  ends_bind : {C A B : Type 0} (G : A → Type 0) (H : B → Type 0) (f : A → Act Name B) → ((a : A) → Fine (C × G a) (f a) H) → C → (d : Done Name A) → Ends G d → Ends H (and_then d f)
  unfolding and_then
  ends_bind G H f k c (Gives a t) e = behind H t (f a t) ((k a).grows t) (λ low. (k a).after t (e low).0 (c, (e low).1))
  ends_bind G H f k c (Stops d t) e = tt
  ends_bind G H f k c other e = e

  pub fine_bind : {C A B : Type 0} {m : Act Name A} {f : A → Act Name B} {H : B → Type 0} (G : A → Type 0) → Fine C m G → ((a : A) → Fine (C × G a) (f a) H) → Fine C (m >>= f) H
  unfolding ◌>>=◌
  fine_bind {m = m} {f = f} {H = H} G h k = record { grows = λ s. grows_bind G H f k s (m s) (h.grows s); after = λ s fits c. ends_bind G H f k c (m s) (h.after s fits c) }

  -- under less
  pub fine_under : {C D A : Type 0} {m : Act Name A} {G : A → Type 0} → (D → C) → Fine C m G → Fine D m G
  fine_under f h = record { grows = h.grows; after = λ s fits d. h.after s fits (f d) }

  pub fine_left : {C D A : Type 0} {m : Act Name A} {G : A → Type 0} → Fine C m G → Fine (C × D) m G
  fine_left h = fine_under (λ c. c.0) h

  pub fine_then : {C A B : Type 0} {m : Act Name A} {n : Act Name B} {H : B → Type 0} {G : A → Type 0} → Fine C m G → Fine C n H → Fine C (m >> n) H
  unfolding ◌>>=◌ ◌>>◌
  fine_then {n = n} {G = G} h k = fine_bind {f = λ _. n} G h (λ a. fine_left k)

  pub fine_give : {C A : Type 0} {G : A → Type 0} (a : A) → (C → G a) → Fine C (give a) G
  unfolding give
  fine_give a g = record { grows = λ s. omega arith; after = λ s fits c low. (fits, g c) }

  pub fine_throw : {C A : Type 0} {G : A → Type 0} (p : Words) → (C → TextFits p) → Fine C (throw {A = A} p) G
  unfolding throw
  fine_throw p g = record { grows = λ s. omega arith; after = λ s fits c low. (fits, g c) }

  pub fine_eject : {C A : Type 0} {G : A → Type 0} (n : ℕ) (v : Value Name) → (C → ValueFits L v) → Fine C (eject {A = A} n v) G
  unfolding eject
  fine_eject n v g = record { grows = λ s. omega arith; after = λ s fits c low. (fits, g c) }

  pub fine_stop : {C A : Type 0} {G : A → Type 0} (d : Stop) → Fine C (stop {A = A} d) G
  unfolding stop
  fine_stop d = record { grows = λ s. omega arith; after = λ s fits c. tt }

  -- what is looked at, with what the state tells of it
  pub fine_look : {C A : Type 0} {G : A → Type 0} (f : Vat Name → A) → ((s : Vat Name) → VatFits L s → C → G (f s)) → Fine C (look f) G
  unfolding look
  fine_look f g = record { grows = λ s. omega arith; after = λ s fits c low. (fits, g s fits c) }

  -- what is told by how much was made
  pub fine_low : {C A : Type 0} {G : A → Type 0} (f : Vat Name → A) → ((s : Vat Name) → size s < L.limit → G (f s)) → Fine C (look f) G
  unfolding look
  fine_low f g = record { grows = λ s. omega arith; after = λ s fits c low. (fits, g s low) }

  -- and by the state that fits
  pub fine_look_at : {C A : Type 0} {G : A → Type 0} (f : Vat Name → A) → ((s : Vat Name) → VatFits L s → size s < L.limit → C → G (f s)) → Fine C (look f) G
  unfolding look
  fine_look_at f g = record { grows = λ s. omega arith; after = λ s fits c low. (fits, g s fits low c) }

  pub fine_sees : {C A : Type 0} (f : Vat Name → A) → Fine C (look f) nothing
  fine_sees f = fine_look f (λ s fits c. tt)

  pub fine_some : {C A B : Type 0} {H : B → Type 0} (P : A → Type 0) (o : Option A) {f : A → Act Name B} {m : Act Name B} → ((a : A) → o ≡ Some a → Fine C (f a) H) → Fine C m H → Fine C (for_some o f m) H
  unfolding for_some
  fine_some P (Some a) h k = h a refl
  fine_some P None h k = k

  pub fine_if : {C A : Type 0} {G : A → Type 0} (b : Bool) {m n : Act Name A} → Fine C m G → Fine C n G → Fine C (if b then m else n) G
  fine_if true h k = h
  fine_if false h k = k

  -- by what the test tells
  pub fine_if_so : {C A : Type 0} {G : A → Type 0} (b : Bool) {m n : Act Name A} → (b ≡ true → Fine C m G) → Fine C n G → Fine C (if b then m else n) G
  fine_if_so true h k = h refl
  fine_if_so false h k = k

  grows_end : {C A B : Type 0} (G : A → Type 0) (H : B → Type 0) (f : A → Act Name B) (g : Words → Act Name B) (h : ℕ → Value Name → Act Name B)
      → ((a : A) → Fine (C × G a) (f a) H) → ((p : Words) → Fine (C × TextFits p) (g p) H) → ((n : ℕ) (v : Value Name) → Fine (C × ValueFits L v) (h n v) H)
      → (s : Vat Name) (d : Done Name A) → After Grows s d → After Grows s (end_by f g h d)
  unfolding end_by
  grows_end G H f g h x y z s (Gives a t) e = more s t e (f a t) ((x a).grows t)
  grows_end G H f g h x y z s (Throws p t) e = more s t e (g p t) ((y p).grows t)
  grows_end G H f g h x y z s (Ejects n v t) e = more s t e (h n v t) ((z n v).grows t)
  grows_end G H f g h x y z s (Stops c t) e = e

  ends_end : {C A B : Type 0} (G : A → Type 0) (H : B → Type 0) (f : A → Act Name B) (g : Words → Act Name B) (h : ℕ → Value Name → Act Name B)
      → ((a : A) → Fine (C × G a) (f a) H) → ((p : Words) → Fine (C × TextFits p) (g p) H) → ((n : ℕ) (v : Value Name) → Fine (C × ValueFits L v) (h n v) H)
      → C → (d : Done Name A) → Ends G d → Ends H (end_by f g h d)
  unfolding end_by
  ends_end G H f g h x y z c (Gives a t) e = behind H t (f a t) ((x a).grows t) (λ low. (x a).after t (e low).0 (c, (e low).1))
  ends_end G H f g h x y z c (Throws p t) e = behind H t (g p t) ((y p).grows t) (λ low. (y p).after t (e low).0 (c, (e low).1))
  ends_end G H f g h x y z c (Ejects n v t) e = behind H t (h n v t) ((z n v).grows t) (λ low. (z n v).after t (e low).0 (c, (e low).1))
  ends_end G H f g h x y z c (Stops d t) e = tt

  pub fine_ending : {C A B : Type 0} {m : Act Name A} {f : A → Act Name B} {g : Words → Act Name B} {h : ℕ → Value Name → Act Name B} {H : B → Type 0} (G : A → Type 0) → Fine C m G
      → ((a : A) → Fine (C × G a) (f a) H) → ((p : Words) → Fine (C × TextFits p) (g p) H) → ((n : ℕ) (v : Value Name) → Fine (C × ValueFits L v) (h n v) H) → Fine C (ending f g h m) H
  unfolding ending
  fine_ending {m = m} {f = f} {g = g} {h = h} {H = H} G r x y z = record {
    grows = λ s. grows_end G H f g h x y z s (m s) (r.grows s);
    after = λ s fits c. ends_end G H f g h x y z c (m s) (r.after s fits c);
  }

  pub fine_each : {C A : Type 0} {f : A → Act Name (Unit {0})} (P : A → Type 0) (xs : List A) → (C → AllOf P xs) → ((D : Type 0) (x : A) → (D → P x) → Fine D (f x) nothing) → Fine C (each f xs) nothing
  unfolding each
  fine_each P [] g h = fine_give tt (λ c. tt)
  fine_each {C = C} P (x ∷ xs) g h = fine_then (h C x (λ c. (g c).0)) (fine_each P xs (λ c. (g c).1) h)

  -- ---- single changes

  -- a change that leaves each part as it fits
  kept_by : {C A : Type 0} {G : A → Type 0} (a : A) (f : Vat Name → Vat Name) → ((s : Vat Name) → Grows s (f s)) → ((s : Vat Name) → VatFits L s → C → Kept (f s) (G a)) → Fine C (λ s. Gives a (f s)) G
  kept_by a f g h = record { grows = g; after = h }

  pub fine_tell : {C : Type 0} (e : Happened Name) → (C → LineFits L e) → Fine C (tell e) nothing
  unfolding tell size
  fine_tell e g = kept_by tt (λ s. record s { happened = s.happened ++ e ∷ [] }) (λ s. omega arith)
      (λ s h c low. (record { here = h.here; things = h.things; slots = h.slots; lists = h.lists; queue = h.queue; known = h.known; gifts = h.gifts; outbox = h.outbox; happened = all_end (LineFits L) s.happened e h.happened (g c) }, tt))

  same_parts : (s t : Vat Name) → t.number ≡ s.number → t.things ≡ s.things → t.slots ≡ s.slots → t.lists ≡ s.lists → t.queue ≡ s.queue → t.known ≡ s.known → t.gifts ≡ s.gifts → t.outbox ≡ s.outbox → t.happened ≡ s.happened → VatFits L s → VatFits L t
  same_parts s t n a b c d e f g i h = record {
    here = subst (λ v. v < L.many) (sym n) h.here;
    things = subst (AllOf (ThingFits L)) (sym a) h.things;
    slots = subst (AllOf (CellFits L)) (sym b) h.slots;
    lists = subst (AllOf (ValuesFit L)) (sym c) h.lists;
    queue = subst (AllOf (MessageFits L)) (sym d) h.queue;
    known = subst (AllOf _) (sym e) h.known;
    gifts = subst (AllOf (GiftFits L)) (sym f) h.gifts;
    outbox = subst (AllOf _) (sym g) h.outbox;
    happened = subst (AllOf (LineFits L)) (sym i) h.happened;
  }

  spent_grows : (n : ℕ) (s : Vat Name) (b : Bool) → After Grows s (spent n b s)
  unfolding spent size
  spent_grows n s true = omega arith
  spent_grows n s false = omega arith

  spent_fits : (n : ℕ) (s : Vat Name) (b : Bool) → VatFits L s → Ends nothing (spent n b s)
  unfolding spent
  spent_fits n s true h = λ low. (same_parts s (record s { fuel = s.fuel - n }) refl refl refl refl refl refl refl refl refl h, tt)
  spent_fits n s false h = tt

  pub fine_spend : {C : Type 0} (n : ℕ) → Fine C (spend n) nothing
  unfolding spend
  fine_spend n = record { grows = λ s. spent_grows n s (nat_le n s.fuel); after = λ s h c. spent_fits n s (nat_le n s.fuel) h }

  pub fine_activation : {C : Type 0} → Fine C new_activation (IsLow L)
  unfolding new_activation size
  fine_activation = record {
    grows = λ s. omega arith;
    after = λ s h c low. (same_parts s (record s { activations = suc s.activations }) refl refl refl refl refl refl refl refl refl h, omega (arith, low));
  }

  pub fine_thing : {C : Type 0} (t : Thing Name) → (C → ThingFits L t) → Fine C (new_thing t) (IsLow L)
  unfolding new_thing size
  fine_thing t g = record {
    grows = λ s. let e = one_longer s.things t in omega (arith, e);
    after = λ s h c low. let e = one_longer s.things t in (record { here = h.here; things = all_end (ThingFits L) s.things t h.things (g c); slots = h.slots; lists = h.lists; queue = h.queue; known = h.known; gifts = h.gifts; outbox = h.outbox; happened = h.happened }, omega (arith, e, low));
  }

  dead_fits : (t : Thing Name) → ThingFits L t → ThingFits L (dead t)
  unfolding dead
  dead_fits (Ejector live) h = tt
  dead_fits other h = h

  pub fine_kill : {C : Type 0} (n : ℕ) → Fine C (kill n) nothing
  unfolding kill size
  fine_kill n = record {
    grows = λ s. let e = length_change dead n s.things in omega (arith, e);
    after = λ s h c low. (record { here = h.here; things = all_change (ThingFits L) dead dead_fits n s.things h.things; slots = h.slots; lists = h.lists; queue = h.queue; known = h.known; gifts = h.gifts; outbox = h.outbox; happened = h.happened }, tt);
  }

  pub fine_slot : {C : Type 0} (g v : Value Name) → (C → ValueFits L g) → (C → ValueFits L v) → Fine C (new_slot g v) (IsLow L)
  unfolding new_slot size
  fine_slot g v x y = record {
    grows = λ s. let e = one_longer s.slots (record { guard = g; value = v }) in omega (arith, e);
    after = λ s h c low. let e = one_longer s.slots (record { guard = g; value = v }) in (record { here = h.here; things = h.things; slots = all_end (CellFits L) s.slots _ h.slots (x c, y c); lists = h.lists; queue = h.queue; known = h.known; gifts = h.gifts; outbox = h.outbox; happened = h.happened }, omega (arith, e, low));
  }

  pub fine_write : {C : Type 0} (n : ℕ) (v : Value Name) → (C → ValueFits L v) → Fine C (write_slot n v) nothing
  unfolding write_slot size holding
  fine_write n v g = record {
    grows = λ s. let e = length_change (holding v) n s.slots in omega (arith, e);
    after = λ s h c low. (record { here = h.here; things = h.things; slots = all_change (CellFits L) (holding v) (λ x k. (k.0, g c)) n s.slots h.slots; lists = h.lists; queue = h.queue; known = h.known; gifts = h.gifts; outbox = h.outbox; happened = h.happened }, tt);
  }

  pub fine_list : {C : Type 0} (vs : List (Value Name)) → (C → ValuesFit L vs) → Fine C (new_list vs) (IsLow L)
  unfolding new_list size
  fine_list vs g = record {
    grows = λ s. let e = one_spread s.lists vs in omega (arith, e);
    after = λ s h c low. let e = one_spread s.lists vs in let l = length_spread s.lists in (record { here = h.here; things = h.things; slots = h.slots; lists = all_end (ValuesFit L) s.lists vs h.lists (g c); queue = h.queue; known = h.known; gifts = h.gifts; outbox = h.outbox; happened = h.happened }, omega (arith, e, l, low));
  }

  pub fine_enqueue : {C : Type 0} (m : Message Name) → (C → MessageFits L m) → Fine C (enqueue m) nothing
  unfolding enqueue size
  fine_enqueue m g = record {
    grows = λ s. omega arith;
    after = λ s h c low. (record { here = h.here; things = h.things; slots = h.slots; lists = h.lists; queue = all_end (MessageFits L) s.queue m h.queue (g c); known = h.known; gifts = h.gifts; outbox = h.outbox; happened = h.happened }, tt);
  }

  pub fine_out : {C : Type 0} (to : ℕ) (n : Note Name) → (C → NoteFits L n) → Fine C (send_out to n) nothing
  unfolding send_out size
  fine_out to n g = record {
    grows = λ s. omega arith;
    after = λ s h c low. (record { here = h.here; things = h.things; slots = h.slots; lists = h.lists; queue = h.queue; known = h.known; gifts = h.gifts; outbox = all_end (λ (p : Put Name). NoteFits L p.note) s.outbox _ h.outbox (g c); happened = h.happened }, tt);
  }

  pub fine_gift : {C : Type 0} (n : Name) (p i : ℕ) → (C → NameFits L n) → (C → p < L.many) → Fine C (new_gift n p i) nothing
  unfolding new_gift size
  fine_gift n p i g k = record {
    grows = λ s. omega arith;
    after = λ s h c low. (record { here = h.here; things = h.things; slots = h.slots; lists = h.lists; queue = h.queue; known = h.known; gifts = all_end (GiftFits L) s.gifts _ h.gifts (g c, k c); outbox = h.outbox; happened = h.happened }, tt);
  }

  opened_either : (b : Bool) (g : GiftEntry Name) (gs ks : List (GiftEntry Name)) → GiftFits L g → AllOf (GiftFits L) gs → AllOf (GiftFits L) ks → AllOf (GiftFits L) (elim b [ true ↦ record g { opened = true } ∷ gs | false ↦ g ∷ ks ])
  opened_either true g gs ks a c d = (a, c)
  opened_either false g gs ks a c d = (a, d)

  opened_fits : (p i : ℕ) (gs : List (GiftEntry Name)) → AllOf (GiftFits L) gs → AllOf (GiftFits L) (with_opened p i gs)
  unfolding with_opened
  opened_fits p i [] h = tt
  opened_fits p i (g ∷ gs) h = opened_either (is_gift p i g) g gs (with_opened p i gs) h.0 h.1 (opened_fits p i gs h.1)

  pub fine_open : {C : Type 0} (p i : ℕ) → Fine C (open_gift p i) nothing
  unfolding open_gift size
  fine_open p i = record {
    grows = λ s. omega arith;
    after = λ s h c low. (record { here = h.here; things = h.things; slots = h.slots; lists = h.lists; queue = h.queue; known = h.known; gifts = opened_fits p i s.gifts h.gifts; outbox = h.outbox; happened = h.happened }, tt);
  }

  pub fine_mark : {C : Type 0} (w : ℕ) → Fine C (mark w) nothing
  unfolding mark size
  fine_mark w = record {
    grows = λ s. omega arith;
    after = λ s h c low. (same_parts s (record s { noticed = s.noticed ++ w ∷ [] }) refl refl refl refl refl refl refl refl refl h, tt);
  }
