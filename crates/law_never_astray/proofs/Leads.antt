-- What a vat does from a state whose things carry their captures ends in such a state, with no fewer var slots.
use Rattle.std.proofs.Common.{◌≡◌, ℕ, zero, suc, ◌≤◌, ◌<◌, Bool, true, false, List, [], ◌∷◌, ◌++◌, Option, Some, None, if◌then◌else◌, refl, sym, subst, length, arith}
use Rattle.std.specs.Prelude.{slice_get, nat_le}
use Rattle.def_machine.specs.Values.{Words, Value, Naming, Broken}
use Rattle.def_machine.specs.State.{Bound, Fixed, Slot, Binding, Cell, Thing, Made, Ejector, Audition, Resolver, Happened, Vat, Stop, Fuel, Deep, Astray, Done, Gives, Throws, Ejects, Stops, Act, ◌>>=◌, ◌>>◌, and_then, end_by, ending, for_some, give, throw, stop, eject, look, tell, spend, spent, new_activation, new_thing, change, dead, kill, new_slot, holding, write_slot, new_list, new_promise}
use Rattle.def_machine.specs.Refs.{settle, resolve, send, send_only, react}
use Rattle.def_machine.specs.Scopes.{bound_in}
use Rattle.def_kernel.specs.declared.node.Node.{Node}
use Rattle.law_never_astray.specs.Scoped.{Scopes}
use Rattle.law_never_astray.specs.Formed.{AllOf}
use Rattle.law_never_astray.specs.Covered.{Stands, Covers, ThingCarries, Carries}
use Rattle.law_never_astray.proofs.Parts.{all_map}

-- what holds of a state where it stops
abbrev pub AtStops : Type 0 → Type 1
AtStops N = Stop → Vat N → Type 0

-- with no fewer slots than that
abbrev pub Kept : {N : Type 0} → List Node → ℕ → Vat N → Type 0
Kept tree many s = (many ≤ length s.slots) × Carries tree s

-- where it gives something, that is so of it under as many slots as there are then
abbrev pub Ends : {N : Type 0} → List Node → AtStops N → {A : Type 0} → ℕ → (ℕ → A → Type 0) → Done N A → Type 0
Ends tree F many H (Gives a t) = Kept tree many t × H (length t.slots) a
Ends tree F many H (Throws p t) = Kept tree many t
Ends tree F many H (Ejects n v t) = Kept tree many t
Ends tree F many H (Stops c t) = F c t

-- so it is from each state that has at least so many slots
pub record Leads {N : Type 0} (tree : List Node) (F : AtStops N) {A : Type 0} (many : ℕ) (H : ℕ → A → Type 0) (m : Act N A) : Type 0 where
  pub after : (s : Vat N) → Kept tree many s → Ends tree F (length s.slots) H (m s)

abbrev pub Nothing : {A : Type 0} → ℕ → A → Type 0
Nothing many a = Unit {0}

-- ---- more slots

pub stands_up : {N : Type 0} (n k : ℕ) → n ≤ k → (v : Bool) (x : Words) (o : Option (Bound N)) → Stands n v x o → Stands k v x o
stands_up n k l true x (Some (Slot i)) h = omega arith
stands_up n k l false x (Some (Slot i)) h = absurd h
stands_up n k l false x (Some (Fixed v g)) h = tt
stands_up n k l false x None h = h
stands_up n k l true x other h = absurd h

pub covers_up : {N : Type 0} (n k : ℕ) → n ≤ k → (ns : List (Binding N)) (s : Scopes) → Covers n ns s → Covers k ns s
covers_up n k l ns s h x v e = stands_up n k l v x (bound_in ns x) (h x v e)

thing_up : {N : Type 0} (tree : List Node) (n k : ℕ) → n ≤ k → (t : Thing N) → ThingCarries tree n t → ThingCarries tree k t
thing_up tree n k l (Made node caught stamps) h = (h.0, h.1, covers_up n k l caught h.0 h.2, h.3, h.4)
thing_up tree n k l (Audition live view) h = h
thing_up tree n k l other h = tt

pub things_up : {N : Type 0} (tree : List Node) (n k : ℕ) → n ≤ k → (ts : List (Thing N)) → AllOf (ThingCarries tree n) ts → AllOf (ThingCarries tree k) ts
things_up tree n k l ts h = all_map (thing_up tree n k l) ts h

all_end : {A : Type 0} (P : A → Type 0) (xs : List A) (x : A) → AllOf P xs → P x → AllOf P (xs ++ x ∷ [])
all_end P [] x h p = (p, tt)
all_end P (y ∷ xs) x h p = (h.0, all_end P xs x h.1 p)

pub all_append : {A : Type 0} (P : A → Type 0) (xs ys : List A) → AllOf P xs → AllOf P ys → AllOf P (xs ++ ys)
all_append P [] ys h k = k
all_append P (x ∷ xs) ys h k = (h.0, all_append P xs ys h.1 k)

pub all_at : {A : Type 0} (P : A → Type 0) (xs : List A) (i : ℕ) (x : A) → AllOf P xs → slice_get xs i ≡ Some x → P x
all_at P [] i x h e = cc
all_at P (y ∷ xs) zero x h e = let same : y ≡ x = cc in subst P same h.0
all_at P (y ∷ xs) (suc i) x h e = all_at P xs i x h.1 e

dead_carries : {N : Type 0} (tree : List Node) (n : ℕ) (t : Thing N) → ThingCarries tree n t → ThingCarries tree n (dead t)
unfolding dead
dead_carries tree n (Ejector live) h = tt
dead_carries tree n (Resolver p) h = tt
dead_carries tree n other h = h

all_change : {A : Type 0} (P : A → Type 0) (f : A → A) → ((x : A) → P x → P (f x)) → (n : ℕ) (xs : List A) → AllOf P xs → AllOf P (change f n xs)
unfolding change
all_change P f g n [] h = tt
all_change P f g zero (x ∷ xs) h = (g x h.0, h.1)
all_change P f g (suc n) (x ∷ xs) h = (h.0, all_change P f g n xs h.1)

length_change : {A : Type 0} (f : A → A) (n : ℕ) (xs : List A) → length (change f n xs) ≡ length xs
unfolding change
length_change f n [] = refl
length_change f zero (x ∷ xs) = refl
length_change f (suc n) (x ∷ xs) = let e = length_change f n xs in grind (arith, e)

one_longer : {A : Type 0} (xs : List A) (x : A) → length (xs ++ x ∷ []) ≡ suc (length xs)
one_longer [] x = refl
one_longer (y ∷ xs) x = let e = one_longer xs x in grind (arith, e)

pub slot_there : {A : Type 0} (xs : List A) (i : ℕ) → slice_get xs i ≡ None → i < length xs → ⊥
slot_there [] i e l = omega arith
slot_there (x ∷ xs) zero e l = cc
slot_there (x ∷ xs) (suc i) e l = slot_there xs i e (omega arith)

-- ---- one thing after another

module _ {N : Type 0} (tree : List Node) (F : AtStops N) where
  pub ends_less : {A : Type 0} (n k : ℕ) → n ≤ k → (H : ℕ → A → Type 0) (d : Done N A) → Ends tree F k H d → Ends tree F n H d
  ends_less n k l H (Gives a t) h = let g = h.0.0 in ((omega arith, h.0.1), h.1)
  ends_less n k l H (Stops c t) h = h
  ends_less n k l H other h = let g = h.0 in (omega arith, h.1)

  pub lead_less : {A : Type 0} {H : ℕ → A → Type 0} {m : Act N A} (n k : ℕ) → n ≤ k → Leads tree F n H m → Leads tree F k H m
  lead_less n k l h = record { after = λ s c. h.after s (let g = c.0 in (omega arith, c.1)) }

  ends_bind : {A B : Type 0} (n : ℕ) (G : ℕ → A → Type 0) (H : ℕ → B → Type 0) (f : A → Act N B) → ((k : ℕ) (a : A) → n ≤ k → G k a → Leads tree F k H (f a)) → (d : Done N A) → Ends tree F n G d → Ends tree F n H (and_then d f)
  unfolding and_then
  ends_bind n G H f k (Gives a t) h = ends_less n (length t.slots) h.0.0 H (f a t) ((k (length t.slots) a h.0.0 h.1).after t (omega arith, h.0.1))
  ends_bind n G H f k other h = h

  pub lead_bind : {A B : Type 0} {n : ℕ} {H : ℕ → B → Type 0} {m : Act N A} {f : A → Act N B} (G : ℕ → A → Type 0) → Leads tree F n G m → ((k : ℕ) (a : A) → n ≤ k → G k a → Leads tree F k H (f a)) → Leads tree F n H (m >>= f)
  unfolding ◌>>=◌
  lead_bind {n = n} {H = H} {m = m} {f = f} G h k = record { after = λ s c. ends_bind (length s.slots) G H f (λ i a l g. k i a (let e = c.0 in omega arith) g) (m s) (h.after s c) }

  pub lead_next : {A B : Type 0} {n : ℕ} {H : ℕ → B → Type 0} {m : Act N A} {f : A → Act N B} → Leads tree F n Nothing m → ((a : A) → Leads tree F n H (f a)) → Leads tree F n H (m >>= f)
  lead_next {n = n} h k = lead_bind Nothing h (λ i a l g. lead_less n i l (k a))

  pub lead_then : {A B : Type 0} {n : ℕ} {H : ℕ → B → Type 0} {m : Act N A} {l : Act N B} → Leads tree F n Nothing m → Leads tree F n H l → Leads tree F n H (m >> l)
  unfolding ◌>>=◌ ◌>>◌
  lead_then {l = l} h k = lead_next {f = λ _. l} h (λ _. k)

  pub lead_give : {A : Type 0} {n : ℕ} (a : A) → Leads tree F n Nothing (give a)
  unfolding give
  lead_give a = record { after = λ s c. ((omega arith, c.1), tt) }

  pub lead_gives : {A : Type 0} {n : ℕ} (H : ℕ → A → Type 0) (a : A) → ((k : ℕ) → n ≤ k → H k a) → Leads tree F n H (give a)
  unfolding give
  lead_gives H a h = record { after = λ s c. ((omega arith, c.1), h (length s.slots) c.0) }

  pub lead_look : {A : Type 0} {n : ℕ} (f : Vat N → A) → Leads tree F n Nothing (look f)
  unfolding look
  lead_look f = record { after = λ s c. ((omega arith, c.1), tt) }

  -- what is looked at, with what the state tells of it
  pub lead_sees : {A B : Type 0} {n : ℕ} {H : ℕ → B → Type 0} (g : Vat N → A) (f : A → Act N B) → ((s : Vat N) → Kept tree n s → Ends tree F (length s.slots) H (f (g s) s)) → Leads tree F n H (look g >>= f)
  unfolding look ◌>>=◌ and_then
  lead_sees g f h = record { after = λ s c. h s c }

  pub lead_throw : {A : Type 0} {n : ℕ} {H : ℕ → A → Type 0} (p : Words) → Leads tree F n H (throw {A = A} p)
  unfolding throw
  lead_throw p = record { after = λ s c. (omega arith, c.1) }

  pub lead_eject : {A : Type 0} {n : ℕ} {H : ℕ → A → Type 0} (i : ℕ) (v : Value N) → Leads tree F n H (eject {A = A} i v)
  unfolding eject
  lead_eject i v = record { after = λ s c. (omega arith, c.1) }

  pub lead_stop : {A : Type 0} {n : ℕ} {H : ℕ → A → Type 0} (c : Stop) → ((s : Vat N) → F c s) → Leads tree F n H (stop {A = A} c)
  unfolding stop
  lead_stop c f = record { after = λ s k. f s }

  pub lead_some : {A B : Type 0} {n : ℕ} {H : ℕ → B → Type 0} (o : Option A) {f : A → Act N B} {m : Act N B} → ((a : A) → Leads tree F n H (f a)) → Leads tree F n H m → Leads tree F n H (for_some o f m)
  unfolding for_some
  lead_some (Some a) h k = h a
  lead_some None h k = k

  pub lead_if : {A : Type 0} {n : ℕ} {H : ℕ → A → Type 0} (b : Bool) {m l : Act N A} → Leads tree F n H m → Leads tree F n H l → Leads tree F n H (if b then m else l)
  lead_if true h k = h
  lead_if false h k = k

  ends_end : {A B : Type 0} (n : ℕ) (G : ℕ → A → Type 0) (H : ℕ → B → Type 0) (f : A → Act N B) (g : Words → Act N B) (h : ℕ → Value N → Act N B)
      → ((k : ℕ) (a : A) → n ≤ k → G k a → Leads tree F k H (f a)) → ((p : Words) → Leads tree F n H (g p)) → ((i : ℕ) (v : Value N) → Leads tree F n H (h i v))
      → (d : Done N A) → Ends tree F n G d → Ends tree F n H (end_by f g h d)
  unfolding end_by
  ends_end n G H f g h x y z (Gives a t) e = ends_less n (length t.slots) e.0.0 H (f a t) ((x (length t.slots) a e.0.0 e.1).after t (omega arith, e.0.1))
  ends_end n G H f g h x y z (Throws p t) e = ends_less n (length t.slots) e.0 H (g p t) ((y p).after t e)
  ends_end n G H f g h x y z (Ejects i v t) e = ends_less n (length t.slots) e.0 H (h i v t) ((z i v).after t e)
  ends_end n G H f g h x y z (Stops c t) e = e

  pub lead_ending : {A B : Type 0} {n : ℕ} {H : ℕ → B → Type 0} {m : Act N A} {f : A → Act N B} {g : Words → Act N B} {h : ℕ → Value N → Act N B} (G : ℕ → A → Type 0) → Leads tree F n G m
      → ((k : ℕ) (a : A) → n ≤ k → G k a → Leads tree F k H (f a)) → ((p : Words) → Leads tree F n H (g p)) → ((i : ℕ) (v : Value N) → Leads tree F n H (h i v)) → Leads tree F n H (ending f g h m)
  unfolding ending
  lead_ending {n = n} {H = H} {m = m} {f = f} {g = g} {h = h} G r x y z = record { after = λ s c. let l = c.0 in ends_end (length s.slots) G H f g h (λ k a i e. x k a (omega arith) e) (λ p. lead_less n (length s.slots) c.0 (y p)) (λ i v. lead_less n (length s.slots) c.0 (z i v)) (m s) (r.after s c) }

  pub lead_ends : {A B : Type 0} {n : ℕ} {H : ℕ → B → Type 0} {m : Act N A} {f : A → Act N B} {g : Words → Act N B} {h : ℕ → Value N → Act N B} → ((a : A) → Leads tree F n H (f a)) → ((p : Words) → Leads tree F n H (g p)) → ((i : ℕ) (v : Value N) → Leads tree F n H (h i v)) → Leads tree F n Nothing m
      → Leads tree F n H (ending f g h m)
  lead_ends {n = n} x y z r = lead_ending Nothing r (λ k a l e. lead_less n k l (x a)) y z

  ends_more : {A : Type 0} (n : ℕ) (G H : ℕ → A → Type 0) → ((k : ℕ) (a : A) → n ≤ k → G k a → H k a) → (d : Done N A) → Ends tree F n G d → Ends tree F n H d
  ends_more n G H f (Gives a t) e = (e.0, f (length t.slots) a e.0.0 e.1)
  ends_more n G H f other e = e

  pub lead_more : {A : Type 0} {n : ℕ} {H : ℕ → A → Type 0} {m : Act N A} (G : ℕ → A → Type 0) → ((k : ℕ) (a : A) → n ≤ k → G k a → H k a) → Leads tree F n G m → Leads tree F n H m
  lead_more {n = n} {H = H} {m = m} G f h = record { after = λ s c. ends_more (length s.slots) G H (λ k a l g. f k a (let e = c.0 in omega arith) g) (m s) (h.after s c) }

  pub lead_forget : {A : Type 0} {n : ℕ} {m : Act N A} (G : ℕ → A → Type 0) → Leads tree F n G m → Leads tree F n Nothing m
  lead_forget G h = lead_more G (λ k a l g. tt) h

  -- ---- single changes

  pub lead_tell : {n : ℕ} (e : Happened N) → Leads tree F n Nothing (tell e)
  unfolding tell
  lead_tell e = record { after = λ s c. ((omega arith, c.1), tt) }

  pub lead_activation : {n : ℕ} → Leads tree F n Nothing (new_activation {N = N})
  unfolding new_activation
  lead_activation = record { after = λ s c. ((omega arith, c.1), tt) }

  pub lead_list : {n : ℕ} (vs : List (Value N)) → Leads tree F n Nothing (new_list vs)
  unfolding new_list
  lead_list vs = record { after = λ s c. ((omega arith, c.1), tt) }

  spent_ends : (s : Vat N) (i : ℕ) (b : Bool) → F Fuel s → Carries tree s → Ends tree F (length s.slots) Nothing (spent i b s)
  unfolding spent
  spent_ends s i true f c = ((omega arith, c), tt)
  spent_ends s i false f c = f

  pub lead_spend : {n : ℕ} (i : ℕ) → ((s : Vat N) → F Fuel s) → Leads tree F n Nothing (spend i)
  unfolding spend
  lead_spend i f = record { after = λ s c. spent_ends s i (nat_le i s.fuel) (f s) c.1 }

  -- a slot comes to be, and is there
  pub lead_slot : {n : ℕ} (g v : Value N) → Leads tree F n (λ k i. i < k) (new_slot g v)
  unfolding new_slot
  lead_slot g v = record { after = λ s c. let e = one_longer s.slots (record { guard = g; value = v }) in ((omega (arith, e), things_up tree (length s.slots) (length (s.slots ++ record { guard = g; value = v } ∷ [])) (omega (arith, e)) s.things c.1), omega (arith, e)) }

  pub lead_write : {n : ℕ} (i : ℕ) (v : Value N) → Leads tree F n Nothing (write_slot i v)
  unfolding write_slot
  lead_write i v = record { after = λ s c. let e = length_change (holding v) i s.slots in ((omega (arith, e), subst (λ k. AllOf (ThingCarries tree k) s.things) (sym e) c.1), tt) }

  pub lead_thing : {n : ℕ} (t : Thing N) → ((k : ℕ) → n ≤ k → ThingCarries tree k t) → Leads tree F n Nothing (new_thing t)
  unfolding new_thing
  lead_thing t h = record { after = λ s c. ((omega arith, all_end _ s.things t c.1 (h (length s.slots) c.0)), tt) }

  pub lead_resolver : {n : ℕ} (p : N) → Leads tree F n Nothing (new_thing (Resolver p))
  lead_resolver p = lead_thing (Resolver p) (λ k l. tt)

  pub lead_kill : {n : ℕ} (i : ℕ) → Leads tree F n Nothing (kill {N = N} i)
  unfolding kill
  lead_kill i = record { after = λ s c. ((omega arith, all_change _ dead (dead_carries tree (length s.slots)) i s.things c.1), tt) }

  -- each thing that is there carries its captures
  pub lead_look_thing : {B : Type 0} {n : ℕ} {H : ℕ → B → Type 0} (i : ℕ) (f : Option (Thing N) → Act N B)
      → ((s : Vat N) → slice_get s.things i ≡ None → Ends tree F (length s.slots) H (f None s)) → ((k : ℕ) (t : Thing N) → n ≤ k → ThingCarries tree k t → Leads tree F k H (f (Some t)))
      → Leads tree F n H (look (λ s. slice_get s.things i) >>= f)
  lead_look_thing {n = n} {H = H} i f x y = lead_sees (λ s. slice_get s.things i) f (λ s c. go s c (slice_get s.things i) refl)
    where
      go : (s : Vat N) → Kept tree n s → (o : Option (Thing N)) → slice_get s.things i ≡ o → Ends tree F (length s.slots) H (f o s)
      go s c None e = x s e
      go s c (Some t) e = (y (length s.slots) t c.0 (all_at _ s.things i t c.1 e)).after s (omega arith, c.1)

  -- a slot whose number is one of so many is there
  pub lead_look_slot : {B : Type 0} {n : ℕ} {H : ℕ → B → Type 0} (i : ℕ) (f : Option (Cell N) → Act N B) → i < n → ((c : Cell N) → Leads tree F n H (f (Some c))) → Leads tree F n H (look (λ s. slice_get s.slots i) >>= f)
  lead_look_slot {n = n} {H = H} i f l y = lead_sees (λ s. slice_get s.slots i) f (λ s c. go s c (slice_get s.slots i) refl)
    where
      go : (s : Vat N) → Kept tree n s → (o : Option (Cell N)) → slice_get s.slots i ≡ o → Ends tree F (length s.slots) H (f o s)
      go s c None e = absurd (slot_there s.slots i e (let g = c.0 in omega arith))
      go s c (Some x) e = (y x).after s c

-- what evaluation does with references and promises
pub record Refers {N W : Type 0} (K : Naming N W) (tree : List Node) (F : AtStops N) : Type 0 where
  pub promises : (n : ℕ) → Leads tree F n Nothing (new_promise K)
  pub breaks : (n : ℕ) (p : N) (t : Words) → Leads tree F n Nothing (settle K p (Broken t))
  pub resolves : (n : ℕ) (p : N) (y : Value N) → Leads tree F n Nothing (resolve K p y)
  pub sends : (n act : ℕ) (x : Value N) (verb : Words) (args : List (Value N)) → Leads tree F n Nothing (send K act x verb args)
  pub sends_only : (n act : ℕ) (x : Value N) (verb : Words) (args : List (Value N)) → Leads tree F n Nothing (send_only K act x verb args)
  pub reacts : (n act : ℕ) (x o near : Value N) → Leads tree F n Nothing (react K act x o near)

-- What may hold where a vat stops: whatever it is, if it does not go astray; and if it does, where an object is not there.
pub record MayStop {N : Type 0} (F : AtStops N) : Type 0 where
  pub fuel : (s : Vat N) → F Fuel s
  pub deep : (s : Vat N) → F Deep s
  pub lost : (s : Vat N) (i : ℕ) → slice_get s.things i ≡ None → F Astray s

pub ruleset leads = (lead_next, lead_then, lead_some, lead_if, lead_give, lead_look, lead_throw, lead_eject, lead_ends, lead_tell, lead_activation, lead_list, lead_write, lead_resolver, lead_kill)
