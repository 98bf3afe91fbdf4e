-- Ejectors that are live are awaited: what a list of escapes awaits, and how something that a vat does ends under them.
use Rattle.std.proofs.Common.{◌≡◌, ℕ, zero, suc, Bool, true, false, List, [], ◌∷◌, ◌++◌, Option, Some, None, if◌then◌else◌, refl, ◌⊎◌, inl, inr, ◌==◌, length}
use Rattle.std.specs.Prelude.{slice_get, nat_le}
use Rattle.std.proofs.lemmas.Bool.{eq-eqb}
use Rattle.def_machine.specs.Values.{Words, Value, Broken, Naming, Coming}
use Rattle.def_machine.specs.State.{Thing, Made, Ejector, Audition, Resolver, View, Binding, Message, Note, Happened, Back, Thrown, Left, EjectorMade, Sends, Reacts, Settles, Settle, Change, Vat, Stop, Done, Gives, Throws, Ejects, Stops, Act, ◌>>=◌, ◌>>◌, and_then, end_by, ending, give, throw, stop, eject, look, tell, spend, spent, new_activation, new_thing, kill, change, dead, new_slot, write_slot, new_list, enqueue, send_out, alter, come, draw, draws, new_promise, new_message, new_lone_message}
use Rattle.def_machine.specs.Refs.{settle, resolve, send, send_only, react}
use Rattle.def_machine.specs.Scopes.{ended}
use Rattle.def_machine.specs.Calls.{leave, leaving, new_ejector}
use Rattle.def_kernel.specs.declared.node.Node.{Node}
use Rattle.law_machine.proofs.Machine.Walks.{Property, Holds, IsClosed, InRefs, InRefsUnder, InSettling, InSending, walk, walk_then}
use Rattle.law_machine.proofs.Machine.RefsWalk.{settles_by_lines, walk_settle, walk_resolve, walk_send, walk_send_only, walk_react}
use Rattle.law_fate.specs.Name.Names.{IsAmong}

-- each ejector that is live is one of these
abbrev pub Awaits : {N : Type 0} → List ℕ → List (Thing N) → Type 0
Awaits es ts = (i : ℕ) → slice_get ts i ≡ Some (Ejector true) → IsAmong i es

-- so it is after, and what is left by an ejector is left by one of them
abbrev pub EndsAwaited : {N A : Type 0} → List ℕ → Done N A → Type 0
EndsAwaited es (Gives a t) = Awaits es t.things
EndsAwaited es (Throws p t) = Awaits es t.things
EndsAwaited es (Ejects n v t) = Awaits es t.things × IsAmong n es
EndsAwaited es (Stops c t) = Unit {0}

abbrev pub AwaitedBy : {N : Type 0} → List ℕ → Property N
AwaitedBy {N} es A m = (s : Vat N) → Awaits es s.things → EndsAwaited es (m s)

abbrev pub Awaited : {N A : Type 0} → List ℕ → Act N A → Type 0
Awaited es m = Holds (AwaitedBy es) m

module _ {N : Type 0} where
  end_or : (ts : List (Thing N)) (x : Thing N) (i : ℕ) → slice_get (ts ++ x ∷ []) i ≡ Some (Ejector true) → (slice_get ts i ≡ Some (Ejector true)) ⊎ ((i ≡ length ts) × (x ≡ Ejector true))
  end_or [] x zero e = let same : x ≡ Ejector true = cc in inr (refl, same)
  end_or [] x (suc i) e = cc
  end_or (t ∷ ts) x zero e = inl e
  end_or (t ∷ ts) x (suc i) e = go (end_or ts x i e)
    where
      go : (slice_get ts i ≡ Some (Ejector true)) ⊎ ((i ≡ length ts) × (x ≡ Ejector true)) → (slice_get ts i ≡ Some (Ejector true)) ⊎ ((suc i ≡ suc (length ts)) × (x ≡ Ejector true))
      go (inl h) = inl h
      go (inr h) = inr (let f = h.0 in cc, h.1)

  no_made : (node : ℕ) (caught : List (Binding N)) (stamps : List (Value N)) → Made node caught stamps ≡ Ejector true → ⊥
  no_made node caught stamps e = cc

  no_audition : (view : View N) → Audition true view ≡ Ejector true → ⊥
  no_audition view e = cc

  no_resolver : (p : N) → Resolver p ≡ Ejector true → ⊥
  no_resolver p e = cc

  dead_not : (x : Thing N) → dead x ≡ Ejector true → ⊥
  unfolding dead
  dead_not (Made node caught stamps) e = cc
  dead_not other e = cc

  some_thing : (x y : Thing N) → Some x ≡ Some y → x ≡ y
  some_thing x y e = cc

  -- what is live after one is dead, was live before and is another one
  live_other : (ts : List (Thing N)) (k i : ℕ) → slice_get (change dead k ts) i ≡ Some (Ejector true) → (slice_get ts i ≡ Some (Ejector true)) × (i ≡ k → ⊥)
  unfolding change
  live_other [] k i e = cc
  live_other (t ∷ ts) zero zero e = absurd (dead_not t (some_thing (dead t) (Ejector true) e))
  live_other (t ∷ ts) zero (suc i) e = (e, λ f. cc)
  live_other (t ∷ ts) (suc k) zero e = (e, λ f. cc)
  live_other (t ∷ ts) (suc k) (suc i) e = let h = live_other ts k i e in (h.0, λ f. h.1 (let g = f in cc))

module _ {N : Type 0} (es : List ℕ) where
  bind_ends : {A B : Type 0} (d : Done N A) (f : A → Act N B) → EndsAwaited es d → ((a : A) → Awaited es (f a)) → EndsAwaited es (and_then d f)
  unfolding and_then
  bind_ends (Gives a t) f h k = (k a).after t h
  bind_ends (Stops c t) f h k = tt
  bind_ends other f h k = h

  await_bind : {A B : Type 0} {m : Act N A} {f : A → Act N B} → Awaited es m → ((a : A) → Awaited es (f a)) → Awaited es (m >>= f)
  unfolding ◌>>=◌
  await_bind {m = m} {f = f} h k = record { after = λ s a. bind_ends (m s) f (h.after s a) k }

  await_give : {A : Type 0} (a : A) → Awaited es (give {N = N} a)
  unfolding give
  await_give a = record { after = λ s h. h }

  await_stop : {A : Type 0} (c : Stop) → Awaited es (stop {N = N} {A = A} c)
  unfolding stop
  await_stop c = record { after = λ s h. tt }

  await_look : {A : Type 0} (f : Vat N → A) → Awaited es (look f)
  unfolding look
  await_look f = record { after = λ s h. h }

  pub awaited_closed : IsClosed (AwaitedBy {N = N} es)
  awaited_closed = record { gives = await_give; stops = await_stop; looks = await_look; binds = await_bind }

  end_ends : {A B : Type 0} (d : Done N A) (f : A → Act N B) (g : Words → Act N B) (h : ℕ → Value N → Act N B) → EndsAwaited es d
      → ((a : A) → Awaited es (f a)) → ((p : Words) → Awaited es (g p)) → ((n : ℕ) (v : Value N) → IsAmong n es → Awaited es (h n v)) → EndsAwaited es (end_by f g h d)
  unfolding end_by
  end_ends (Gives a t) f g h e i j k = (i a).after t e
  end_ends (Throws p t) f g h e i j k = (j p).after t e
  end_ends (Ejects n v t) f g h e i j k = (k n v e.1).after t e.0
  end_ends (Stops c t) f g h e i j k = tt

  pub await_ending : {A B : Type 0} {f : A → Act N B} {g : Words → Act N B} {h : ℕ → Value N → Act N B} {m : Act N A}
      → ((a : A) → Awaited es (f a)) → ((p : Words) → Awaited es (g p)) → ((n : ℕ) (v : Value N) → IsAmong n es → Awaited es (h n v)) → Awaited es m → Awaited es (ending f g h m)
  unfolding ending
  await_ending {f = f} {g = g} {h = h} {m = m} i j k r = record { after = λ s a. end_ends (m s) f g h (r.after s a) i j k }

  pub await_throw : {A : Type 0} (p : Words) → Awaited es (throw {N = N} {A = A} p)
  unfolding throw
  await_throw p = record { after = λ s h. h }

  -- an ejection to an escape that is among them
  pub await_eject : {A : Type 0} (n : ℕ) (v : Value N) → IsAmong n es → Awaited es (eject {A = A} n v)
  unfolding eject
  await_eject n v i = record { after = λ s h. (h, i) }

  pub await_tell : (e : Happened N) → Awaited es (tell e)
  unfolding tell
  await_tell e = record { after = λ s h. h }

  spend_ends : (s : Vat N) (n : ℕ) (b : Bool) → Awaits es s.things → EndsAwaited es (spent n b s)
  unfolding spent
  spend_ends s n true h = h
  spend_ends s n false h = tt

  pub await_spend : (n : ℕ) → Awaited es (spend {N = N} n)
  unfolding spend
  await_spend n = record { after = λ s h. spend_ends s n (nat_le n s.fuel) h }

  pub await_activation : Awaited es (new_activation {N = N})
  unfolding new_activation
  await_activation = record { after = λ s h. h }

  pub await_slot : (g v : Value N) → Awaited es (new_slot g v)
  unfolding new_slot
  await_slot g v = record { after = λ s h. h }

  pub await_write : (n : ℕ) (v : Value N) → Awaited es (write_slot n v)
  unfolding write_slot
  await_write n v = record { after = λ s h. h }

  pub await_list : (vs : List (Value N)) → Awaited es (new_list vs)
  unfolding new_list
  await_list vs = record { after = λ s h. h }

  await_enqueue : (m : Message N) → Awaited es (enqueue m)
  unfolding enqueue
  await_enqueue m = record { after = λ s h. h }

  await_out : (to : ℕ) (n : Note N) → Awaited es (send_out to n)
  unfolding send_out
  await_out to n = record { after = λ s h. h }

  draws_end : (s : Vat N) (w : ℕ) (o : Option ℕ) → Awaits es s.things → EndsAwaited es (draws w o s)
  unfolding draws
  draws_end s w (Some i) h = tt
  draws_end s w None h = h

  -- ---- things

  thing_awaits : (ts : List (Thing N)) (x : Thing N) → (x ≡ Ejector true → ⊥) → Awaits es ts → Awaits es (ts ++ x ∷ [])
  thing_awaits ts x not h i e = go (end_or ts x i e)
    where
      go : (slice_get ts i ≡ Some (Ejector true)) ⊎ ((i ≡ length ts) × (x ≡ Ejector true)) → IsAmong i es
      go (inl f) = h i f
      go (inr f) = absurd (not f.1)

  await_thing : (x : Thing N) → (x ≡ Ejector true → ⊥) → Awaited es (new_thing x)
  unfolding new_thing
  await_thing x not = record { after = λ s h. thing_awaits s.things x not h }

  pub await_object : (node : ℕ) (caught : List (Binding N)) (stamps : List (Value N)) → Awaited es (new_thing (Made node caught stamps))
  await_object node caught stamps = await_thing (Made node caught stamps) (no_made node caught stamps)

  pub await_audition : (view : View N) → Awaited es (new_thing (Audition true view))
  await_audition view = await_thing (Audition true view) (no_audition view)

  pub await_resolver : (p : N) → Awaited es (new_thing (Resolver p))
  await_resolver p = await_thing (Resolver p) (no_resolver p)

  pub await_kill : (n : ℕ) → Awaited es (kill {N = N} n)
  unfolding kill
  await_kill n = record { after = λ s h. λ i e. h i (live_other s.things n i e).0 }

  pub await_look_thing : {B : Type 0} (i : ℕ) {f : Option (Thing N) → Act N B} → ((o : Option (Thing N)) → (o ≡ Some (Ejector true) → IsAmong i es) → Awaited es (f o)) → Awaited es (look (λ s. slice_get s.things i) >>= f)
  unfolding look ◌>>=◌ and_then
  await_look_thing i k = record { after = λ s h. (k (slice_get s.things i) (h i)).after s h }

-- ---- an ejector, and what is done while it is live

module _ {N : Type 0} (es : List ℕ) (j : ℕ) where
  less_one : (ts : List (Thing N)) → Awaits (j ∷ es) ts → Awaits es (change dead j ts)
  less_one ts h i e = let g = live_other ts j i e in go (h i g.0) g.1
    where
      go : (i ≡ j) ⊎ IsAmong i es → (i ≡ j → ⊥) → IsAmong i es
      go (inl f) not = absurd (not f)
      go (inr f) not = f

  -- once its escape is left
  left_awaits : {W A : Type 0} (K : Naming N W) (tree : List Node) (m : Act N A) (t : Vat N) → Awaited es m → Awaits (j ∷ es) t.things → EndsAwaited es (leave K tree j m t)
  unfolding leave ◌>>◌ and_then kill
  left_awaits K tree m t h a = h.after (record t { things = change dead j t.things }) (less_one t.things a)

  again_or : (n : ℕ) (b : Bool) → (n == j) ≡ b → IsAmong n (j ∷ es) → {B : Type 0} (x : Act N B) (v : Value N) → Awaited es x → Awaited es (if b then x else eject n v)
  again_or n true e i x v h = h
  again_or n false e i x v h = await_eject es n v (go i)
    where
      go : (n ≡ j) ⊎ IsAmong n es → IsAmong n es
      go (inl f) = let g = eq-eqb n j f in cc
      go (inr f) = f

  module _ {W A B : Type 0} (K : Naming N W) (tree : List Node) {f : A → Act N B} {g : Words → Act N B} {x : Value N → Act N B} where
    escape_ends : (d : Done N A) → EndsAwaited (j ∷ es) d → ((a : A) → Awaited es (f a)) → ((p : Words) → Awaited es (g p)) → ((v : Value N) → Awaited es (x v))
        → EndsAwaited es (end_by (λ a. leave K tree j (f a)) (λ p. leave K tree j (g p)) (λ n v. leave K tree j (if n == j then x v else eject n v)) d)
    unfolding end_by
    escape_ends (Gives a t) e h k l = left_awaits K tree (f a) t (h a) e
    escape_ends (Throws p t) e h k l = left_awaits K tree (g p) t (k p) e
    escape_ends (Ejects n v t) e h k l = left_awaits K tree (if n == j then x v else eject n v) t (again_or n (n == j) refl e.1 (x v) v (l v)) e.0
    escape_ends (Stops c t) e h k l = tt

module _ {N : Type 0} (es : List ℕ) where
  new_awaits : (ts : List (Thing N)) → Awaits es ts → Awaits (length ts ∷ es) (ts ++ Ejector true ∷ [])
  new_awaits ts h i e = go (end_or ts (Ejector true) i e)
    where
      go : (slice_get ts i ≡ Some (Ejector true)) ⊎ ((i ≡ length ts) × ◌≡◌ {A = Thing N} (Ejector true) (Ejector true)) → (i ≡ length ts) ⊎ IsAmong i es
      go (inl f) = inr (h i f)
      go (inr f) = inl f.0

module _ {N W A B : Type 0} (es : List ℕ) (K : Naming N W) (tree : List Node) where
  -- What leaves by it is caught there, and what leaves by another one leaves by that.
  pub await_escape : (act : ℕ) {f : ℕ → A → Act N B} {g : ℕ → Words → Act N B} {x : ℕ → Value N → Act N B} {m : ℕ → Act N A}
      → ((j : ℕ) (a : A) → Awaited es (f j a)) → ((j : ℕ) (p : Words) → Awaited es (g j p)) → ((j : ℕ) (v : Value N) → Awaited es (x j v)) → ((j : ℕ) → Awaited (j ∷ es) (m j))
      → Awaited es (new_ejector K tree act >>= λ j. ending (λ a. leave K tree j (f j a)) (λ p. leave K tree j (g j p)) (λ n v. leave K tree j (if n == j then x j v else eject n v)) (m j))
  unfolding new_ejector new_thing tell give ◌>>=◌ ◌>>◌ and_then ending
  await_escape act {f = f} {g = g} {x = x} {m = m} h k l r = record {
    after = λ s a. let j : ℕ = length s.things in let t : Vat N = record s { things = s.things ++ Ejector true ∷ []; happened = s.happened ++ EjectorMade act (K.object j) ∷ [] } in
        escape_ends es j K tree {f = f j} {g = g j} {x = x j} (m j t) ((r j).after t (new_awaits es s.things a)) (h j) (k j) (l j);
  }

-- ---- references

module _ {N W : Type 0} (es : List ℕ) (K : Naming N W) where
  await_alter : (c : Change N) (n : N) → Awaited es (alter K c n)
  unfolding alter
  await_alter c n = record { after = λ s h. h }

  await_come : (c : Coming N W) (h : ℕ) → Awaited es (come K c h)
  unfolding come
  await_come c w = record { after = λ s h. h }

  await_message : (h : ℕ) → Awaited es (new_message K h)
  unfolding new_message
  await_message w = record { after = λ s h. h }

  await_lone_message : Awaited es (new_lone_message K)
  unfolding new_lone_message
  await_lone_message = record { after = λ s h. h }

  await_draw : Awaited es (draw K)
  unfolding draw
  await_draw = record { after = λ s h. draws_end es s _ _ h }

  pub await_promise : Awaited es (new_promise K)
  unfolding new_promise
  await_promise = record { after = λ s h. h }

  in_refs : InRefs (AwaitedBy {N = N} es)
  in_refs = record { tells = λ e h. await_tell es e; spends = await_spend es; queues = await_enqueue es; puts = λ to n h. await_out es to n }

  in_refs_under : InRefsUnder (AwaitedBy es) K
  in_refs_under = record { alters = λ c n h. await_alter c n; comes = await_come; draws = await_draw }

  settling : InSettling (AwaitedBy es) K
  settling = settles_by_lines (AwaitedBy es) K (awaited_closed es) in_refs in_refs_under (λ p y m h. walk_then (AwaitedBy es) (awaited_closed es) (await_tell es (Settles p y)) (walk_then (AwaitedBy es) (awaited_closed es) (await_alter (Settle y) p) h))

  sending : InSending (AwaitedBy es) K
  sending = record { messages = await_message; lone_messages = await_lone_message; sends = λ a m. await_tell es (Sends a m); reacts = λ a x o m. await_tell es (Reacts a x o m) }

  pub await_break : (p : N) (t : Words) → Awaited es (settle K p (Broken t))
  await_break p t = walk_settle (AwaitedBy es) K (awaited_closed es) in_refs in_refs_under settling p (Broken t)

  pub await_resolve : (p : N) (y : Value N) → Awaited es (resolve K p y)
  await_resolve p y = walk_resolve (AwaitedBy es) K (awaited_closed es) in_refs in_refs_under settling p y

  pub await_send : (act : ℕ) (x : Value N) (verb : Words) (args : List (Value N)) → Awaited es (send K act x verb args)
  await_send act x verb args = walk_send (AwaitedBy es) K (awaited_closed es) in_refs in_refs_under settling sending act x verb args

  pub await_send_only : (act : ℕ) (x : Value N) (verb : Words) (args : List (Value N)) → Awaited es (send_only K act x verb args)
  await_send_only act x verb args = walk_send_only (AwaitedBy es) K (awaited_closed es) in_refs in_refs_under settling sending act x verb args

  pub await_react : (act : ℕ) (x o near : Value N) → Awaited es (react K act x o near)
  await_react act x o near = walk_react (AwaitedBy es) K (awaited_closed es) in_refs in_refs_under settling sending act x o near

-- ---- calls and their lines

module _ {N : Type 0} (es : List ℕ) where
  pub await_ended : (act : ℕ) (m : Act N (Value N)) → Awaited es m → Awaited es (ended act m)
  unfolding ended
  await_ended act m h = await_ending es (λ v. walk_then (AwaitedBy es) (awaited_closed es) (await_tell es (Back act v)) (await_give es v)) (λ p. walk_then (AwaitedBy es) (awaited_closed es) (await_tell es (Thrown act p)) (await_throw es p))
      (λ n v i. walk_then (AwaitedBy es) (awaited_closed es) (await_tell es (Left act)) (await_eject es n v i)) h

  pub await_leaving : {W A : Type 0} (K : Naming N W) (tree : List Node) (n : ℕ) (m : Act N A) → Awaited es m → Awaited es (leaving K tree n m)
  unfolding leaving leave
  await_leaving K tree n m h = await_ending es (λ v. walk_then (AwaitedBy es) (awaited_closed es) (await_kill es n) (await_give es v)) (λ p. walk_then (AwaitedBy es) (awaited_closed es) (await_kill es n) (await_throw es p))
      (λ k v i. walk_then (AwaitedBy es) (awaited_closed es) (await_kill es n) (await_eject es k v i)) h

pub ruleset awaits = (walk, awaited_closed, await_throw, await_tell, await_spend, await_activation, await_slot, await_write, await_list, await_object, await_audition, await_resolver, await_promise)
