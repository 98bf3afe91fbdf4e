-- What a vat does leaves no ejector and no audition live that was not live before. A traversal in which what is made live, and what is done with it, is one block.
use Rattle.std.proofs.Common.{◌≡◌, ℕ, zero, suc, Bool, true, false, List, [], ◌∷◌, ◌++◌, Option, Some, None, length, refl, sym, ap, ◌∙◌, ◌⊎◌, inl, inr}
use Rattle.std.specs.Prelude.{nat_le}
use Rattle.def_machine.specs.Values.{Words, Value, Naming, Coming, Mailing}
use Rattle.def_machine.specs.State.{Took, Called, Back, Thrown, Left, Settles, Views, AuditionMade, See, Settle, Thing, Made, Ejector, Audition, Resolver, Binding, View, Message, Happened, EjectorMade, Vat, Stop, Done, Gives, Throws, Ejects, Stops, Act, ◌>>=◌, ◌>>◌, and_then, end_by, ending, give, throw, stop, eject, look, tell, spend, spent, new_activation, new_thing, kill, change, dead, new_slot, write_slot, new_list, enqueue, Change, Note, send_out, new_gift, open_gift, mark, draws, alter, come, mail, new_promise, new_message, draw, new_lone_message}
use Rattle.def_kernel.specs.declared.node.Node.{Node}
use Rattle.def_machine.specs.Calls.{leave, leaving, new_ejector}
use Rattle.law_machine.proofs.Machine.Walks.{Property, Holds, IsClosed, IsEnding, IsDull}
use Rattle.law_machine.proofs.Machine.Blocks.{ends_by_lines}
use Rattle.law_machine.proofs.Machine.Whole.{Whole}
use Rattle.def_machine.specs.Scopes.{ended}
use Rattle.law_uses.specs.Connectivity.Liveness.{is_live, live_at, WasLive, LeavesDead}

false_true : false ≡ true → ⊥
false_true e = cc

zero_suc : (n : ℕ) → zero ≡ suc n → ⊥
zero_suc n e = cc

suc_same : (m n : ℕ) → suc m ≡ suc n → m ≡ n
suc_same m n e = cc

-- at the end comes the new one
live_end : {N : Type 0} (ts : List (Thing N)) (t : Thing N) (i : ℕ) → live_at (ts ++ t ∷ []) i ≡ true → (live_at ts i ≡ true) ⊎ ((i ≡ length ts) × (is_live t ≡ true))
unfolding live_at
live_end [] t zero e = inr (refl, e)
live_end [] t (suc i) e = absurd (false_true e)
live_end (x ∷ ts) t zero e = inl e
live_end (x ∷ ts) t (suc i) e = on_end (live_end ts t i e)
  where
    on_end : (live_at ts i ≡ true) ⊎ ((i ≡ length ts) × (is_live t ≡ true)) → (live_at ts i ≡ true) ⊎ ((suc i ≡ suc (length ts)) × (is_live t ≡ true))
    on_end (inl h) = inl h
    on_end (inr h) = inr (ap suc h.0, h.1)

dead_not : {N : Type 0} (t : Thing N) → is_live (dead t) ≡ true → ⊥
unfolding dead is_live
dead_not (Made node caught stamps) e = false_true e
dead_not other e = false_true e

killed : {N : Type 0} (ts : List (Thing N)) (j i : ℕ) → live_at (change dead j ts) i ≡ true → (live_at ts i ≡ true) × (i ≡ j → ⊥)
unfolding change live_at
killed [] j i e = absurd (false_true e)
killed (t ∷ ts) zero zero e = absurd (dead_not t e)
killed (t ∷ ts) zero (suc i) e = (e, λ h. zero_suc i (sym h))
killed (t ∷ ts) (suc j) zero e = (e, λ h. zero_suc j h)
killed (t ∷ ts) (suc j) (suc i) e = let h = killed ts j i e in (h.0, λ g. h.1 (suc_same i j g))

abbrev pub DiesBy : {N : Type 0} → Property N
DiesBy {N} A m = (s : Vat N) → LeavesDead s (m s)

abbrev pub Dies : {N A : Type 0} → Act N A → Type 0
Dies m = Holds DiesBy m

-- and that number is dead after it
abbrev pub Dead : {N A : Type 0} → ℕ → Vat N → Done N A → Type 0
Dead j s (Gives a t) = (i : ℕ) → live_at t.things i ≡ true → (live_at s.things i ≡ true) × (i ≡ j → ⊥)
Dead j s (Throws p t) = (i : ℕ) → live_at t.things i ≡ true → (live_at s.things i ≡ true) × (i ≡ j → ⊥)
Dead j s (Ejects n v t) = (i : ℕ) → live_at t.things i ≡ true → (live_at s.things i ≡ true) × (i ≡ j → ⊥)
Dead j s (Stops c t) = Unit {0}

pub record Closes {N A : Type 0} (j : ℕ) (m : Act N A) : Type 0 where
  pub after : (s : Vat N) → Dead j s (m s)

module _ {N : Type 0} where
  widen : {A : Type 0} (s t : Vat N) → WasLive s t → (d : Done N A) → LeavesDead t d → LeavesDead s d
  widen s t r (Stops c u) h = tt
  widen s t r other h = λ i e. r i (h i e)

  -- dead before, and dead after
  widen_dead : {A : Type 0} (j : ℕ) (s t : Vat N) → ((i : ℕ) → live_at t.things i ≡ true → (live_at s.things i ≡ true) × (i ≡ j → ⊥)) → (d : Done N A) → LeavesDead t d → Dead j s d
  widen_dead j s t r (Stops c u) h = tt
  widen_dead j s t r other h = λ i e. r i (h i e)

  later_dead : {A : Type 0} (j : ℕ) (s t : Vat N) → WasLive s t → (d : Done N A) → Dead j t d → Dead j s d
  later_dead j s t r (Stops c u) h = tt
  later_dead j s t r other h = λ i e. (r i (h i e).0, (h i e).1)

  bind_after : {A B : Type 0} (s : Vat N) (d : Done N A) (f : A → Act N B) → LeavesDead s d → ((a : A) → Dies (f a)) → LeavesDead s (and_then d f)
  unfolding and_then
  bind_after s (Gives a t) f h k = widen s t h (f a t) ((k a).after t)
  bind_after s other f h k = h

  pub dies_bind : {A B : Type 0} {m : Act N A} {f : A → Act N B} → Dies m → ((a : A) → Dies (f a)) → Dies (m >>= f)
  unfolding ◌>>=◌
  dies_bind {m = m} {f = f} h k = record { after = λ s. bind_after s (m s) f (h.after s) k }

  pub dies_then : {A B : Type 0} {m : Act N A} {n : Act N B} → Dies m → Dies n → Dies (m >> n)
  unfolding ◌>>◌
  dies_then {m = m} {n = n} h k = record { after = λ s. bind_after s (m s) (λ _. n) (h.after s) (λ _. k) }

  end_after : {A B : Type 0} (f : A → Act N B) (g : Words → Act N B) (h : ℕ → Value N → Act N B) (s : Vat N) (d : Done N A) → LeavesDead s d
      → ((a : A) → Dies (f a)) → ((p : Words) → Dies (g p)) → ((n : ℕ) (v : Value N) → Dies (h n v)) → LeavesDead s (end_by f g h d)
  unfolding end_by
  end_after f g h s (Gives a t) r i j k = widen s t r (f a t) ((i a).after t)
  end_after f g h s (Throws p t) r i j k = widen s t r (g p t) ((j p).after t)
  end_after f g h s (Ejects n v t) r i j k = widen s t r (h n v t) ((k n v).after t)
  end_after f g h s (Stops c t) r i j k = tt

  pub dies_ending : {A B : Type 0} {f : A → Act N B} {g : Words → Act N B} {h : ℕ → Value N → Act N B} {m : Act N A}
      → ((a : A) → Dies (f a)) → ((p : Words) → Dies (g p)) → ((n : ℕ) (v : Value N) → Dies (h n v)) → Dies m → Dies (ending f g h m)
  unfolding ending
  dies_ending {f = f} {g = g} {h = h} {m = m} i j k r = record { after = λ s. end_after f g h s (m s) (r.after s) i j k }

  pub dies_give : {A : Type 0} (a : A) → Dies {N = N} (give a)
  unfolding give
  dies_give a = record { after = λ s i e. e }

  pub dies_throw : {A : Type 0} (p : Words) → Dies {N = N} (throw {A = A} p)
  unfolding throw
  dies_throw p = record { after = λ s i e. e }

  pub dies_eject : {A : Type 0} (n : ℕ) (v : Value N) → Dies (eject {A = A} n v)
  unfolding eject
  dies_eject n v = record { after = λ s i e. e }

  pub dies_stop : {A : Type 0} (c : Stop) → Dies {N = N} (stop {A = A} c)
  unfolding stop
  dies_stop c = record { after = λ s. tt }

  pub dies_look : {A : Type 0} (f : Vat N → A) → Dies (look f)
  unfolding look
  dies_look f = record { after = λ s i e. e }

  pub dies_tell : (e : Happened N) → Dies (tell e)
  unfolding tell
  dies_tell e = record { after = λ s i h. h }

  -- ---- what is made live, and what ends its life

  -- what is done with what was made leaves it dead
  made_after : {B : Type 0} (s : Vat N) (t : Thing N) (d : Done N B) → Dead (length s.things) (record s { things = s.things ++ t ∷ [] }) d → LeavesDead s d
  made_after s t (Stops c u) h = tt
  made_after s t other h = λ i e. fits i (live_end s.things t i (h i e).0) (h i e).1
    where
      fits : (i : ℕ) → (live_at s.things i ≡ true) ⊎ ((i ≡ length s.things) × (is_live t ≡ true)) → (i ≡ length s.things → ⊥) → live_at s.things i ≡ true
      fits i (inl g) k = g
      fits i (inr g) k = absurd (k g.0)

  pub dies_audition : {B : Type 0} (view : View N) (f : ℕ → Act N B) → ((j : ℕ) → Closes j (f j)) → Dies (new_thing (Audition true view) >>= f)
  unfolding new_thing ◌>>=◌ and_then
  dies_audition view f h = record { after = λ s. made_after s (Audition true view) (f (length s.things) (record s { things = s.things ++ Audition true view ∷ [] })) ((h (length s.things)).after (record s { things = s.things ++ Audition true view ∷ [] })) }

  pub dies_ejector : {W B : Type 0} (K : Naming N W) (tree : List Node) (a : ℕ) (f : ℕ → Act N B) → ((j : ℕ) → Closes j (f j)) → Dies (new_ejector K tree a >>= f)
  unfolding new_ejector new_thing tell give ◌>>=◌ ◌>>◌ and_then
  dies_ejector K tree a f h = record {
    after = λ s. let t = record s { things = s.things ++ Ejector true ∷ []; happened = s.happened ++ EjectorMade a (K.object (length s.things)) ∷ [] } in
        made_after s (Ejector true) (f (length s.things) t) ((h (length s.things)).after t);
  }

  closes_bind_after : {A B : Type 0} (j : ℕ) (s : Vat N) (d : Done N A) (f : A → Act N B) → Dead j s d → ((a : A) → Dies (f a)) → Dead j s (and_then d f)
  unfolding and_then
  closes_bind_after j s (Gives a t) f h k = widen_dead j s t h (f a t) ((k a).after t)
  closes_bind_after j s other f h k = h

  pub closes_bind : {A B : Type 0} {j : ℕ} {m : Act N A} {f : A → Act N B} → Closes j m → ((a : A) → Dies (f a)) → Closes j (m >>= f)
  unfolding ◌>>=◌
  closes_bind {j = j} {m = m} {f = f} h k = record { after = λ s. closes_bind_after j s (m s) f (h.after s) k }

  pub closes_told : {A : Type 0} {j : ℕ} (e : Happened N) {m : Act N A} → Closes j m → Closes j (tell e >> m)
  unfolding tell ◌>>◌ and_then
  closes_told e {m = m} h = record { after = λ s. h.after (record s { happened = s.happened ++ e ∷ [] }) }

  kill_after : {W A : Type 0} (K : Naming N W) (tree : List Node) (j : ℕ) (s : Vat N) (m : Act N A) → Dies m → Dead j s (leave K tree j m s)
  unfolding leave kill ◌>>◌ and_then
  kill_after K tree j s m h = widen_dead j s (record s { things = change dead j s.things }) (λ i e. killed s.things j i e) (m (record s { things = change dead j s.things })) (h.after (record s { things = change dead j s.things }))

  closes_after : {W A B : Type 0} (K : Naming N W) (tree : List Node) (j : ℕ) (f : A → Act N B) (g : Words → Act N B) (h : ℕ → Value N → Act N B) (s : Vat N) (d : Done N A) → LeavesDead s d
      → ((a : A) → Dies (f a)) → ((p : Words) → Dies (g p)) → ((n : ℕ) (v : Value N) → Dies (h n v)) → Dead j s (end_by (λ a. leave K tree j (f a)) (λ p. leave K tree j (g p)) (λ n v. leave K tree j (h n v)) d)
  unfolding end_by
  closes_after K tree j f g h s (Gives a t) r x y z = later_dead j s t r (leave K tree j (f a) t) (kill_after K tree j t (f a) (x a))
  closes_after K tree j f g h s (Throws p t) r x y z = later_dead j s t r (leave K tree j (g p) t) (kill_after K tree j t (g p) (y p))
  closes_after K tree j f g h s (Ejects n v t) r x y z = later_dead j s t r (leave K tree j (h n v) t) (kill_after K tree j t (h n v) (z n v))
  closes_after K tree j f g h s (Stops c t) r x y z = tt

  pub closes_ending : {W A B : Type 0} (K : Naming N W) (tree : List Node) (j : ℕ) {f : A → Act N B} {g : Words → Act N B} {h : ℕ → Value N → Act N B} {m : Act N A}
      → ((a : A) → Dies (f a)) → ((p : Words) → Dies (g p)) → ((n : ℕ) (v : Value N) → Dies (h n v)) → Dies m
      → Closes j (ending (λ a. leave K tree j (f a)) (λ p. leave K tree j (g p)) (λ n v. leave K tree j (h n v)) m)
  unfolding ending
  closes_ending K tree j {f = f} {g = g} {h = h} {m = m} x y z r = record { after = λ s. closes_after K tree j f g h s (m s) (r.after s) x y z }

  -- ---- the other changes

  dull_after : (s : Vat N) (t : Thing N) → is_live t ≡ false → WasLive s (record s { things = s.things ++ t ∷ [] })
  dull_after s t q i e = fits (live_end s.things t i e)
    where
      fits : (live_at s.things i ≡ true) ⊎ ((i ≡ length s.things) × (is_live t ≡ true)) → live_at s.things i ≡ true
      fits (inl g) = g
      fits (inr g) = absurd (false_true (sym q ∙ g.1))

  pub dies_object : (node : ℕ) (caught : List (Binding N)) (stamps : List (Value N)) → Dies (new_thing (Made node caught stamps))
  unfolding new_thing is_live
  dies_object node caught stamps = record { after = λ s. dull_after s (Made node caught stamps) refl }

  pub dies_resolver : (p : N) → Dies (new_thing (Resolver p))
  unfolding new_thing is_live
  dies_resolver p = record { after = λ s. dull_after s (Resolver p) refl }

  spend_after : (s : Vat N) (n : ℕ) (b : Bool) → LeavesDead s (spent n b s)
  unfolding spent
  spend_after s n true = λ i e. e
  spend_after s n false = tt

  pub dies_spend : (n : ℕ) → Dies {N = N} (spend n)
  unfolding spend
  dies_spend n = record { after = λ s. spend_after s n (nat_le n s.fuel) }

  pub dies_activation : Dies {N = N} (new_activation)
  unfolding new_activation
  dies_activation = record { after = λ s i e. e }

  pub dies_slot : (g v : Value N) → Dies {N = N} (new_slot g v)
  unfolding new_slot
  dies_slot g v = record { after = λ s i e. e }

  pub dies_write : (n : ℕ) (v : Value N) → Dies {N = N} (write_slot n v)
  unfolding write_slot
  dies_write n v = record { after = λ s i e. e }

  pub dies_list : (vs : List (Value N)) → Dies {N = N} (new_list vs)
  unfolding new_list
  dies_list vs = record { after = λ s i e. e }

  pub dies_enqueue : (m : Message N) → Dies {N = N} (enqueue m)
  unfolding enqueue
  dies_enqueue m = record { after = λ s i e. e }

  pub dies_out : (to : ℕ) (n : Note N) → Dies {N = N} (send_out to n)
  unfolding send_out
  dies_out to n = record { after = λ s i e. e }

  pub dies_gift : (n : N) (p i : ℕ) → Dies {N = N} (new_gift n p i)
  unfolding new_gift
  dies_gift n p i = record { after = λ s i e. e }

  pub dies_open : (p i : ℕ) → Dies {N = N} (open_gift p i)
  unfolding open_gift
  dies_open p i = record { after = λ s i e. e }

  pub dies_mark : (w : ℕ) → Dies {N = N} (mark w)
  unfolding mark
  dies_mark w = record { after = λ s i e. e }

  pub draws_after : (s : Vat N) (w : ℕ) (o : Option ℕ) → LeavesDead s (draws w o s)
  unfolding draws
  draws_after s w (Some i) = tt
  draws_after s w None = λ i e. e

module _ {N W : Type 0} (K : Naming N W) where
  pub dies_alter : (c : Change N) (n : N) → Dies (alter K c n)
  unfolding alter
  dies_alter c n = record { after = λ s i e. e }

  pub dies_come : (c : Coming N W) (w : ℕ) → Dies (come K c w)
  unfolding come
  dies_come c w = record { after = λ s i e. e }

  pub dies_mail : (c : Mailing W) → Dies (mail K c)
  unfolding mail
  dies_mail c = record { after = λ s i e. e }

  pub dies_promise : Dies (new_promise K)
  unfolding new_promise
  dies_promise = record { after = λ s i e. e }

  pub dies_message : (w : ℕ) → Dies (new_message K w)
  unfolding new_message
  dies_message w = record { after = λ s i e. e }

  pub dies_lone_message : Dies (new_lone_message K)
  unfolding new_lone_message
  dies_lone_message = record { after = λ s i e. e }

  pub dies_draw : Dies (draw K)
  unfolding draw
  dies_draw = record { after = λ s. draws_after s _ _ }

  -- ---- the instance

  closed : IsClosed (DiesBy {N = N})
  closed = record { gives = dies_give; stops = dies_stop; looks = dies_look; binds = dies_bind }

  ends : IsEnding (DiesBy {N = N})
  ends = record { throws = dies_throw; ejects = dies_eject; ends = dies_ending }

  lines : (act : ℕ) (m : Act N (Value N)) → Dies m → Dies (ended act m)
  lines act m h = ends_by_lines DiesBy closed ends act m (λ v. dies_tell (Back act v)) (λ p. dies_tell (Thrown act p)) (dies_tell (Left act)) h

  dull : (t : Thing N) → IsDull t → Dies (new_thing t)
  dull (Made node caught stamps) h = dies_object node caught stamps
  dull (Resolver p) h = dies_resolver p
  dull other h = absurd h

  -- however it ends, it is dead after it
  closes_leaving : {A : Type 0} (tree : List Node) (n : ℕ) (m : Act N A) → Dies m → Closes n (leaving K tree n m)
  unfolding leaving
  closes_leaving tree n m h = closes_ending K tree n (λ a. dies_give a) (λ p. dies_throw p) (λ k v. dies_eject k v) h

  pub dies_whole : Whole DiesBy K
  dies_whole = record {
    closed = closed;
    ends = ends;
    tells = λ e h. dies_tell e;
    spends = dies_spend;
    activates = dies_activation;
    makes = dull;
    slots = dies_slot;
    writes = dies_write;
    lists = dies_list;
    queues = dies_enqueue;
    puts = dies_out;
    gifts = dies_gift;
    opens = dies_open;
    marks = dies_mark;
    alters = λ c n h. dies_alter c n;
    comes = dies_come;
    mails = dies_mail;
    promises = dies_promise;
    messages = dies_message;
    lone_messages = dies_lone_message;
    draws = dies_draw;
    takes = λ m {f} h. dies_bind dies_activation (λ a. dies_then (dies_tell (Took a m)) (h a));
    calls = λ act x verb args {m} h. dies_then (dies_tell (Called act x verb args None)) (lines act m h);
    begins = λ act x verb args {m} h. dies_bind dies_activation (λ b. dies_then (dies_tell (Called act x verb args (Some b))) (lines act (m b) (h b)));
    audits = λ tree act view {m} {f} h k. dies_audition view (λ n. tell (AuditionMade act (K.object n)) >> (leaving K tree n (m n) >>= f)) (λ n. closes_told (AuditionMade act (K.object n)) (closes_bind (closes_leaving tree n (m n) (h n)) k));
    escapes = λ tree act {f} {g} {h} {m} x y z w. dies_ejector K tree act (λ j. ending (λ a. leave K tree j (f j a)) (λ p. leave K tree j (g j p)) (λ n v. leave K tree j (h j n v)) (m j)) (λ j. closes_ending K tree j (x j) (y j) (z j) (w j));
    settles = λ p y m h. dies_then (dies_tell (Settles p y)) (dies_then (dies_alter (Settle y) p) h);
    views = λ p q m h. dies_then (dies_tell (Views p q)) (dies_then (dies_alter (See q) p) h);
  }
