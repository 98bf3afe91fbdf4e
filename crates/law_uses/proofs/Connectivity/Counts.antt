-- Activations are numbered upwards. A traversal in which an activation begins in one block with its line.
use Rattle.std.proofs.Common.{◌≡◌, ℕ, suc, ◌≤◌, Bool, true, false, List, [], ◌∷◌, ◌++◌, Option, Some, None, map, refl, arith}
use Rattle.std.specs.Prelude.{nat_le}
use Rattle.def_machine.specs.Values.{Words, Value, Naming, Coming, Mailing}
use Rattle.def_machine.specs.State.{Audition, Ejector, See, Settle, Thing, Message, Happened, Took, Called, Back, Thrown, Left, EjectorMade, AuditionMade, Settles, Views, Vat, Stop, Done, Gives, Throws, Ejects, Stops, Act, ◌>>=◌, ◌>>◌, and_then, end_by, ending, give, throw, stop, eject, look, tell, spend, spent, new_activation, new_thing, kill, new_slot, write_slot, new_list, enqueue, Change, Note, send_out, new_gift, open_gift, mark, draws, alter, come, mail, new_promise, new_message, draw, new_lone_message}
use Rattle.law_machine.proofs.Machine.Walks.{Property, Holds, IsClosed, IsEnding, walk_then}
use Rattle.law_machine.proofs.Machine.Blocks.{ends_by_lines, audits_by_kills, escapes_by_kills}
use Rattle.law_machine.proofs.Machine.Whole.{Whole, IsAlone}
use Rattle.def_machine.specs.Scopes.{ended}
use Rattle.law_uses.specs.Connectivity.Activations.{begun_by, Rises}

rises_on : (o : Option ℕ) (bs cs : List (Option ℕ)) (m k : ℕ) → ((n : ℕ) → Rises n bs m → Rises n cs k) → (n : ℕ) → Rises n (o ∷ bs) m → Rises n (o ∷ cs) k
rises_on None bs cs m k f n h = f n h
rises_on (Some b) bs cs m k f n h = (h.0, f (suc b) h.1)

-- one more line
rises_end : {N : Type 0} (es : List (Happened N)) (e : Happened N) (m k : ℕ) → ((n : ℕ) → n ≤ m → Rises n (begun_by e ∷ []) k) → (n : ℕ) → Rises n (map begun_by es) m → Rises n (map begun_by (es ++ e ∷ [])) k
rises_end [] e m k f n h = f n h
rises_end (x ∷ es) e m k f n h = rises_on (begun_by x) (map begun_by es) (map begun_by (es ++ e ∷ [])) m k (rises_end es e m k f) n h

up : (n m : ℕ) → n ≤ m → n ≤ suc m
up n m h = omega arith

itself : (n : ℕ) → n ≤ n
itself n = omega arith

-- the count goes up
rises_more : (bs : List (Option ℕ)) (n m : ℕ) → Rises n bs m → Rises n bs (suc m)
rises_more [] n m h = up n m h
rises_more (None ∷ bs) n m h = rises_more bs n m h
rises_more (Some b ∷ bs) n m h = (h.0, rises_more bs (suc b) m h.1)

module _ {N : Type 0} (low : ℕ) where
  abbrev pub Risen : Vat N → Type 0
  Risen s = Rises low (map begun_by s.happened) s.activations

  -- however it ends
  abbrev pub Ends : {A : Type 0} → Done N A → Type 0
  Ends (Gives a t) = Risen t
  Ends (Throws p t) = Risen t
  Ends (Ejects n v t) = Risen t
  Ends (Stops c t) = Risen t

  abbrev pub CountsBy : Property N
  CountsBy A m = (s : Vat N) → Risen s → Ends (m s)

  abbrev pub Counts : {A : Type 0} → Act N A → Type 0
  Counts m = Holds CountsBy m

  bind_after : {A B : Type 0} (d : Done N A) (f : A → Act N B) → Ends d → ((a : A) → Counts (f a)) → Ends (and_then d f)
  unfolding and_then
  bind_after (Gives a t) f h k = (k a).after t h
  bind_after other f h k = h

  pub counts_bind : {A B : Type 0} {m : Act N A} {f : A → Act N B} → Counts m → ((a : A) → Counts (f a)) → Counts (m >>= f)
  unfolding ◌>>=◌
  counts_bind {m = m} {f = f} h k = record { after = λ s g. bind_after (m s) f (h.after s g) k }

  end_after : {A B : Type 0} (f : A → Act N B) (g : Words → Act N B) (h : ℕ → Value N → Act N B) (d : Done N A) → Ends d
      → ((a : A) → Counts (f a)) → ((p : Words) → Counts (g p)) → ((n : ℕ) (v : Value N) → Counts (h n v)) → Ends (end_by f g h d)
  unfolding end_by
  end_after f g h (Gives a t) r i j k = (i a).after t r
  end_after f g h (Throws p t) r i j k = (j p).after t r
  end_after f g h (Ejects n v t) r i j k = (k n v).after t r
  end_after f g h (Stops c t) r i j k = r

  pub counts_ending : {A B : Type 0} {f : A → Act N B} {g : Words → Act N B} {h : ℕ → Value N → Act N B} {m : Act N A}
      → ((a : A) → Counts (f a)) → ((p : Words) → Counts (g p)) → ((n : ℕ) (v : Value N) → Counts (h n v)) → Counts m → Counts (ending f g h m)
  unfolding ending
  counts_ending {f = f} {g = g} {h = h} {m = m} i j k r = record { after = λ s q. end_after f g h (m s) (r.after s q) i j k }

  pub counts_give : {A : Type 0} (a : A) → Counts (give a)
  unfolding give
  counts_give a = record { after = λ s g. g }

  pub counts_throw : {A : Type 0} (p : Words) → Counts (throw {A = A} p)
  unfolding throw
  counts_throw p = record { after = λ s g. g }

  pub counts_eject : {A : Type 0} (n : ℕ) (v : Value N) → Counts (eject {A = A} n v)
  unfolding eject
  counts_eject n v = record { after = λ s g. g }

  pub counts_stop : {A : Type 0} (c : Stop) → Counts (stop {A = A} c)
  unfolding stop
  counts_stop c = record { after = λ s g. g }

  pub counts_look : {A : Type 0} (f : Vat N → A) → Counts (look f)
  unfolding look
  counts_look f = record { after = λ s g. g }

  -- ---- lines that begin nothing

  quiet_line : (s : Vat N) (e : Happened N) → begun_by e ≡ None → Risen s → Risen (record s { happened = s.happened ++ e ∷ [] })
  quiet_line s e q g = rises_end s.happened e s.activations s.activations (λ n h. on_none (begun_by e) q n h) low g
    where
      on_none : (o : Option ℕ) → o ≡ None → (n : ℕ) → n ≤ s.activations → Rises n (o ∷ []) s.activations
      on_none None q n h = h
      on_none (Some b) q n h = cc

  alone : (e : Happened N) → IsAlone e → begun_by e ≡ None
  unfolding begun_by
  alone (Took a m) h = absurd h
  alone (Called a x verb args b) h = absurd h
  alone _ h = refl

  counts_line : (e : Happened N) → begun_by e ≡ None → Counts (tell e)
  unfolding tell
  counts_line e q = record { after = λ s g. quiet_line s e q g }

  -- ---- an activation begins, with its line

  pub counts_called : {B : Type 0} (act : ℕ) (x : Value N) (verb : Words) (args : List (Value N)) (f : ℕ → Act N B) → ((b : ℕ) → Counts (f b)) → Counts (new_activation >>= λ b. tell (Called act x verb args (Some b)) >> f b)
  unfolding new_activation tell ◌>>=◌ ◌>>◌ and_then begun_by
  counts_called act x verb args f h = record {
    after = λ s g. (h s.activations).after (record s { activations = suc s.activations; happened = s.happened ++ Called act x verb args (Some s.activations) ∷ [] })
        (rises_end s.happened (Called act x verb args (Some s.activations)) s.activations (suc s.activations) (λ n k. (k, itself (suc s.activations))) low g);
  }

  pub counts_took : {B : Type 0} (m : Message N) (f : ℕ → Act N B) → ((b : ℕ) → Counts (f b)) → Counts (new_activation >>= λ b. tell (Took b m) >> f b)
  unfolding new_activation tell ◌>>=◌ ◌>>◌ and_then begun_by
  counts_took m f h = record {
    after = λ s g. (h s.activations).after (record s { activations = suc s.activations; happened = s.happened ++ Took s.activations m ∷ [] })
        (rises_end s.happened (Took s.activations m) s.activations (suc s.activations) (λ n k. (k, itself (suc s.activations))) low g);
  }

  -- the activation that opens a vat has no line
  pub counts_activation : Counts new_activation
  unfolding new_activation
  counts_activation = record { after = λ s g. rises_more (map begun_by s.happened) low s.activations g }

  -- ---- the other changes

  spend_after : (s : Vat N) (n : ℕ) (b : Bool) → Risen s → Ends (spent n b s)
  unfolding spent
  spend_after s n true g = g
  spend_after s n false g = g

  pub counts_spend : (n : ℕ) → Counts (spend n)
  unfolding spend
  counts_spend n = record { after = λ s g. spend_after s n (nat_le n s.fuel) g }

  pub counts_thing : (t : Thing N) → Counts (new_thing t)
  unfolding new_thing
  counts_thing t = record { after = λ s g. g }

  pub counts_kill : (n : ℕ) → Counts (kill n)
  unfolding kill
  counts_kill n = record { after = λ s g. g }

  pub counts_slot : (g v : Value N) → Counts (new_slot g v)
  unfolding new_slot
  counts_slot g v = record { after = λ s g. g }

  pub counts_write : (n : ℕ) (v : Value N) → Counts (write_slot n v)
  unfolding write_slot
  counts_write n v = record { after = λ s g. g }

  pub counts_list : (vs : List (Value N)) → Counts (new_list vs)
  unfolding new_list
  counts_list vs = record { after = λ s g. g }

  pub counts_enqueue : (m : Message N) → Counts (enqueue m)
  unfolding enqueue
  counts_enqueue m = record { after = λ s g. g }

  pub counts_out : (to : ℕ) (n : Note N) → Counts (send_out to n)
  unfolding send_out
  counts_out to n = record { after = λ s g. g }

  pub counts_gift : (n : N) (p i : ℕ) → Counts (new_gift n p i)
  unfolding new_gift
  counts_gift n p i = record { after = λ s g. g }

  pub counts_open : (p i : ℕ) → Counts (open_gift p i)
  unfolding open_gift
  counts_open p i = record { after = λ s g. g }

  pub counts_mark : (w : ℕ) → Counts (mark w)
  unfolding mark
  counts_mark w = record { after = λ s g. g }

  pub draws_after : (s : Vat N) (w : ℕ) (o : Option ℕ) → Risen s → Ends (draws w o s)
  unfolding draws
  draws_after s w (Some i) g = g
  draws_after s w None g = g

module _ {N W : Type 0} (K : Naming N W) (low : ℕ) where
  pub counts_alter : (c : Change N) (n : N) → Counts low (alter K c n)
  unfolding alter
  counts_alter c n = record { after = λ s g. g }

  pub counts_come : (c : Coming N W) (w : ℕ) → Counts low (come K c w)
  unfolding come
  counts_come c w = record { after = λ s g. g }

  pub counts_mail : (c : Mailing W) → Counts low (mail K c)
  unfolding mail
  counts_mail c = record { after = λ s g. g }

  pub counts_promise : Counts low (new_promise K)
  unfolding new_promise
  counts_promise = record { after = λ s g. g }

  pub counts_message : (w : ℕ) → Counts low (new_message K w)
  unfolding new_message
  counts_message w = record { after = λ s g. g }

  pub counts_lone_message : Counts low (new_lone_message K)
  unfolding new_lone_message
  counts_lone_message = record { after = λ s g. g }

  pub counts_draw : Counts low (draw K)
  unfolding draw
  counts_draw = record { after = λ s g. draws_after low s _ _ g }

module _ {N W : Type 0} (K : Naming N W) (low : ℕ) where
  closed : IsClosed (CountsBy {N = N} low)
  closed = record { gives = counts_give low; stops = counts_stop low; looks = counts_look low; binds = counts_bind low }

  ends : IsEnding (CountsBy {N = N} low)
  ends = record { throws = counts_throw low; ejects = counts_eject low; ends = counts_ending low }

  lines : (act : ℕ) (m : Act N (Value N)) → Counts low m → Counts low (ended act m)
  unfolding begun_by
  lines act m h = ends_by_lines (CountsBy low) closed ends act m (λ v. counts_line low (Back act v) refl) (λ p. counts_line low (Thrown act p) refl) (counts_line low (Left act) refl) h

  pub counts_whole : Whole (CountsBy low) K
  unfolding begun_by
  counts_whole = record {
    closed = closed;
    ends = ends;
    tells = λ e h. counts_line low e (alone low e h);
    spends = counts_spend low;
    activates = counts_activation low;
    makes = λ t h. counts_thing low t;
    slots = counts_slot low;
    writes = counts_write low;
    lists = counts_list low;
    queues = counts_enqueue low;
    puts = counts_out low;
    gifts = counts_gift low;
    opens = counts_open low;
    marks = counts_mark low;
    alters = λ c n h. counts_alter K low c n;
    comes = counts_come K low;
    mails = counts_mail K low;
    promises = counts_promise K low;
    messages = counts_message K low;
    lone_messages = counts_lone_message K low;
    draws = counts_draw K low;
    takes = λ m {f} h. counts_took low m f h;
    calls = λ act x verb args {m} h. walk_then (CountsBy low) closed (counts_line low (Called act x verb args None) refl) (lines act m h);
    begins = λ act x verb args {m} h. counts_called low act x verb args (λ b. ended act (m b)) (λ b. lines act (m b) (h b));
    audits = λ tree act view {m} {f} h k. audits_by_kills (CountsBy low) closed ends K tree (counts_kill low) act view m f (counts_thing low (Audition true view)) (λ n. counts_line low (AuditionMade act (K.object n)) refl) h k;
    escapes = λ tree act {f} {g} {h} {m} x y z w. escapes_by_kills (CountsBy low) closed ends K tree (counts_kill low) act f g h m (counts_thing low (Ejector true)) (λ n. counts_line low (EjectorMade act (K.object n)) refl) x y z w;
    settles = λ p y m h. walk_then (CountsBy low) closed (counts_line low (Settles p y) refl) (walk_then (CountsBy low) closed (counts_alter K low (Settle y) p) h);
    views = λ p q m h. walk_then (CountsBy low) closed (counts_line low (Views p q) refl) (walk_then (CountsBy low) closed (counts_alter K low (See q) p) h);
  }
