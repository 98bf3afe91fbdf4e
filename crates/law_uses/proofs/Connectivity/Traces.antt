-- Each standing of a known name is told: a name that settled or is viewed did so before the step, or a line tells it. All that a vat does keeps that.
use Rattle.std.proofs.Common.{◌≡◌, ℕ, Bool, true, false, List, [], ◌∷◌, ◌++◌, Option, Some, None, refl, sym, ap, ◌∙◌, inl, inr}
use Rattle.std.specs.Prelude.{nat_le}
use Rattle.def_machine.specs.Values.{Words, Value, Ref, Naming, Coming, Mailing}
use Rattle.def_machine.specs.State.{Audition, Ejector, Took, Called, Back, Thrown, Left, EjectorMade, AuditionMade, Thing, Message, Standing, Viewed, Settled, Known, Happened, Settles, Views, Vat, Stop, Done, Gives, Throws, Ejects, Stops, Act, ◌>>=◌, ◌>>◌, and_then, end_by, ending, give, throw, stop, eject, look, tell, spend, spent, new_activation, new_thing, kill, new_slot, write_slot, new_list, enqueue, Change, Hold, Wait, WaitOn, See, React, ToTell, Settle, Note, send_out, new_gift, open_gift, mark, draws, unless_settled, changed_to, changed, with_change, alter, come, mail, new_promise, new_message, draw, begun, new_lone_message}
use Rattle.def_machine.specs.Refs.{standing_in, entry_of, standing_of}
use Rattle.law_machine.proofs.Machine.Walks.{Property, Holds, IsClosed, IsEnding, IsMild, walk_then}
use Rattle.law_machine.proofs.Machine.Blocks.{ends_by_lines, audits_by_kills, escapes_by_kills}
use Rattle.law_machine.proofs.Machine.Whole.{Whole}
use Rattle.def_machine.specs.Scopes.{ended}
use Rattle.law_uses.specs.Connectivity.Known.{IsAmong, Leads, settles, views}
use Rattle.law_uses.proofs.Connectivity.Knowing.{leads_more}

pub among_last : {A : Type 0} (xs : List A) (x : A) → IsAmong x (xs ++ x ∷ [])
among_last [] x = inl refl
among_last (y ∷ xs) x = inr (among_last xs x)

module _ {N W : Type 0} (K : Naming N W) (before : List (Known N)) where
  -- where a name stands so, lines lead to that
  abbrev pub IsTold : List (Happened N) → N → Standing N → Type 0
  IsTold so n (Settled y) = Leads K before so (Ref n) y
  IsTold so n (Viewed q) = Leads K before so (Ref n) (Ref q)
  IsTold so n other = Unit {0}

  abbrev pub AllTold : List (Happened N) → List (Known N) → Type 0
  AllTold so ks = (n : N) → IsTold so n (standing_of K ks n)

  abbrev pub Told : Vat N → Type 0
  Told s = AllTold s.happened s.known

  -- however it ends
  abbrev pub Ends : {A : Type 0} → Done N A → Type 0
  Ends (Gives a t) = Told t
  Ends (Throws p t) = Told t
  Ends (Ejects n v t) = Told t
  Ends (Stops c t) = Told t

  abbrev pub TracesBy : Property N
  TracesBy A m = (s : Vat N) → Told s → Ends (m s)

  abbrev pub Traces : {A : Type 0} → Act N A → Type 0
  Traces m = Holds TracesBy m

  bind_after : {A B : Type 0} (d : Done N A) (f : A → Act N B) → Ends d → ((a : A) → Traces (f a)) → Ends (and_then d f)
  unfolding and_then
  bind_after (Gives a t) f h k = (k a).after t h
  bind_after other f h k = h

  pub traces_bind : {A B : Type 0} {m : Act N A} {f : A → Act N B} → Traces m → ((a : A) → Traces (f a)) → Traces (m >>= f)
  unfolding ◌>>=◌
  traces_bind {m = m} {f = f} h k = record { after = λ s g. bind_after (m s) f (h.after s g) k }

  end_after : {A B : Type 0} (f : A → Act N B) (g : Words → Act N B) (h : ℕ → Value N → Act N B) (d : Done N A) → Ends d
      → ((a : A) → Traces (f a)) → ((p : Words) → Traces (g p)) → ((n : ℕ) (v : Value N) → Traces (h n v)) → Ends (end_by f g h d)
  unfolding end_by
  end_after f g h (Gives a t) r i j k = (i a).after t r
  end_after f g h (Throws p t) r i j k = (j p).after t r
  end_after f g h (Ejects n v t) r i j k = (k n v).after t r
  end_after f g h (Stops c t) r i j k = r

  pub traces_ending : {A B : Type 0} {f : A → Act N B} {g : Words → Act N B} {h : ℕ → Value N → Act N B} {m : Act N A}
      → ((a : A) → Traces (f a)) → ((p : Words) → Traces (g p)) → ((n : ℕ) (v : Value N) → Traces (h n v)) → Traces m → Traces (ending f g h m)
  unfolding ending
  traces_ending {f = f} {g = g} {h = h} {m = m} i j k r = record { after = λ s q. end_after f g h (m s) (r.after s q) i j k }

  pub traces_give : {A : Type 0} (a : A) → Traces (give a)
  unfolding give
  traces_give a = record { after = λ s g. g }

  pub traces_throw : {A : Type 0} (p : Words) → Traces (throw {A = A} p)
  unfolding throw
  traces_throw p = record { after = λ s g. g }

  pub traces_eject : {A : Type 0} (n : ℕ) (v : Value N) → Traces (eject {A = A} n v)
  unfolding eject
  traces_eject n v = record { after = λ s g. g }

  pub traces_stop : {A : Type 0} (c : Stop) → Traces (stop {A = A} c)
  unfolding stop
  traces_stop c = record { after = λ s g. g }

  pub traces_look : {A : Type 0} (f : Vat N → A) → Traces (look f)
  unfolding look
  traces_look f = record { after = λ s g. g }

  -- ---- lines

  told_more : (so more : List (Happened N)) (n : N) (x : Standing N) → IsTold so n x → IsTold (so ++ more) n x
  told_more so more n (Settled y) h = leads_more K before so more (Ref n) y h
  told_more so more n (Viewed q) h = leads_more K before so more (Ref n) (Ref q) h
  told_more so more n other h = tt

  pub traces_tell : (e : Happened N) → Traces (tell e)
  unfolding tell
  traces_tell e = record { after = λ s g n. told_more s.happened (e ∷ []) n (standing_of K s.known n) (g n) }

  -- ---- names that come to be known

  last_told : (so : List (Happened N)) (a n : N) (w : ℕ) (b : Bool) → IsTold so n (standing_in (elim b [ true ↦ Some (begun a w) | false ↦ None ]))
  unfolding standing_in begun
  last_told so a n w true = tt
  last_told so a n w false = tt

  either_told : (so : List (Happened N)) (n : N) (k : Known N) (o p : Option (Known N)) (b : Bool) → (IsTold so n (standing_in o) → IsTold so n (standing_in p))
      → IsTold so n (standing_in (elim b [ true ↦ Some k | false ↦ o ])) → IsTold so n (standing_in (elim b [ true ↦ Some k | false ↦ p ]))
  either_told so n k o p true f h = h
  either_told so n k o p false f h = f h

  more_told : (so : List (Happened N)) (a n : N) (w : ℕ) (ks : List (Known N)) → IsTold so n (standing_in (entry_of K ks n)) → IsTold so n (standing_in (entry_of K (ks ++ begun a w ∷ []) n))
  unfolding entry_of
  more_told so a n w [] h = last_told so a n w (K.same (begun a w).name n)
  more_told so a n w (k ∷ ks) h = either_told so n k (entry_of K ks n) (entry_of K (ks ++ begun a w ∷ []) n) (K.same k.name n) (more_told so a n w ks) h

  come_told : (so : List (Happened N)) (a : N) (w : ℕ) (ks : List (Known N)) → AllTold so ks → AllTold so (ks ++ begun a w ∷ [])
  unfolding standing_of
  come_told so a w ks h n = more_told so a n w ks (h n)

  -- ---- changes of what is known of a name

  -- what is told of an entry before the change is told of it after
  abbrev pub Fits : List (Happened N) → N → Change N → Type 0
  Fits so p c = (n : N) (k : Known N) → K.same k.name p ≡ true → K.same k.name n ≡ true → IsTold so n k.standing → IsTold so n (changed_to c k).standing

  kept_name : (c : Change N) (k : Known N) → (changed c k).name ≡ k.name
  unfolding changed changed_to unless_settled
  kept_name c k = by_standing k.standing c
    where
      to_name : (c : Change N) → (changed_to c k).name ≡ k.name
      to_name (Hold m) = refl
      to_name other = refl

      by_standing : (x : Standing N) (c : Change N) → (unless_settled x k (changed_to c k)).name ≡ k.name
      by_standing (Settled y) c = refl
      by_standing other c = to_name c

  unless_told : (so : List (Happened N)) (n : N) (x : Standing N) (k new : Known N) → IsTold so n k.standing → IsTold so n new.standing → IsTold so n (unless_settled x k new).standing
  unfolding unless_settled
  unless_told so n (Settled y) k new h i = h
  unless_told so n other k new h i = i

  -- the entry that changes is found, or one behind it
  first_told : (so : List (Happened N)) (n p : N) (c : Change N) (k : Known N) (o : Option (Known N)) (b d : Bool) → K.same k.name p ≡ true → K.same k.name n ≡ b → K.same (changed c k).name n ≡ d → Fits so p c
      → IsTold so n (standing_in (elim b [ true ↦ Some k | false ↦ o ])) → IsTold so n (standing_in (elim d [ true ↦ Some (changed c k) | false ↦ o ]))
  unfolding standing_in changed
  first_told so n p c k o true true e f g fit h = unless_told so n k.standing k (changed_to c k) h (fit n k e f h)
  first_told so n p c k o false false e f g fit h = h
  first_told so n p c k o true false e f g fit h = absurd (differ (sym f ∙ sym (ap (λ m. K.same m n) (kept_name c k)) ∙ g))
    where
      differ : true ≡ false → ⊥
      differ e = cc
  first_told so n p c k o false true e f g fit h = absurd (differ (sym f ∙ sym (ap (λ m. K.same m n) (kept_name c k)) ∙ g))
    where
      differ : false ≡ true → ⊥
      differ e = cc

  either_change : (so : List (Happened N)) (n p : N) (c : Change N) (k : Known N) (ks : List (Known N)) (b : Bool) → K.same k.name p ≡ b → Fits so p c
      → (IsTold so n (standing_in (entry_of K ks n)) → IsTold so n (standing_in (entry_of K (with_change K c p ks) n)))
      → IsTold so n (standing_in (entry_of K (k ∷ ks) n)) → IsTold so n (standing_in (entry_of K (elim b [ true ↦ changed c k ∷ ks | false ↦ k ∷ with_change K c p ks ]) n))
  unfolding entry_of
  either_change so n p c k ks true e fit f h = first_told so n p c k (entry_of K ks n) (K.same k.name n) (K.same (changed c k).name n) e refl refl fit h
  either_change so n p c k ks false e fit f h = either_told so n k (entry_of K ks n) (entry_of K (with_change K c p ks) n) (K.same k.name n) f h

  changes_told : (so : List (Happened N)) (n p : N) (c : Change N) (ks : List (Known N)) → Fits so p c → IsTold so n (standing_in (entry_of K ks n)) → IsTold so n (standing_in (entry_of K (with_change K c p ks) n))
  unfolding with_change
  changes_told so n p c [] fit h = h
  changes_told so n p c (k ∷ ks) fit h = either_change so n p c k ks (K.same k.name p) refl fit (changes_told so n p c ks fit) h

  altered : (s : Vat N) (p : N) (c : Change N) → Fits s.happened p c → Told s → Ends (alter K c p s)
  unfolding alter standing_of
  altered s p c fit g n = changes_told s.happened n p c s.known fit (g n)

  pub traces_hold : (m : Message N) (p : N) → Traces (alter K (Hold m) p)
  unfolding changed_to
  traces_hold m p = record { after = λ s g. altered s p (Hold m) (λ n k e f h. h) g }

  pub traces_wait : (q p : N) → Traces (alter K (Wait q) p)
  unfolding changed_to
  traces_wait q p = record { after = λ s g. altered s p (Wait q) (λ n k e f h. h) g }

  pub traces_wait_on : (q p : N) → Traces (alter K (WaitOn q) p)
  unfolding changed_to
  traces_wait_on q p = record { after = λ s g. altered s p (WaitOn q) (λ n k e f h. tt) g }

  pub traces_react : (m : Message N) (p : N) → Traces (alter K (React m) p)
  unfolding changed_to
  traces_react m p = record { after = λ s g. altered s p (React m) (λ n k e f h. h) g }

  pub traces_to_tell : (w : ℕ) (p : N) → Traces (alter K (ToTell w) p)
  unfolding changed_to
  traces_to_tell w p = record { after = λ s g. altered s p (ToTell w) (λ n k e f h. h) g }

  -- ---- a settling and a view, each with its line

  abbrev with_line : Vat N → Happened N → Vat N
  with_line s e = record s { happened = s.happened ++ e ∷ [] }

  pub traces_settled : {B : Type 0} (p : N) (y : Value N) (m : Act N B) → Traces m → Traces (tell (Settles p y) >> (alter K (Settle y) p >> m))
  unfolding tell ◌>>◌ and_then changed_to
  traces_settled p y m h = record {
    after = λ s g. bind_after (alter K (Settle y) p (with_line s (Settles p y))) (λ _. m)
        (altered (with_line s (Settles p y)) p (Settle y) (λ n k e f i. settles p (among_last s.happened (Settles p y)) (k.name, e, f)) ((traces_tell (Settles p y)).after s g)) (λ _. h);
  }

  pub traces_viewed : {B : Type 0} (p q : N) (m : Act N B) → Traces m → Traces (tell (Views p q) >> (alter K (See q) p >> m))
  unfolding tell ◌>>◌ and_then changed_to
  traces_viewed p q m h = record {
    after = λ s g. bind_after (alter K (See q) p (with_line s (Views p q))) (λ _. m)
        (altered (with_line s (Views p q)) p (See q) (λ n k e f i. views p (among_last s.happened (Views p q)) (k.name, e, f)) ((traces_tell (Views p q)).after s g)) (λ _. h);
  }

  -- ---- the other changes

  spend_after : (s : Vat N) (n : ℕ) (b : Bool) → Told s → Ends (spent n b s)
  unfolding spent
  spend_after s n true g = g
  spend_after s n false g = g

  pub traces_spend : (n : ℕ) → Traces (spend n)
  unfolding spend
  traces_spend n = record { after = λ s g. spend_after s n (nat_le n s.fuel) g }

  pub traces_activation : Traces (new_activation)
  unfolding new_activation
  traces_activation = record { after = λ s g. g }

  pub traces_thing : (t : Thing N) → Traces (new_thing t)
  unfolding new_thing
  traces_thing t = record { after = λ s g. g }

  pub traces_kill : (n : ℕ) → Traces (kill n)
  unfolding kill
  traces_kill n = record { after = λ s g. g }

  pub traces_slot : (g v : Value N) → Traces (new_slot g v)
  unfolding new_slot
  traces_slot g v = record { after = λ s g. g }

  pub traces_write : (n : ℕ) (v : Value N) → Traces (write_slot n v)
  unfolding write_slot
  traces_write n v = record { after = λ s g. g }

  pub traces_list : (vs : List (Value N)) → Traces (new_list vs)
  unfolding new_list
  traces_list vs = record { after = λ s g. g }

  pub traces_enqueue : (m : Message N) → Traces (enqueue m)
  unfolding enqueue
  traces_enqueue m = record { after = λ s g. g }

  pub traces_out : (to : ℕ) (n : Note N) → Traces (send_out to n)
  unfolding send_out
  traces_out to n = record { after = λ s g. g }

  pub traces_gift : (n : N) (p i : ℕ) → Traces (new_gift n p i)
  unfolding new_gift
  traces_gift n p i = record { after = λ s g. g }

  pub traces_open : (p i : ℕ) → Traces (open_gift p i)
  unfolding open_gift
  traces_open p i = record { after = λ s g. g }

  pub traces_mark : (w : ℕ) → Traces (mark w)
  unfolding mark
  traces_mark w = record { after = λ s g. g }

  draws_after : (s : Vat N) (w : ℕ) (o : Option ℕ) → Told s → Ends (draws w o s)
  unfolding draws
  draws_after s w (Some i) g = g
  draws_after s w None g = g

  pub traces_draw : Traces (draw K)
  unfolding draw
  traces_draw = record { after = λ s g. draws_after s _ _ g }

  pub traces_come : (c : Coming N W) (w : ℕ) → Traces (come K c w)
  unfolding come
  traces_come c w = record { after = λ s g. come_told s.happened _ w s.known g }

  pub traces_mail : (c : Mailing W) → Traces (mail K c)
  unfolding mail
  traces_mail c = record { after = λ s g. g }

  pub traces_promise : Traces (new_promise K)
  unfolding new_promise
  traces_promise = record { after = λ s g. come_told s.happened _ s.number s.known g }

  pub traces_message : (w : ℕ) → Traces (new_message K w)
  unfolding new_message
  traces_message w = record { after = λ s g. come_told s.happened _ w s.known g }

  pub traces_lone_message : Traces (new_lone_message K)
  unfolding new_lone_message
  traces_lone_message = record { after = λ s g. g }

  -- ---- the instance

  closed : IsClosed TracesBy
  closed = record { gives = traces_give; stops = traces_stop; looks = traces_look; binds = traces_bind }

  ends : IsEnding TracesBy
  ends = record { throws = traces_throw; ejects = traces_eject; ends = traces_ending }

  lines : (act : ℕ) (m : Act N (Value N)) → Traces m → Traces (ended act m)
  lines act m h = ends_by_lines TracesBy closed ends act m (λ v. traces_tell (Back act v)) (λ p. traces_tell (Thrown act p)) (traces_tell (Left act)) h

  mild : (c : Change N) (n : N) → IsMild c → Traces (alter K c n)
  mild (Hold m) n h = traces_hold m n
  mild (Wait q) n h = traces_wait q n
  mild (WaitOn q) n h = traces_wait_on q n
  mild (React m) n h = traces_react m n
  mild (ToTell w) n h = traces_to_tell w n
  mild other n h = absurd h

  pub traces_whole : Whole TracesBy K
  traces_whole = record {
    closed = closed;
    ends = ends;
    tells = λ e h. traces_tell e;
    spends = traces_spend;
    activates = traces_activation;
    makes = λ t h. traces_thing t;
    slots = traces_slot;
    writes = traces_write;
    lists = traces_list;
    queues = traces_enqueue;
    puts = traces_out;
    gifts = traces_gift;
    opens = traces_open;
    marks = traces_mark;
    alters = mild;
    comes = traces_come;
    mails = traces_mail;
    promises = traces_promise;
    messages = traces_message;
    lone_messages = traces_lone_message;
    draws = traces_draw;
    takes = λ m {f} h. traces_bind traces_activation (λ a. walk_then TracesBy closed (traces_tell (Took a m)) (h a));
    calls = λ act x verb args {m} h. walk_then TracesBy closed (traces_tell (Called act x verb args None)) (lines act m h);
    begins = λ act x verb args {m} h. traces_bind traces_activation (λ b. walk_then TracesBy closed (traces_tell (Called act x verb args (Some b))) (lines act (m b) (h b)));
    audits = λ tree act view {m} {f} h k. audits_by_kills TracesBy closed ends K tree traces_kill act view m f (traces_thing (Audition true view)) (λ n. traces_tell (AuditionMade act (K.object n))) h k;
    escapes = λ tree act {f} {g} {h} {m} x y z w. escapes_by_kills TracesBy closed ends K tree traces_kill act f g h m (traces_thing (Ejector true)) (λ n. traces_tell (EjectorMade act (K.object n))) x y z w;
    settles = traces_settled;
    views = traces_viewed;
  }
