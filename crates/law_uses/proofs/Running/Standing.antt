-- What a line says that a name settled to, the name stands settled to ever after. A settling is one block with its line, where the name is known and had not settled.
use Rattle.std.proofs.Common.{◌≡◌, ℕ, suc, ◌-◌, ◌≤◌, arith, Bool, true, false, List, [], ◌∷◌, ◌++◌, Option, Some, None, refl, sym, ap, ◌∙◌, subst, length, ◌⊎◌, inl, inr}
use Rattle.std.specs.Prelude.{nat_le}
use Rattle.def_kernel.specs.declared.node.Node.{Node}
use Rattle.def_machine.specs.Values.{Words, Value, Null, Ref, Broken, Naming, Coming, Mailing, IsAnswer, IsSent}
use Rattle.def_machine.specs.State.{Thing, Made, Resolver, Audition, Ejector, Message, Standing, Unsettled, WaitsOn, Viewed, Settled, Known, Change, See, Settle, Note, Ask, Shorten, Happened, Took, Called, Back, Thrown, Left, EjectorMade, AuditionMade, ListCame, Sends, Reacts, Settles, Views, Vat, Done, Gives, Throws, Ejects, Stops, Act, ◌>>=◌, ◌>>◌, and_then, end_by, ending, give, throw, stop, eject, look, enqueue, tell, spend, spent, new_activation, new_thing, change, dead, kill, new_slot, holding, write_slot, new_list, send_out, new_gift, with_opened, open_gift, mark, draws, unless_settled, changed_to, changed, begun, with_change, alter, come, mail, new_promise, new_message, new_lone_message, draw}
use Rattle.def_machine.specs.Refs as refs
use Rattle.def_machine.specs.Refs.{standing_in, entry_of, standing_of, settle, target_of}
use Rattle.def_machine.specs.Scopes.{ended}
use Rattle.law_machine.specs.Machine.Laws.{SettledStays}
use Rattle.law_machine.specs.Machine.Steps.{Step, Opens, Takes, Receives, Notices, does, After}
use Rattle.law_machine.proofs.Machine.StepLaws.{settled_names, settled_entry, standing_found}
use Rattle.law_machine.proofs.Machine.Walks.{Property, Holds, IsClosed, IsEnding, IsOfRefs, IsOfEval, InRefs, InRefsUnder, InSettling, InArrive, InArriveUnder, InEval, InEvalUnder, walk_then, walk_bind, walk_each, where_some}
use Rattle.law_machine.proofs.Machine.Blocks.{ends_by_lines, audits_by_kills, escapes_by_kills, resolves_always}
use Rattle.law_machine.proofs.Machine.RefsWalk.{walk_send_on, walk_inform, walk_settle, walk_resolve, walk_send_first, walk_react_at}
use Rattle.law_machine.proofs.Machine.ArriveWalk.{lists_by_line, walk_arrive, walk_notice}
use Rattle.law_machine.proofs.Machine.EvalWalk.{walk_opening, walk_taking}
use Rattle.law_uses.specs.Connectivity.Known.{IsAmong}
use Rattle.law_uses.proofs.Connectivity.Events.{among_either}
use Rattle.law_uses.proofs.Running.Course.{end_none, joined}

-- it tells of no settling, of no message that is taken, of no send and of no call
abbrev pub IsPlain : {N : Type 0} → Happened N → Type 0
IsPlain (Settles p y) = ⊥
IsPlain (Took a m) = ⊥
IsPlain (Sends a m) = ⊥
IsPlain (Called a x verb args b) = ⊥
IsPlain _ = Unit {0}

refs_plain : {N : Type 0} (e : Happened N) → IsOfRefs e → IsPlain e
refs_plain (Settles q z) h = absurd h
refs_plain (Took a m) h = absurd h
refs_plain (Sends a m) h = absurd h
refs_plain (Called a x verb args b) h = absurd h
refs_plain _ h = tt

eval_plain : {N : Type 0} (e : Happened N) → IsOfEval e → IsPlain e
eval_plain (Settles q z) h = absurd h
eval_plain (Took a m) h = absurd h
eval_plain (Sends a m) h = absurd h
eval_plain (Called a x verb args b) h = absurd h
eval_plain _ h = tt

-- K: how names are told; T: which messages may be taken; C: where calls may be told
module _ {N W : Type 0} (K : Naming N W) (T : Message N → Type 0) (C : Type 0) where
  -- the answer of a message is of one that the vat numbered from that count on
  abbrev pub SentFrom : ℕ → Message N → Type 0
  SentFrom n m = (p : N) → m.answer ≡ Some p → (j h c d : ℕ) × (n ≤ j) × (p ≡ K.made (IsAnswer h (K.mailed (IsSent j) c)) d)

  -- What settled stays so, and each settling that the lines between tell of stands; what they say is taken may be, and what they say is sent is new.
  pub record Tells (s t : Vat N) : Type 0 where
    pub stays : SettledStays K s t
    pub counts : s.messages ≤ t.messages
    pub more : List (Happened N)
    pub lines : t.happened ≡ s.happened ++ more
    pub stood : (p : N) (y : Value N) → IsAmong (Settles p y) more → standing_of K t.known p ≡ Settled y
    pub took : (a : ℕ) (m : Message N) → IsAmong (Took a m) more → T m
    pub sent : (a : ℕ) (m : Message N) → IsAmong (Sends a m) more → SentFrom s.messages m
    pub called : (a : ℕ) (x : Value N) (verb : Words) (args : List (Value N)) (b : Option ℕ) → IsAmong (Called a x verb args b) more → C

  same_count : (n : ℕ) → n ≤ n
  same_count n = omega arith

  pub stands_later : (s t : Vat N) → SettledStays K s t → (p : N) (y : Value N) → standing_of K s.known p ≡ Settled y → standing_of K t.known p ≡ Settled y
  unfolding standing_of
  stands_later s t h p y e = let f = settled_entry (entry_of K s.known p) y e in standing_found K t.known p f.0 y (h p f.0 y f.1 f.2) f.2

  tells_same : (s : Vat N) → Tells s s
  tells_same s = record { stays = λ n k y e h. e; counts = same_count s.messages; more = []; lines = sym (end_none s.happened); stood = λ p y i. absurd i; took = λ a m i. absurd i; sent = λ a m i. absurd i; called = λ a x verb args b i. absurd i }

  tells_trans : (s t u : Vat N) → Tells s t → Tells t u → Tells s u
  tells_trans s t u h k = record {
    stays = λ n x y e i. k.stays n x y (h.stays n x y e i) i;
    counts = let a = h.counts in let b = k.counts in omega arith;
    more = h.more ++ k.more;
    lines = k.lines ∙ ap (λ es. es ++ k.more) h.lines ∙ joined s.happened h.more k.more;
    stood = λ p y i. either p y (among_either (Settles p y) h.more k.more i);
    took = λ a m i. taken_either a m (among_either (Took a m) h.more k.more i);
    sent = λ a m i. sent_either a m (among_either (Sends a m) h.more k.more i);
    called = λ a x verb args b i. called_either a x verb args b (among_either (Called a x verb args b) h.more k.more i);
  }
    where
      called_either : (a : ℕ) (x : Value N) (verb : Words) (args : List (Value N)) (b : Option ℕ) → IsAmong (Called a x verb args b) h.more ⊎ IsAmong (Called a x verb args b) k.more → C
      called_either a x verb args b (inl i) = h.called a x verb args b i
      called_either a x verb args b (inr i) = k.called a x verb args b i

      taken_either : (a : ℕ) (m : Message N) → IsAmong (Took a m) h.more ⊎ IsAmong (Took a m) k.more → T m
      taken_either a m (inl i) = h.took a m i
      taken_either a m (inr i) = k.took a m i

      from : (m : Message N) → SentFrom t.messages m → SentFrom s.messages m
      from m f p e = let r = f p e in let b = h.counts in let l = r.4 in (r.0, r.1, r.2, r.3, omega arith, r.5)

      sent_either : (a : ℕ) (m : Message N) → IsAmong (Sends a m) h.more ⊎ IsAmong (Sends a m) k.more → SentFrom s.messages m
      sent_either a m (inl i) = h.sent a m i
      sent_either a m (inr i) = from m (k.sent a m i)

      either : (p : N) (y : Value N) → IsAmong (Settles p y) h.more ⊎ IsAmong (Settles p y) k.more → standing_of K u.known p ≡ Settled y
      either p y (inl i) = stands_later t u k.stays p y (h.stood p y i)
      either p y (inr i) = k.stood p y i

  abbrev pub TellsBy : Property N
  TellsBy A m = (s : Vat N) → After Tells s (m s)

  abbrev pub Telling : {A : Type 0} → Act N A → Type 0
  Telling m = Holds TellsBy m

  widen : {A : Type 0} (s t : Vat N) → Tells s t → (d : Done N A) → After Tells t d → After Tells s d
  widen s t r (Gives a u) h = tells_trans s t u r h
  widen s t r (Throws p u) h = tells_trans s t u r h
  widen s t r (Ejects n v u) h = tells_trans s t u r h
  widen s t r (Stops c u) h = tells_trans s t u r h

  bind_after : {A B : Type 0} (s : Vat N) (d : Done N A) (f : A → Act N B) → After Tells s d → ((a : A) → Telling (f a)) → After Tells s (and_then d f)
  unfolding and_then
  bind_after s (Gives a t) f h k = widen s t h (f a t) ((k a).after t)
  bind_after s other f h k = h

  tells_bind : {A B : Type 0} {m : Act N A} {f : A → Act N B} → Telling m → ((a : A) → Telling (f a)) → Telling (m >>= f)
  unfolding ◌>>=◌
  tells_bind {m = m} {f = f} h k = record { after = λ s. bind_after s (m s) f (h.after s) k }

  end_after : {A B : Type 0} (f : A → Act N B) (g : Words → Act N B) (h : ℕ → Value N → Act N B) (s : Vat N) (d : Done N A) → After Tells s d
      → ((a : A) → Telling (f a)) → ((p : Words) → Telling (g p)) → ((n : ℕ) (v : Value N) → Telling (h n v)) → After Tells s (end_by f g h d)
  unfolding end_by
  end_after f g h s (Gives a t) r i j k = widen s t r (f a t) ((i a).after t)
  end_after f g h s (Throws p t) r i j k = widen s t r (g p t) ((j p).after t)
  end_after f g h s (Ejects n v t) r i j k = widen s t r (h n v t) ((k n v).after t)
  end_after f g h s (Stops c t) r i j k = r

  tells_ending : {A B : Type 0} {f : A → Act N B} {g : Words → Act N B} {h : ℕ → Value N → Act N B} {m : Act N A}
      → ((a : A) → Telling (f a)) → ((p : Words) → Telling (g p)) → ((n : ℕ) (v : Value N) → Telling (h n v)) → Telling m → Telling (ending f g h m)
  unfolding ending
  tells_ending {f = f} {g = g} {h = h} {m = m} i j k r = record { after = λ s. end_after f g h s (m s) (r.after s) i j k }

  closed : IsClosed TellsBy
  unfolding give stop look
  closed = record { gives = λ a. record { after = tells_same }; stops = λ c. record { after = tells_same }; looks = λ f. record { after = tells_same }; binds = tells_bind }

  ends : IsEnding TellsBy
  unfolding throw eject
  ends = record { throws = λ p. record { after = tells_same }; ejects = λ n v. record { after = tells_same }; ends = tells_ending }

  -- ---- single changes

  -- a change that leaves what settled, and tells no line
  calm : (s t : Vat N) → SettledStays K s t → s.messages ≤ t.messages → t.happened ≡ s.happened → Tells s t
  calm s t h n e = record { stays = h; counts = n; more = []; lines = e ∙ sym (end_none s.happened); stood = λ p y i. absurd i; took = λ a m i. absurd i; sent = λ a m i. absurd i; called = λ a x verb args b i. absurd i }

  changes : {A : Type 0} (f : Vat N → Vat N) (a : Vat N → A) → ((s : Vat N) → SettledStays K s (f s)) → ((s : Vat N) → ((f s).happened ≡ s.happened) × ((f s).messages ≡ s.messages)) → Telling (λ s. Gives (a s) (f s))
  changes f a h e = record { after = λ s. calm s (f s) (h s) (subst (λ n. s.messages ≤ n) (sym (e s).1) (same_count s.messages)) (e s).0 }

  plain_settles : (e : Happened N) → IsPlain e → (p : N) (y : Value N) → IsAmong (Settles p y) (e ∷ []) → ⊥
  plain_settles e f p y (inl q) = subst IsPlain (sym q) f
  plain_settles e f p y (inr i) = i

  plain_took : (e : Happened N) → IsPlain e → (a : ℕ) (m : Message N) → IsAmong (Took a m) (e ∷ []) → ⊥
  plain_took e f a m (inl q) = subst IsPlain (sym q) f
  plain_took e f a m (inr i) = i

  plain_sends : (e : Happened N) → IsPlain e → (a : ℕ) (m : Message N) → IsAmong (Sends a m) (e ∷ []) → ⊥
  plain_sends e f a m (inl q) = subst IsPlain (sym q) f
  plain_sends e f a m (inr i) = i

  plain_called : (e : Happened N) → IsPlain e → (a : ℕ) (x : Value N) (verb : Words) (args : List (Value N)) (b : Option ℕ) → IsAmong (Called a x verb args b) (e ∷ []) → ⊥
  plain_called e f a x verb args b (inl q) = subst IsPlain (sym q) f
  plain_called e f a x verb args b (inr i) = i

  telling : (e : Happened N) → IsPlain e → Telling (tell e)
  unfolding tell
  telling e f = record {
    after = λ s. record {
      stays = λ n k y q h. q;
      counts = same_count s.messages;
      more = e ∷ [];
      lines = refl;
      stood = λ p y i. absurd (plain_settles e f p y i);
      took = λ a m i. absurd (plain_took e f a m i);
      sent = λ a m i. absurd (plain_sends e f a m i);
      called = λ a x verb args b i. absurd (plain_called e f a x verb args b i);
    };
  }

  spend_after : (s : Vat N) (n : ℕ) (b : Bool) → After Tells s (spent n b s)
  unfolding spent
  spend_after s n true = calm s (record s { fuel = s.fuel - n }) (λ m k y e h. e) (same_count s.messages) refl
  spend_after s n false = tells_same s

  spends : (n : ℕ) → Telling (spend n)
  unfolding spend
  spends n = record { after = λ s. spend_after s n (nat_le n s.fuel) }

  activates : Telling new_activation
  unfolding new_activation
  activates = changes (λ s. record s { activations = suc s.activations }) (λ s. s.activations) (λ s n k y e h. e) (λ s. (refl, refl))

  makes : (x : Thing N) → Telling (new_thing x)
  unfolding new_thing
  makes x = changes (λ s. record s { things = s.things ++ x ∷ [] }) (λ s. length s.things) (λ s n k y e h. e) (λ s. (refl, refl))

  kills : (i : ℕ) → Telling (kill i)
  unfolding kill
  kills i = changes (λ s. record s { things = change dead i s.things }) (λ s. tt) (λ s n k y e h. e) (λ s. (refl, refl))

  slots : (g v : Value N) → Telling (new_slot g v)
  unfolding new_slot
  slots g v = changes (λ s. record s { slots = s.slots ++ record { guard = g; value = v } ∷ [] }) (λ s. length s.slots) (λ s n k y e h. e) (λ s. (refl, refl))

  writes : (i : ℕ) (v : Value N) → Telling (write_slot i v)
  unfolding write_slot
  writes i v = changes (λ s. record s { slots = change (holding v) i s.slots }) (λ s. tt) (λ s n k y e h. e) (λ s. (refl, refl))

  lists : (vs : List (Value N)) → Telling (new_list vs)
  unfolding new_list
  lists vs = changes (λ s. record s { lists = s.lists ++ vs ∷ [] }) (λ s. length s.lists) (λ s n k y e h. e) (λ s. (refl, refl))

  queues : (m : Message N) → Telling (enqueue m)
  unfolding enqueue
  queues m = changes (λ s. record s { queue = s.queue ++ m ∷ [] }) (λ s. tt) (λ s n k y e h. e) (λ s. (refl, refl))

  puts : (to : ℕ) (x : Note N) → Telling (send_out to x)
  unfolding send_out
  puts to x = changes (λ s. record s { outbox = s.outbox ++ record { to = to; note = x } ∷ [] }) (λ s. tt) (λ s n k y e h. e) (λ s. (refl, refl))

  gifts : (n : N) (p i : ℕ) → Telling (new_gift n p i)
  unfolding new_gift
  gifts n p i = changes (λ s. record s { gifts = s.gifts ++ record { name = n; provider = p; number = i; opened = false } ∷ [] }) (λ s. tt) (λ s n k y e h. e) (λ s. (refl, refl))

  opens : (p i : ℕ) → Telling {A = Unit {0}} (open_gift p i)
  unfolding open_gift
  opens p i = changes (λ s. record s { gifts = with_opened p i s.gifts }) (λ s. tt) (λ s n k y e h. e) (λ s. (refl, refl))

  marks : (w : ℕ) → Telling {A = Unit {0}} (mark w)
  unfolding mark
  marks w = changes (λ s. record s { noticed = s.noticed ++ w ∷ [] }) (λ s. tt) (λ s n k y e h. e) (λ s. (refl, refl))

  draws_after : (s : Vat N) (w : ℕ) (o : Option ℕ) → After Tells s (draws w o s)
  unfolding draws
  draws_after s w (Some i) = tells_same s
  draws_after s w None = calm s (record s { drawn = s.drawn ++ w ∷ [] }) (λ n k y e h. e) (same_count s.messages) refl

  drawing : Telling (draw K)
  unfolding draw
  drawing = record { after = λ s. draws_after s _ _ }

  alters : (c : Change N) (n : N) → Telling (alter K c n)
  unfolding alter
  alters c n = changes (λ s. record s { known = with_change K c n s.known }) (λ s. tt) (λ s. (settled_names K).altered s c n) (λ s. (refl, refl))

  comes : (c : Coming N W) (h : ℕ) → Telling (come K c h)
  unfolding come
  comes c h = changes (λ s. record s { known = s.known ++ begun (K.made c (length s.known)) h ∷ [] }) (λ s. K.made c (length s.known)) (λ s. (settled_names K).came s c h) (λ s. (refl, refl))

  mails : (c : Mailing W) → Telling (mail K c)
  unfolding mail
  mails c = changes (λ s. record s { mails = s.mails ++ K.mailed c (length s.mails) ∷ [] }) (λ s. K.mailed c (length s.mails)) (λ s n k y e h. e) (λ s. (refl, refl))

  promises : Telling (new_promise K)
  unfolding new_promise
  promises = record { after = λ s. calm s _ ((settled_names K).promised s) (same_count s.messages) refl }

  one_more : (n : ℕ) → n ≤ suc n
  one_more n = omega arith

  messages : (h : ℕ) → Telling (new_message K h)
  unfolding new_message
  messages h = record { after = λ s. calm s _ ((settled_names K).messaged s h (K.mailed (IsSent s.messages) (length s.mails))) (one_more s.messages) refl }

  lone_messages : Telling (new_lone_message K)
  unfolding new_lone_message
  lone_messages = record { after = λ s. calm s _ (λ n k y e h. e) (one_more s.messages) refl }

  -- ---- references

  in_refs : InRefs TellsBy
  in_refs = record { tells = λ e h. telling e (refs_plain e h); spends = spends; queues = queues; puts = λ to n h. puts to n }

  in_refs_under : InRefsUnder TellsBy K
  in_refs_under = record { alters = λ c n h. alters c n; comes = comes; draws = drawing }

  -- a name that is known and had not settled is settled to that once it settles
  not_settled : (x : Standing N) (k new : Known N) → ((z : Value N) → x ≡ Settled z → ⊥) → unless_settled x k new ≡ new
  unfolding unless_settled
  not_settled (Settled z) k new f = absurd (f z refl)
  not_settled other k new f = refl

  some_known : (j k : Known N) → Some j ≡ Some k → j ≡ k
  some_known j k e = cc

  abbrev IsOpen : Known N → Type 0
  IsOpen k = (z : Value N) → k.standing ≡ Settled z → ⊥

  first_settled : (p : N) (y : Value N) (j : Known N) (ks : List (Known N)) → IsOpen j → K.same j.name p ≡ true → standing_in (entry_of K (changed (Settle y) j ∷ ks) p) ≡ Settled y
  unfolding entry_of standing_in changed changed_to
  first_settled p y j ks f same = subst (λ x. standing_in (entry_of K (x ∷ ks) p) ≡ Settled y) (sym (not_settled j.standing j (changed_to (Settle y) j) f))
      (subst (λ b. standing_in (elim b [ true ↦ Some (changed_to (Settle y) j) | false ↦ entry_of K ks p ]) ≡ Settled y) (sym same) refl)

  settle_either : (p : N) (y : Value N) (j : Known N) (ks : List (Known N)) (k : Known N) (b : Bool) → K.same j.name p ≡ b → elim b [ true ↦ Some j | false ↦ entry_of K ks p ] ≡ Some k → IsOpen k
      → (entry_of K ks p ≡ Some k → standing_in (entry_of K (with_change K (Settle y) p ks) p) ≡ Settled y)
      → standing_in (entry_of K (elim b [ true ↦ changed (Settle y) j ∷ ks | false ↦ j ∷ with_change K (Settle y) p ks ]) p) ≡ Settled y
  unfolding entry_of
  settle_either p y j ks k true same e f rest = first_settled p y j ks (subst IsOpen (sym (some_known j k e)) f) same
  settle_either p y j ks k false same e f rest = subst (λ b. standing_in (elim b [ true ↦ Some j | false ↦ entry_of K (with_change K (Settle y) p ks) p ]) ≡ Settled y) (sym same) (rest e)

  no_known : (k : Known N) → ◌≡◌ {A = Option (Known N)} None (Some k) → ⊥
  no_known k e = cc

  settle_found : (p : N) (y : Value N) (ks : List (Known N)) (k : Known N) → entry_of K ks p ≡ Some k → IsOpen k → standing_of K (with_change K (Settle y) p ks) p ≡ Settled y
  unfolding standing_of entry_of with_change
  settle_found p y [] k e f = absurd (no_known k e)
  settle_found p y (j ∷ ks) k e f = settle_either p y j ks k (K.same j.name p) refl e f (λ r. settle_found p y ks k r f)

  -- the line of a settling, and the settling
  settled_now : (s : Vat N) (p : N) (y : Value N) (k : Known N) → entry_of K s.known p ≡ Some k → IsOpen k → Tells s (record s { happened = s.happened ++ Settles p y ∷ []; known = with_change K (Settle y) p s.known })
  settled_now s p y k e f = record {
    stays = (settled_names K).altered s (Settle y) p;
    counts = same_count s.messages;
    more = Settles p y ∷ [];
    lines = refl;
    stood = λ q z i. one q z i;
    took = λ a m i. absurd (no_taking a m i);
    sent = λ a m i. absurd (no_send a m i);
    called = λ a x verb args b i. absurd (no_call a x verb args b i);
  }
    where
      no_call : (a : ℕ) (x : Value N) (verb : Words) (args : List (Value N)) (b : Option ℕ) → IsAmong (Called a x verb args b) (Settles p y ∷ []) → ⊥
      no_call a x verb args b (inl q) = cc
      no_call a x verb args b (inr i) = i

      no_taking : (a : ℕ) (m : Message N) → IsAmong (Took a m) (Settles p y ∷ []) → ⊥
      no_taking a m (inl q) = cc
      no_taking a m (inr i) = i

      no_send : (a : ℕ) (m : Message N) → IsAmong (Sends a m) (Settles p y ∷ []) → ⊥
      no_send a m (inl q) = cc
      no_send a m (inr i) = i

      name_is : (q : N) (z : Value N) → Settles q z ≡ Settles p y → (q ≡ p) × (z ≡ y)
      name_is q z i = (cc, cc)

      one : (q : N) (z : Value N) → IsAmong (Settles q z) (Settles p y ∷ []) → standing_of K (with_change K (Settle y) p s.known) q ≡ Settled z
      one q z (inl i) = let r = name_is q z i in subst (λ n. standing_of K (with_change K (Settle y) p s.known) n ≡ Settled z) (sym r.0) (subst (λ x. standing_of K (with_change K (Settle y) p s.known) p ≡ Settled x) (sym r.1) (settle_found p y s.known k e f))
      one q z (inr i) = absurd i

  abbrev GoodSettler : (N → Value N → Act N (Unit {0})) → Type 0
  GoodSettler f = (p : N) (y : Value N) → Telling (f p y)

  known_after : (f : N → Value N → Act N (Unit {0})) → GoodSettler f → (p : N) (y : Value N) (k : Known N) (s : Vat N) → entry_of K s.known p ≡ Some k → IsOpen k → After Tells s (refs.settle_known K f p y k s)
  unfolding refs.settle_known tell alter ◌>>◌ and_then
  known_after f good p y k s e open' = widen s (record s { happened = s.happened ++ Settles p y ∷ []; known = with_change K (Settle y) p s.known }) (settled_now s p y k e open') _
      ((walk_then TellsBy closed (walk_each TellsBy closed k.held (λ m. walk_send_on TellsBy K closed in_refs in_refs_under f good m)) (walk_then TellsBy closed (walk_each TellsBy closed k.waiting (λ q. good q y)) (walk_then TellsBy closed (walk_each TellsBy closed k.reactions queues) (walk_each TellsBy closed k.told (walk_inform TellsBy K closed in_refs in_refs_under p))))).after
      (record s { happened = s.happened ++ Settles p y ∷ []; known = with_change K (Settle y) p s.known }))

  unsettled_is : (z : Value N) → ◌≡◌ {A = Standing N} Unsettled (Settled z) → ⊥
  unsettled_is z e = cc

  waits_is : (q : N) (z : Value N) → ◌≡◌ {A = Standing N} (WaitsOn q) (Settled z) → ⊥
  waits_is q z e = cc

  viewed_is : (q : N) (z : Value N) → ◌≡◌ {A = Standing N} (Viewed q) (Settled z) → ⊥
  viewed_is q z e = cc

  standing_after : (f : N → Value N → Act N (Unit {0})) → GoodSettler f → (p : N) (y : Value N) (k : Known N) (s : Vat N) → entry_of K s.known p ≡ Some k → (x : Standing N) → k.standing ≡ x → After Tells s (refs.settle_standing K f p y k x s)
  unfolding refs.settle_standing give
  standing_after f good p y k s e (Settled z) i = tells_same s
  standing_after f good p y k s e Unsettled i = known_after f good p y k s e (λ z j. unsettled_is z (sym i ∙ j))
  standing_after f good p y k s e (WaitsOn q) i = known_after f good p y k s e (λ z j. waits_is q z (sym i ∙ j))
  standing_after f good p y k s e (Viewed q) i = known_after f good p y k s e (λ z j. viewed_is q z (sym i ∙ j))

  entry_after : (f : N → Value N → Act N (Unit {0})) → GoodSettler f → (p : N) (y : Value N) (s : Vat N) (o : Option (Known N)) → entry_of K s.known p ≡ o → After Tells s (refs.settle_entry K f p y o s)
  unfolding refs.settle_entry give
  entry_after f good p y s None e = tells_same s
  entry_after f good p y s (Some k) e = standing_after f good p y k s e k.standing refl

  settling_one : (f : N → Value N → Act N (Unit {0})) → GoodSettler f → (p : N) (y : Value N) → Telling (refs.settle_one K f p y)
  unfolding refs.settle_one look ◌>>=◌ and_then
  settling_one f good p y = record { after = λ s. entry_after f good p (target_of K s p y) s (entry_of K s.known p) refl }

  in_settling : InSettling TellsBy K
  in_settling = record { settles = λ d h p y. settling_one (λ q z. refs.settle_at K d q z) h p y }

  settling : (p : N) (y : Value N) → Telling (settle K p y)
  settling = walk_settle TellsBy K closed in_refs in_refs_under in_settling

  send_first : (m : Message N) (y : Value N) (p : refs.Place N) → Telling (refs.send_first K m y p)
  send_first = walk_send_first TellsBy K closed in_refs in_refs_under in_settling

  -- a new message with the line of its send
  none_is : (p : N) → ◌≡◌ {A = Option N} None (Some p) → ⊥
  none_is p e = cc

  some_is : (p q : N) → ◌≡◌ {A = Option N} (Some p) (Some q) → p ≡ q
  some_is p q e = cc

  line_sent : (s t : Vat N) (act : ℕ) (m : Message N) → SettledStays K s t → s.messages ≤ t.messages → t.happened ≡ s.happened ++ Sends act m ∷ [] → SentFrom s.messages m → Tells s t
  line_sent s t act m h n e f = record { stays = h; counts = n; more = Sends act m ∷ []; lines = e; stood = λ p y i. absurd (no_settling p y i); took = λ a x i. absurd (no_taking a x i); sent = λ a x i. one a x i; called = λ a x verb args b i. absurd (no_call a x verb args b i) }
    where
      no_call : (a : ℕ) (x : Value N) (verb : Words) (args : List (Value N)) (b : Option ℕ) → IsAmong (Called a x verb args b) (Sends act m ∷ []) → ⊥
      no_call a x verb args b (inl q) = cc
      no_call a x verb args b (inr i) = i

      no_settling : (p : N) (y : Value N) → IsAmong (Settles p y) (Sends act m ∷ []) → ⊥
      no_settling p y (inl q) = cc
      no_settling p y (inr i) = i

      no_taking : (a : ℕ) (x : Message N) → IsAmong (Took a x) (Sends act m ∷ []) → ⊥
      no_taking a x (inl q) = cc
      no_taking a x (inr i) = i

      message_is : (a : ℕ) (x : Message N) → Sends a x ≡ Sends act m → m ≡ x
      message_is a x q = cc

      one : (a : ℕ) (x : Message N) → IsAmong (Sends a x) (Sends act m ∷ []) → SentFrom s.messages x
      one a x (inl q) = subst (SentFrom s.messages) (message_is a x q) f
      one a x (inr i) = absurd i

  sending_new : {B : Type 0} (h act : ℕ) (x : Value N) (verb : Words) (args : List (Value N)) (f : N × N → Act N B) → ((new : N × N) → Telling (f new))
      → Telling (new_message K h >>= λ new. tell (Sends act (record { id = new.0; target = x; verb = verb; args = args; answer = Some new.1 })) >> f new)
  unfolding new_message tell ◌>>=◌ ◌>>◌ and_then
  sending_new h act x verb args f g = record {
    after = λ s. let id : N = K.mailed (IsSent s.messages) (length s.mails) in let a : N = K.made (IsAnswer h id) (length s.known) in let m : Message N = record { id = id; target = x; verb = verb; args = args; answer = Some a } in
        let t : Vat N = record s { messages = suc s.messages; mails = s.mails ++ id ∷ []; known = s.known ++ begun a h ∷ []; happened = s.happened ++ Sends act m ∷ [] } in
        widen s t (line_sent s t act m ((settled_names K).messaged s h id) (one_more s.messages) refl (λ p e. (s.messages, h, length s.mails, length s.known, same_count s.messages, sym (some_is a p e)))) (f (id, a) t) ((g (id, a)).after t);
  }

  sending : (act : ℕ) (x : Value N) (verb : Words) (args : List (Value N)) → Telling (refs.send K act x verb args)
  unfolding refs.send
  sending act x verb args = walk_bind TellsBy closed (closed.looks _) (λ y. walk_bind TellsBy closed (closed.looks _) (λ p. walk_bind TellsBy closed (closed.looks _) (λ v.
      sending_new (refs.answer_host K v p) act x verb args (λ new. refs.send_first K (record { id = new.0; target = y; verb = verb; args = args; answer = Some new.1 }) y p >> give (Ref new.1))
      (λ new. walk_then TellsBy closed (send_first (record { id = new.0; target = y; verb = verb; args = args; answer = Some new.1 }) y p) (closed.gives (Ref new.1))))))

  lone_sent : (act : ℕ) (m : Message N) → m.answer ≡ None → Telling (tell (Sends act m))
  unfolding tell
  lone_sent act m e = record { after = λ s. line_sent s (record s { happened = s.happened ++ Sends act m ∷ [] }) act m (λ n k y q h. q) (same_count s.messages) refl (λ p q. absurd (none_is p (sym e ∙ q))) }

  sending_only : (act : ℕ) (x : Value N) (verb : Words) (args : List (Value N)) → Telling (refs.send_only K act x verb args)
  unfolding refs.send_only
  sending_only act x verb args = walk_bind TellsBy closed (closed.looks _) (λ y. walk_bind TellsBy closed (closed.looks _) (λ p. walk_bind TellsBy closed lone_messages (λ id.
      walk_then TellsBy closed (lone_sent act (record { id = id; target = x; verb = verb; args = args; answer = None }) refl)
      (walk_then TellsBy closed (send_first (record { id = id; target = y; verb = verb; args = args; answer = None }) y p) (closed.gives Null)))))

  reacting : (act : ℕ) (x o near : Value N) → Telling (refs.react K act x o near)
  unfolding refs.react
  reacting act x o near = walk_bind TellsBy closed (closed.looks _) (λ v. walk_bind TellsBy closed (messages v) (λ new. walk_then TellsBy closed (telling (Reacts act x o (refs.reaction K new.0 near x new.1)) tt)
      (walk_bind TellsBy closed (closed.looks _) (λ p. walk_then TellsBy closed (walk_react_at TellsBy K closed in_refs in_refs_under in_settling (refs.reaction K new.0 near x new.1) p) (closed.gives (Ref new.1))))))

  resolving : (p : N) (y : Value N) → Telling (refs.resolve K p y)
  resolving = walk_resolve TellsBy K closed in_refs in_refs_under in_settling

  -- ---- arrivals

  in_arrive : InArrive TellsBy
  in_arrive = record { asks = λ to p i n. puts to (Ask p i n); shortens = λ to n c i. puts to (Shorten n c i); gifts = gifts; opens = opens; marks = marks }

  in_arrive_under : InArriveUnder TellsBy K
  in_arrive_under = record {
    mails = mails;
    lists = λ vs. lists_by_line TellsBy K closed vs (lists vs) (λ k. telling (ListCame k vs) tt);
    views = λ p q m h. walk_then TellsBy closed (telling (Views p q) tt) (walk_then TellsBy closed (alters (See q) p) h);
  }

  -- ---- evaluation

  lines : (act : ℕ) (m : Act N (Value N)) → Telling m → Telling (ended act m)
  lines act m h = ends_by_lines TellsBy closed ends act m (λ v. telling (Back act v) tt) (λ t. telling (Thrown act t) tt) (telling (Left act) tt) h

  -- the line of a call, where calls may be told
  call_line : (act : ℕ) (x : Value N) (verb : Words) (args : List (Value N)) (b : Option ℕ) → C → Telling (tell (Called act x verb args b))
  unfolding tell
  call_line act x verb args b c = record {
    after = λ s. record {
      stays = λ n k y q h. q;
      counts = same_count s.messages;
      more = Called act x verb args b ∷ [];
      lines = refl;
      stood = λ p y i. absurd (no_settling p y i);
      took = λ a m i. absurd (no_taking a m i);
      sent = λ a m i. absurd (no_send a m i);
      called = λ a y w vs o i. c;
    };
  }
    where
      no_settling : (p : N) (y : Value N) → IsAmong (Settles p y) (Called act x verb args b ∷ []) → ⊥
      no_settling p y (inl q) = cc
      no_settling p y (inr i) = i

      no_taking : (a : ℕ) (m : Message N) → IsAmong (Took a m) (Called act x verb args b ∷ []) → ⊥
      no_taking a m (inl q) = cc
      no_taking a m (inr i) = i

      no_send : (a : ℕ) (m : Message N) → IsAmong (Sends a m) (Called act x verb args b ∷ []) → ⊥
      no_send a m (inl q) = cc
      no_send a m (inr i) = i

  in_eval : C → InEval TellsBy
  in_eval c = record {
    tells = λ e h. telling e (eval_plain e h);
    spends = spends;
    activates = activates;
    objects = λ node caught stamps. makes (Made node caught stamps);
    slots = slots;
    writes = writes;
    lists = lists;
    calls = λ act x verb args {m} h. walk_then TellsBy closed (call_line act x verb args None c) (lines act m h);
    begins = λ act x verb args {m} h. walk_bind TellsBy closed activates (λ b. walk_then TellsBy closed (call_line act x verb args (Some b) c) (lines act (m b) (h b)));
  }

  in_eval_under : (tree : List Node) → InEvalUnder TellsBy K tree
  in_eval_under tree = record {
    promises = promises;
    resolvers = λ p. makes (Resolver p);
    audits = λ act view {m} {f} h k. audits_by_kills TellsBy closed ends K tree kills act view m f (makes (Audition true view)) (λ n. telling (AuditionMade act (K.object n)) tt) h k;
    escapes = λ act {f} {g} {h} {m} x y z w. escapes_by_kills TellsBy closed ends K tree kills act f g h m (makes (Ejector true)) (λ n. telling (EjectorMade act (K.object n)) tt) x y z w;
    breaks = λ p t. settling p (Broken t);
    resolves = λ p y. resolves_always TellsBy closed ends K tree p y (resolving p y);
    sends = sending;
    sends_only = sending_only;
    reacts = reacting;
  }

  take_line : (a : ℕ) (m : Message N) → T m → Telling (tell (Took a m))
  unfolding tell
  take_line a m h = record { after = λ s. record { stays = λ n k y q g. q; counts = same_count s.messages; more = Took a m ∷ []; lines = refl; stood = λ p y i. absurd (no_settling p y i); took = λ b x i. one b x i; sent = λ b x i. absurd (no_send b x i); called = λ c x verb args b i. absurd (no_call c x verb args b i) } }
    where
      no_call : (c : ℕ) (x : Value N) (verb : Words) (args : List (Value N)) (b : Option ℕ) → IsAmong (Called c x verb args b) (Took a m ∷ []) → ⊥
      no_call c x verb args b (inl q) = cc
      no_call c x verb args b (inr i) = i

      no_settling : (p : N) (y : Value N) → IsAmong (Settles p y) (Took a m ∷ []) → ⊥
      no_settling p y (inl q) = cc
      no_settling p y (inr i) = i

      no_send : (b : ℕ) (x : Message N) → IsAmong (Sends b x) (Took a m ∷ []) → ⊥
      no_send b x (inl q) = cc
      no_send b x (inr i) = i

      message_is : (b : ℕ) (x : Message N) → Took b x ≡ Took a m → m ≡ x
      message_is b x q = cc

      one : (b : ℕ) (x : Message N) → IsAmong (Took b x) (Took a m ∷ []) → T x
      one b x (inl q) = subst T (message_is b x q) h
      one b x (inr i) = absurd i

  taken : (m : Message N) → T m → (f : ℕ → Act N (Unit {0})) → ((a : ℕ) → Telling (f a)) → Telling (new_activation >>= λ a. tell (Took a m) >> f a)
  taken m g f h = walk_bind TellsBy closed activates (λ a. walk_then TellsBy closed (take_line a m g) (h a))

  -- the message of a step may be taken, and its calls be told
  abbrev pub MayTake : Step N W → Type 0
  MayTake (Opens tree depth root given) = C
  MayTake (Takes tree depth m) = T m × C
  MayTake other = Unit {0}

  -- so does each step
  pub steps_tell : (step : Step N W) → MayTake step → Telling (does K step)
  unfolding does
  steps_tell (Opens tree depth root given) may = walk_opening TellsBy K tree closed ends (in_eval may) (in_eval_under tree) depth root given (resolving root)
  steps_tell (Takes tree depth m) may = walk_taking TellsBy K tree closed ends (in_eval may.1) (in_eval_under tree) depth m (taken m may.0) (where_some _ resolving m.answer)
  steps_tell (Receives from n) may = walk_arrive TellsBy K closed in_refs in_refs_under in_settling in_arrive in_arrive_under from n
  steps_tell (Notices w) may = walk_notice TellsBy K closed in_refs in_refs_under in_settling in_arrive in_arrive_under w
