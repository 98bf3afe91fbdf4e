-- What each single change brings.
use Rattle.std.proofs.Common.{◌≡◌, ℕ, zero, suc, Bool, true, false, List, [], ◌∷◌, ◌++◌, Option, Some, None, length, refl, sym, ap, ◌∙◌, subst, inl, inr, ◌==◌, eqb-true}
use Rattle.std.specs.Prelude.{slice_get, nat_le}
use Rattle.def_machine.specs.Values.{Words, Value, Name, Coming, IsOwn, IsAnswer, Mailing, IsSent, naming, name_of, mail_of, same_reference}
use Rattle.def_machine.specs.State.{Thing, Bound, Message, Standing, Settled, Known, Note, Open, Ask, Shorten, Put, Happened, Called, Back, Thrown, Left, Got, SlotMade, SlotRead, SlotWrote, ListMade, ListCame, EjectorMade, AuditionMade, PromiseMade, ObjectMade, Sends, Reacts, Finished, Threw, Settles, Waits, Views, Lost, Posted, Vat, tell, spend, spent, new_activation, new_thing, kill, new_slot, write_slot, new_list, enqueue, Change, Hold, Wait, WaitOn, See, React, ToTell, Settle, send_out, new_gift, open_gift, mark, draws, unless_settled, changed_to, changed, with_change, begun, alter, come, mail, new_promise, new_message, draw, new_lone_message, is_in}
use Rattle.law_uses.specs.Connectivity.Known.{IsAmong, AllOf}
use Rattle.law_uses.proofs.Connectivity.Knowing.{among_more}
use Rattle.law_fate.proofs.Name.SameNames.{reference_is}
use Rattle.law_uses.proofs.Connectivity.Passing.{all_end, all_map}
use Rattle.law_uses.specs.Connectivity.Stems.{HostIn}
use Rattle.law_uses.proofs.Connectivity.Moments.{Past, Line, Later, later_same, TookFine, Fine, ReactionFine, QueuedFine, NoteFine, KnownFine, known_later, FineIn, Good, good_later, Ends, Any, Brings, Does, brings_bind, brings_then, brings_ending, brings_some, brings_if, brings_give, brings_throw, brings_eject, brings_stop, brings_look, brings_each}

pub among_last : {A : Type 0} (xs : List A) (x : A) → IsAmong x (xs ++ x ∷ [])
among_last [] x = inl refl
among_last (y ∷ xs) x = inr (among_last xs x)

slice_more : {A : Type 0} (xs ys : List A) (k : ℕ) (x : A) → slice_get xs k ≡ Some x → slice_get (xs ++ ys) k ≡ Some x
slice_more [] ys k x e = cc
slice_more (z ∷ xs) ys zero x e = e
slice_more (z ∷ xs) ys (suc k) x e = slice_more xs ys k x e

pub slice_last : {A : Type 0} (xs : List A) (x : A) → slice_get (xs ++ x ∷ []) (length xs) ≡ Some x
slice_last [] x = refl
slice_last (z ∷ xs) x = slice_last xs x

module _ (past : Past) where
  later_line : (s : Vat Name) (e : Happened Name) → Later s (record s { happened = s.happened ++ e ∷ [] })
  later_line s e = (λ x i. among_more x s.happened (e ∷ []) i, λ k vs h. h, λ q h. h, refl, λ n u h. h)

  good_line : (s : Vat Name) (e : Happened Name) → TookFine past.step e → Good past s → Good past (record s { happened = s.happened ++ e ∷ [] })
  good_line s e f g = let h = good_later past s (record s { happened = s.happened ++ e ∷ [] }) s (later_line s e) g in (h.0, h.1, h.2, all_end (TookFine past.step) s.happened e h.3 f, h.4)

  pub brings_tell : (e : Happened Name) → TookFine past.step e → Brings past (tell e)
  unfolding tell
  brings_tell e f = record { after = λ s g. (later_line s e, good_line s e f g, tt) }

  pub does_tell : (e : Happened Name) → TookFine past.step e → Does past (λ s. Unit {0}) (λ a t. IsAmong e t.happened) (tell e)
  unfolding tell
  does_tell e f = record { after = λ s i g. (later_line s e, good_line s e f g, among_last s.happened e) }

  pub tells_got : (a : ℕ) (v : Value Name) → Brings past (tell (Got a v))
  tells_got a v = brings_tell (Got a v) tt

  pub tells_back : (a : ℕ) (v : Value Name) → Brings past (tell (Back a v))
  tells_back a v = brings_tell (Back a v) tt

  pub tells_thrown : (a : ℕ) (p : Words) → Brings past (tell (Thrown a p))
  tells_thrown a p = brings_tell (Thrown a p) tt

  pub tells_left : (a : ℕ) → Brings past (tell (Left a))
  tells_left a = brings_tell (Left a) tt

  pub tells_called : (a : ℕ) (x : Value Name) (verb : Words) (args : List (Value Name)) (b : Option ℕ) → Brings past (tell (Called a x verb args b))
  tells_called a x verb args b = brings_tell (Called a x verb args b) tt

  pub tells_slot_made : (a k : ℕ) (v : Value Name) → Brings past (tell (SlotMade a k v))
  tells_slot_made a k v = brings_tell (SlotMade a k v) tt

  pub tells_slot_read : (a k : ℕ) (v : Value Name) → Brings past (tell (SlotRead a k v))
  tells_slot_read a k v = brings_tell (SlotRead a k v) tt

  pub tells_slot_wrote : (a k : ℕ) (v : Value Name) → Brings past (tell (SlotWrote a k v))
  tells_slot_wrote a k v = brings_tell (SlotWrote a k v) tt

  pub tells_list_made : (a k : ℕ) (vs : List (Value Name)) → Brings past (tell (ListMade a k vs))
  tells_list_made a k vs = brings_tell (ListMade a k vs) tt

  pub tells_list_came : (k : ℕ) (vs : List (Value Name)) → Brings past (tell (ListCame k vs))
  tells_list_came k vs = brings_tell (ListCame k vs) tt

  pub tells_ejector_made : (a : ℕ) (j : Name) → Brings past (tell (EjectorMade a j))
  tells_ejector_made a j = brings_tell (EjectorMade a j) tt

  pub tells_audition_made : (a : ℕ) (j : Name) → Brings past (tell (AuditionMade a j))
  tells_audition_made a j = brings_tell (AuditionMade a j) tt

  pub tells_promise_made : (a : ℕ) (p r : Name) → Brings past (tell (PromiseMade a p r))
  tells_promise_made a p r = brings_tell (PromiseMade a p r) tt

  pub tells_object_made : (a : ℕ) (me : Name) (x : Words) (bs : List (Bound Name)) (ys : List (Value Name)) → Brings past (tell (ObjectMade a me x bs ys))
  tells_object_made a me x bs ys = brings_tell (ObjectMade a me x bs ys) tt

  pub tells_sends : (a : ℕ) (m : Message Name) → Brings past (tell (Sends a m))
  tells_sends a m = brings_tell (Sends a m) tt

  pub tells_reacts : (a : ℕ) (x y : Value Name) (m : Message Name) → Brings past (tell (Reacts a x y m))
  tells_reacts a x y m = brings_tell (Reacts a x y m) tt

  pub tells_finished : (a : ℕ) (v : Value Name) → Brings past (tell (Finished a v))
  tells_finished a v = brings_tell (Finished a v) tt

  pub tells_threw : (a : ℕ) (p : Words) → Brings past (tell (Threw a p))
  tells_threw a p = brings_tell (Threw a p) tt

  pub tells_settles : (p : Name) (y : Value Name) → Brings past (tell (Settles p y))
  tells_settles p y = brings_tell (Settles p y) tt

  pub tells_waits : (p q : Name) → Brings past (tell (Waits p q))
  tells_waits p q = brings_tell (Waits p q) tt

  pub tells_views : (p q : Name) → Brings past (tell (Views p q))
  tells_views p q = brings_tell (Views p q) tt

  pub tells_lost : (m : Name) → Brings past (tell (Lost m))
  tells_lost m = brings_tell (Lost m) tt

  pub tells_posted : (w : ℕ) (m : Name) → Brings past (tell (Posted w m))
  tells_posted w m = brings_tell (Posted w m) tt

  pub brings_activation : Brings past new_activation
  unfolding new_activation
  brings_activation = record { after = λ s g. (later_same s, g, tt) }

  spend_after : (s : Vat Name) (n : ℕ) (b : Bool) → Good past s → Ends past s (Any past) (spent n b s)
  unfolding spent
  spend_after s n true g = (later_same s, g, tt)
  spend_after s n false g = tt

  pub brings_spend : (n : ℕ) → Brings past (spend n)
  unfolding spend
  brings_spend n = record { after = λ s g. spend_after s n (nat_le n s.fuel) g }

  pub brings_thing : (t : Thing Name) → Brings past (new_thing t)
  unfolding new_thing
  brings_thing t = record { after = λ s g. (later_same s, g, tt) }

  pub brings_kill : (n : ℕ) → Brings past (kill n)
  unfolding kill
  brings_kill n = record { after = λ s g. (later_same s, g, tt) }

  pub brings_slot : (g v : Value Name) → Brings past (new_slot g v)
  unfolding new_slot
  brings_slot g v = record { after = λ s i. (later_same s, i, tt) }

  pub brings_write : (n : ℕ) (v : Value Name) → Brings past (write_slot n v)
  unfolding write_slot
  brings_write n v = record { after = λ s g. (later_same s, g, tt) }

  later_list : (s : Vat Name) (vs : List (Value Name)) → Later s (record s { lists = s.lists ++ vs ∷ [] })
  later_list s vs = (λ x i. i, λ k ws h. slice_more s.lists (vs ∷ []) k ws h, λ q h. h, refl, λ n u h. h)

  pub brings_list : (vs : List (Value Name)) → Brings past (new_list vs)
  unfolding new_list
  brings_list vs = record { after = λ s g. (later_list s vs, good_later past s (record s { lists = s.lists ++ vs ∷ [] }) s (later_list s vs) g, tt) }

  pub does_list : (vs : List (Value Name)) → Does past (λ s. Unit {0}) (λ k t. slice_get t.lists k ≡ Some vs) (new_list vs)
  unfolding new_list
  does_list vs = record { after = λ s i g. (later_list s vs, good_later past s (record s { lists = s.lists ++ vs ∷ [] }) s (later_list s vs) g, slice_last s.lists vs) }

  pub does_enqueue : (m : Message Name) → Does past (λ s. QueuedFine past s m) (Any past) (enqueue m)
  unfolding enqueue
  does_enqueue m = record { after = λ s i g. (later_same s, (all_end (QueuedFine past s) s.queue m g.0 i, g.1, g.2, g.3, g.4), tt) }

  later_out : (s : Vat Name) (q : Put Name) → Later s (record s { outbox = s.outbox ++ q ∷ [] })
  later_out s q = (λ x i. i, λ k vs h. h, λ r h. among_more r s.outbox (q ∷ []) h, refl, λ n u h. h)

  good_out : (s : Vat Name) (q : Put Name) → NoteFine past (record s { outbox = s.outbox ++ q ∷ [] }) q.note → Good past s → Good past (record s { outbox = s.outbox ++ q ∷ [] })
  good_out s q f g = let h = good_later past s (record s { outbox = s.outbox ++ q ∷ [] }) s (later_out s q) g in
      (h.0, h.1, all_end (λ (r : Put Name). NoteFine past (record s { outbox = s.outbox ++ q ∷ [] }) r.note) s.outbox q h.2 f, h.3, h.4)

  -- what stays fine when the note itself is put
  pub does_out : (to : ℕ) (n : Note Name) → ((s t : Vat Name) → Later s t → NoteFine past s n → NoteFine past t n) → Does past (λ s. NoteFine past s n) (λ a t. IsAmong (record { to = to; note = n }) t.outbox) (send_out to n)
  unfolding send_out
  does_out to n l = record { after = λ s i g. let q : Put Name = record { to = to; note = n } in (later_out s q, good_out s q (l s (record s { outbox = s.outbox ++ q ∷ [] }) (later_out s q) i) g, among_last s.outbox q) }

  pub does_open : (to i : ℕ) (n : Name) → Does past (λ s. Unit {0}) (λ a t. IsAmong (record { to = to; note = Open i n }) t.outbox) (send_out to (Open i n))
  does_open to i n = does_out to (Open i n) (λ s t l h. tt)

  pub brings_ask : (to q i : ℕ) (n : Name) → Brings past (send_out to (Ask q i n))
  unfolding send_out
  brings_ask to q i n = record { after = λ s g. (later_out s _, good_out s (record { to = to; note = Ask q i n }) tt g, tt) }

  pub brings_opens : (to i : ℕ) (n : Name) → Brings past (send_out to (Open i n))
  unfolding send_out
  brings_opens to i n = record { after = λ s g. (later_out s _, good_out s (record { to = to; note = Open i n }) tt g, tt) }

  pub brings_shorten : (to : ℕ) (n : Name) (c i : ℕ) → Brings past (send_out to (Shorten n c i))
  unfolding send_out
  brings_shorten to n c i = record { after = λ s g. (later_out s _, good_out s (record { to = to; note = Shorten n c i }) tt g, tt) }

  pub brings_gift : (n : Name) (q i : ℕ) → Brings past (new_gift n q i)
  unfolding new_gift
  brings_gift n q i = record { after = λ s g. (later_same s, g, tt) }

  pub brings_open : (q i : ℕ) → Brings past (open_gift q i)
  unfolding open_gift
  brings_open q i = record { after = λ s g. (later_same s, g, tt) }

  marked : (w : ℕ) (ws : List ℕ) → past.cut w → ((u : ℕ) → is_in u ws ≡ true → past.cut u) → (u : ℕ) → is_in u (ws ++ w ∷ []) ≡ true → past.cut u
  unfolding is_in
  marked w [] c f u e = either (u == w) refl e
    where
      either : (b : Bool) → (u == w) ≡ b → elim b [ true ↦ true | false ↦ false ] ≡ true → past.cut u
      either true i j = subst past.cut (sym (eqb-true u w i)) c
      either false i j = cc
  marked w (x ∷ ws) c f u e = either (u == x) refl e (λ j. marked w ws c (λ n i. f n (behind n x ws i)) u j)
    where
      behind : (n y : ℕ) (ys : List ℕ) → is_in n ys ≡ true → elim (n == y) [ true ↦ true | false ↦ is_in n ys ] ≡ true
      behind n y ys i = at (n == y)
        where
          at : (b : Bool) → elim b [ true ↦ true | false ↦ is_in n ys ] ≡ true
          at true = refl
          at false = i

      either : (b : Bool) → (u == x) ≡ b → elim b [ true ↦ true | false ↦ is_in u (ws ++ w ∷ []) ] ≡ true → (is_in u (ws ++ w ∷ []) ≡ true → past.cut u) → past.cut u
      either true i j k = f u (subst (λ b. elim b [ true ↦ true | false ↦ is_in u ws ] ≡ true) (sym i) refl)
      either false i j k = k j

  pub brings_mark : (w : ℕ) → past.cut w → Brings past (mark w)
  unfolding mark
  brings_mark w c = record { after = λ s g. (later_same s, (g.0, g.1, g.2, g.3, marked w s.noticed c g.4), tt) }

  pub draws_after : (s : Vat Name) (w : ℕ) (o : Option ℕ) → Good past s → Ends past s (Any past) (draws w o s)
  unfolding draws
  draws_after s w (Some i) g = tt
  draws_after s w None g = (later_same s, g, tt)

  -- ---- what is known of names

  -- what it asks of a change of that name
  abbrev pub ChangeFine : Vat Name → Name → Change Name → Type 0
  ChangeFine s n (Hold m) = Fine past s m
  ChangeFine s n (React m) = ReactionFine past s m
  ChangeFine s n (Settle y) = Line past s (Settles n y)
  ChangeFine s n (See q) = Line past s (Views n q)
  ChangeFine s n other = Unit {0}

  changed_to_fine : (s : Vat Name) (k : Known Name) (c : Change Name) → ChangeFine s k.name c → KnownFine past s k → KnownFine past s (changed_to c k)
  unfolding changed_to
  changed_to_fine s k (Hold m) i h = (all_end (Fine past s) k.held m h.0 i, h.1, h.2)
  changed_to_fine s k (React m) i h = (h.0, all_end (ReactionFine past s) k.reactions m h.1 i, h.2)
  changed_to_fine s k (Settle y) i h = (tt, tt, i)
  changed_to_fine s k (See q) i h = (h.0, h.1, i)
  changed_to_fine s k (WaitOn q) i h = (h.0, h.1, tt)
  changed_to_fine s k other i h = h

  unless_fine : (s : Vat Name) (x : Standing Name) (k new : Known Name) → KnownFine past s k → KnownFine past s new → KnownFine past s (unless_settled x k new)
  unfolding unless_settled
  unless_fine s (Settled y) k new h i = h
  unless_fine s other k new h i = i

  changed_fine : (s : Vat Name) (k : Known Name) (c : Change Name) → ChangeFine s k.name c → KnownFine past s k → KnownFine past s (changed c k)
  unfolding changed
  changed_fine s k c i h = unless_fine s k.standing k (changed_to c k) h (changed_to_fine s k c i h)

module _ (word : ℕ → ℕ) (v : ℕ) (past : Past) where
  with_change_fine : (s : Vat Name) (c : Change Name) (n : Name) (ks : List (Known Name)) → ChangeFine past s n c → AllOf (KnownFine past s) ks → AllOf (KnownFine past s) (with_change (naming word v) c n ks)
  unfolding with_change naming
  with_change_fine s c n [] i h = tt
  with_change_fine s c n (k ∷ ks) i h = either (same_reference k.name n) (λ e. subst (λ m. ChangeFine past s m c) (sym (reference_is k.name n e)) i) (with_change_fine s c n ks i h.1)
    where
      either : (b : Bool) → (b ≡ true → ChangeFine past s k.name c) → AllOf (KnownFine past s) (with_change (naming word v) c n ks) → AllOf (KnownFine past s) (elim b [ true ↦ changed c k ∷ ks | false ↦ k ∷ with_change (naming word v) c n ks ])
      either true f r = (changed_fine past s k c (f refl) h.0, h.1)
      either false f r = (h.0, r)

  -- what was fine by s, and the change, are fine by what is later
  with_change_later : (s t : Vat Name) → Later s t → (c : Change Name) (n : Name) (ks : List (Known Name)) → ChangeFine past s n c → AllOf (KnownFine past s) ks → AllOf (KnownFine past t) (with_change (naming word v) c n ks)
  with_change_later s t l c n ks i h = all_map (KnownFine past s) (KnownFine past t) (known_later past s t l) (with_change (naming word v) c n ks) (with_change_fine s c n ks i h)

  host_kept : (c : Change Name) (k : Known Name) → ((changed c k).name ≡ k.name) × ((changed c k).host ≡ k.host)
  unfolding changed changed_to unless_settled
  host_kept c k = by_standing k.standing c
    where
      to_change : (c : Change Name) → ((changed_to c k).name ≡ k.name) × ((changed_to c k).host ≡ k.host)
      to_change (Hold m) = (refl, refl)
      to_change other = (refl, refl)

      by_standing : (x : Standing Name) (c : Change Name) → ((unless_settled x k (changed_to c k)).name ≡ k.name) × ((unless_settled x k (changed_to c k)).host ≡ k.host)
      by_standing (Settled y) c = (refl, refl)
      by_standing other c = to_change c

  hosts_change : (c : Change Name) (p : Name) (ks : List (Known Name)) (n : Name) (u : ℕ) → HostIn ks n u → HostIn (with_change (naming word v) c p ks) n u
  unfolding with_change naming
  hosts_change c p [] n u h = h
  hosts_change c p (k ∷ ks) n u h = either (same_reference k.name p) (λ i. hosts_change c p ks n u i) h
    where
      either : (b : Bool) → (HostIn ks n u → HostIn (with_change (naming word v) c p ks) n u) → HostIn (k ∷ ks) n u → HostIn (elim b [ true ↦ changed c k ∷ ks | false ↦ k ∷ with_change (naming word v) c p ks ]) n u
      either true f (j, inl e, a, b) = let q = host_kept c k in (changed c k, inl refl, q.0 ∙ ap (λ (z : Known Name). z.name) (sym e) ∙ a, q.1 ∙ ap (λ (z : Known Name). z.host) (sym e) ∙ b)
      either true f (j, inr m, a, b) = (j, inr m, a, b)
      either false f (j, inl e, a, b) = (j, inl e, a, b)
      either false f (j, inr m, a, b) = let q = f (j, m, a, b) in (q.0, inr q.1, q.2, q.3)

  later_change : (s : Vat Name) (c : Change Name) (p : Name) → Later s (record s { known = with_change (naming word v) c p s.known })
  later_change s c p = (λ e h. h, λ k vs h. h, λ q h. h, refl, λ n u h. hosts_change c p s.known n u h)

  more_hosts : (k : Known Name) (ks : List (Known Name)) (n : Name) (u : ℕ) → HostIn ks n u → HostIn (ks ++ k ∷ []) n u
  more_hosts k ks n u h = (h.0, among_more h.0 ks (k ∷ []) h.1, h.2, h.3)

  pub does_alter : (c : Change Name) (n : Name) → Does past (λ s. ChangeFine past s n c) (Any past) (alter (naming word v) c n)
  unfolding alter
  does_alter c n = record {
    after = λ s i g. let h = good_later past s (record s { known = with_change (naming word v) c n s.known }) s (later_change s c n) g in let t : Vat Name = record s { known = with_change (naming word v) c n s.known } in
        (later_change s c n, (h.0, with_change_later s t (later_change s c n) c n s.known i g.1, h.2, h.3, h.4), tt);
  }

  alters : (c : Change Name) (n : Name) → ((s : Vat Name) → ChangeFine past s n c) → Brings past (alter (naming word v) c n)
  unfolding alter
  alters c n f = record { after = λ s g. (does_alter c n).after s (f s) g }

  pub alters_wait : (q n : Name) → Brings past (alter (naming word v) (Wait q) n)
  alters_wait q n = alters (Wait q) n (λ s. tt)

  pub alters_wait_on : (q n : Name) → Brings past (alter (naming word v) (WaitOn q) n)
  alters_wait_on q n = alters (WaitOn q) n (λ s. tt)

  pub alters_tell : (w : ℕ) (n : Name) → Brings past (alter (naming word v) (ToTell w) n)
  alters_tell w n = alters (ToTell w) n (λ s. tt)

  begun_fine : (s : Vat Name) (n : Name) (h : ℕ) → KnownFine past s (begun n h)
  unfolding begun
  begun_fine s n h = (tt, tt, tt)

  later_known : (s t : Vat Name) (n : Name) (w : ℕ) → t.known ≡ s.known ++ begun n w ∷ [] → t.lists ≡ s.lists → t.outbox ≡ s.outbox → t.happened ≡ s.happened → t.number ≡ s.number → Later s t
  later_known s t n w e l o p m = (λ x h. subst (λ es. IsAmong x es) (sym p) h, λ k vs h. ap (λ ls. slice_get ls k) l ∙ h, λ q h. subst (λ ps. IsAmong q ps) (sym o) h, m, λ x u h. subst (λ ks. HostIn ks x u) (sym e) (more_hosts (begun n w) s.known x u h))

  -- a name that comes to be known
  knows_one : (s t : Vat Name) (n : Name) (w : ℕ) → t.known ≡ s.known ++ begun n w ∷ [] → t.lists ≡ s.lists → t.outbox ≡ s.outbox → t.happened ≡ s.happened → t.number ≡ s.number → t.queue ≡ s.queue → t.noticed ≡ s.noticed → Good past s → Later s t × Good past t
  unfolding begun
  knows_one s t n w e l o p m q d g = let late = later_known s t n w e l o p m in let h = good_later past s t s late g in (
    late,
    (
      subst (λ ms. AllOf (QueuedFine past t) ms) (sym q) h.0,
      subst (λ ks. AllOf (KnownFine past t) ks) (sym e) (all_end (KnownFine past t) s.known (begun n w) h.1 (begun_fine t n w)),
      subst (λ ps. AllOf (λ (x : Put Name). NoteFine past t x.note) ps) (sym o) h.2,
      subst (λ es. AllOf (TookFine past.step) es) (sym p) h.3,
      λ u i. h.4 u (subst (λ ws. is_in u ws ≡ true) d i),
    ),
  )

  pub brings_come : (c : Coming Name Name) (w : ℕ) → Brings past (come (naming word v) c w)
  unfolding come naming
  brings_come c w = record { after = λ s g. let t : Vat Name = record s { known = s.known ++ begun (name_of v c) w ∷ [] } in let k = knows_one s t (name_of v c) w refl refl refl refl refl refl refl g in (k.0, k.1, tt) }

  pub brings_mail : (c : Mailing Name) → Brings past (mail (naming word v) c)
  unfolding mail
  brings_mail c = record { after = λ s g. (later_same s, g, tt) }

  pub brings_promise : Brings past (new_promise (naming word v))
  unfolding new_promise naming
  brings_promise = record { after = λ s g. let n : Name = name_of v (IsOwn s.promises) in let t : Vat Name = record s { promises = suc s.promises; known = s.known ++ begun n s.number ∷ [] } in let k = knows_one s t n s.number refl refl refl refl refl refl refl g in (k.0, k.1, tt) }

  pub brings_message : (w : ℕ) → Brings past (new_message (naming word v) w)
  unfolding new_message naming
  brings_message w = record {
    after = λ s g. let id : Name = mail_of v (IsSent s.messages) in let n : Name = name_of v (IsAnswer w id) in let t : Vat Name = record s { messages = suc s.messages; mails = s.mails ++ id ∷ []; known = s.known ++ begun n w ∷ [] } in
        let k = knows_one s t n w refl refl refl refl refl refl refl g in (k.0, k.1, tt);
  }

  pub brings_lone_message : Brings past (new_lone_message (naming word v))
  unfolding new_lone_message
  brings_lone_message = record { after = λ s g. (later_same s, g, tt) }

  pub brings_draw : Brings past (draw (naming word v))
  unfolding draw
  brings_draw = record { after = λ s g. draws_after past s _ _ g }

pub ruleset brings = (brings_bind, brings_then, brings_ending, brings_some, brings_if, brings_give, brings_throw, brings_eject, brings_stop, brings_look, tells_got, tells_back, tells_thrown, tells_left, tells_called, tells_slot_made, tells_slot_read, tells_slot_wrote, tells_list_made, tells_list_came, tells_ejector_made, tells_audition_made, tells_promise_made, tells_object_made, tells_sends, tells_reacts, tells_finished, tells_threw, tells_settles, tells_waits, tells_views, tells_lost, tells_posted, brings_activation, brings_spend, brings_thing, brings_kill, brings_slot, brings_write, brings_list, brings_ask, brings_opens, brings_shorten, brings_gift, brings_open, brings_each, alters_wait, alters_wait_on, alters_tell, brings_come, brings_mail, brings_promise, brings_message, brings_lone_message, brings_draw)
