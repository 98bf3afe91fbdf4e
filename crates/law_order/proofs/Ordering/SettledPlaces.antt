-- Each thing keeps its order as a name settles: what the name held comes to the queue in its order, or is doomed where it stood.
use Rattle.std.proofs.Common.{◌≡◌, ℕ, Bool, true, false, List, [], ◌∷◌, ◌++◌, Some, None, refl, sym, ap, subst, ◌∙◌, inl, inr}
use Rattle.std.proofs.lemmas.List.{append-nil, append_assoc}
use Rattle.std.specs.Prelude.{slice_get}
use Rattle.def_machine.specs.Values.{Value, Ref, Name, Promise, Answer, Naming}
use Rattle.def_machine.specs.State.{Message, Known, Vat, Settle}
use Rattle.def_machine.specs.Refs as refs
use Rattle.def_machine.specs.Refs.{Near}
use Rattle.def_run.specs.World.{Script, Link, World, names}
use Rattle.def_run.specs.World as world
use Rattle.law_order.specs.Ordering.Ways.{Lane, Queue, Held, Way, Item, Place, Nowhere, End, Mid, Ways, IsIn, Doom, nowhere, by_mid, alike, Ahead, doomed_there, in_mid, past_mid}
use Rattle.law_order.specs.Ordering.Places.{item, queued, held_on, held_in, aimed, amid}
use Rattle.law_order.specs.Ordering.Messages.{More, StandsAt, StaysBehind}
use Rattle.law_order.specs.Ordering.Worlds.{AddsOnly}
use Rattle.law_order.specs.Ordering.Steps.{WaysAmid, LeadsAmid, IsApart, IsSentOn, still_held, sent_there, now_lost, Ready, Grown, KeepsOrder, StaysInOrder}
use Rattle.law_order.specs.Ordering.Settle.{passed_by, KeepsBy, SettlesHere, aimed_at, IsReady, settled_to, IsHere}
use Rattle.law_order.proofs.Ordering.Adds.{adds_nothing, grown_adds, stays_quiet}
use Rattle.law_order.proofs.Ordering.Amid.{entry_self}
use Rattle.law_order.proofs.Ordering.Pushing.{within_more}
use Rattle.law_order.proofs.Ordering.Lanes.{queue_apart, way_apart, vat_apart, held_apart}
use Rattle.law_order.proofs.Ordering.Entries.{Differs, as_it_was, changes, differs}
use Rattle.law_order.proofs.Ordering.Named.{test_is, Test, passes_mid, passes_nowhere}
use Rattle.law_order.proofs.Ordering.Onward.{retargeted, here_keeps, here_leads, here_onward, aimed_here, settling_to_nothing_keeps}
use Rattle.law_order.proofs.Ordering.OrderPassing.{leads_via, settled_is_passed}
use Rattle.law_order.proofs.Ordering.Sends.{none_some}
use Rattle.law_order.proofs.Ordering.Standing.{queued_append, queue_is, held_is, more_then, stands_more, queue_more, held_more, way_more}

-- ---- lists

-- the same messages on y
resent : Value Name → List (Message Name) → List (Message Name)
resent y [] = []
resent y (m ∷ ms) = record m { target = y } ∷ resent y ms

retargeted_is : (y : Value Name) (q ms : List (Message Name)) → retargeted y q ms ≡ q ++ resent y ms
unfolding retargeted resent
retargeted_is y q [] = sym (append-nil q)
retargeted_is y q (m ∷ ms) = retargeted_is y (q ++ record m { target = y } ∷ []) ms ∙ append_assoc q (record m { target = y } ∷ []) (resent y ms)

retargeted_queued : (y : Value Name) (q ms : List (Message Name)) → queued (retargeted y q ms) ≡ queued q ++ queued (resent y ms)
retargeted_queued y q ms = ap (λ z. queued z) (retargeted_is y q ms) ∙ queued_append q (resent y ms)

-- the same items on the name o
unfoldable pub sent_to : Name → List Item → List Item
sent_to o [] = []
sent_to o (i ∷ js) = item i.mail o ∷ sent_to o js

resent_queued : (o p : Name) (ms : List (Message Name)) → queued (resent (Ref o) ms) ≡ sent_to o (held_on p ms)
unfolding queued resent sent_to held_on
resent_queued o p [] = refl
resent_queued o p (m ∷ ms) = ap (λ js. item m.id o ∷ js) (resent_queued o p ms)

sent_append : (o : Name) (b js : List Item) → sent_to o (b ++ js) ≡ sent_to o b ++ sent_to o js
unfolding sent_to
sent_append o [] js = refl
sent_append o (i ∷ b) js = ap (λ z. item i.mail o ∷ z) (sent_append o b js)

pub sent_split : (o m n : Name) (b js : List Item) → sent_to o (b ++ item m n ∷ js) ≡ sent_to o b ++ item m o ∷ sent_to o js
unfolding sent_to
sent_split o m n b js = sent_append o b (item m n ∷ js)

pub sent_in : (o x m : Name) (b : List Item) → IsIn (item x m) b → IsIn (item x o) (sent_to o b)
unfolding sent_to
sent_in o x m [] i = i
sent_in o x m (j ∷ b) (inl e) = inl (ap (λ z. item z.mail o) e)
sent_in o x m (j ∷ b) (inr i) = inr (sent_in o x m b i)

pub in_right : (i : Item) (a b : List Item) → IsIn i b → IsIn i (a ++ b)
in_right i [] b h = h
in_right i (j ∷ a) b h = inr (in_right i a b h)

-- ---- behind more in one lane

pub doom_wider : (w : Ways) (l : Lane) (a b : List Item) (n : Name) → Doom w (Mid l a n) → Doom w (Mid l b n)
doom_wider w l a b n (by_mid h) = by_mid h

ahead_wider : (w : Ways) (x : Name) (l : Lane) (a b : List Item) (n : Name) → Ahead w x (Mid l a n) → Ahead w x (Mid l (a ++ b) n)
ahead_wider w x l a b n (doomed_there h) = doomed_there (doom_wider w l a (a ++ b) n h)
ahead_wider w x l a b n (in_mid {m = m} i f) = in_mid (within_more a (a ++ b) b refl (item x m) i) f
ahead_wider w x l a b n (past_mid h) = past_mid h

-- What was held for p, behind b, comes to the queue behind q and b.
module _ (w u : Ways) (k : Lane) (l : Lane) (n o : Name) (q b : List Item) (lead : StaysBehind w u (w.onward k n) (Mid l q o)) where
  doom_queued : Doom w (Mid k b n) → Doom u (Mid l (q ++ sent_to o b) o)
  doom_queued (by_mid h) = doom_wider u l q (q ++ sent_to o b) o (lead.0 h)

  ahead_queued : (x : Name) → Ahead w x (Mid k b n) → Ahead u x (Mid l (q ++ sent_to o b) o)
  ahead_queued x (doomed_there h) = doomed_there (doom_queued h)
  ahead_queued x (in_mid {m = m} i f) = in_mid {m = o} (in_right (item x o) q (sent_to o b) (sent_in o x m b i)) alike
  ahead_queued x (past_mid h) = ahead_wider u x l q (sent_to o b) o (lead.1 x h)

  pub behind_queued : StaysBehind w u (Mid k b n) (Mid l (q ++ sent_to o b) o)
  behind_queued = (λ h. doom_queued h, λ x h. ahead_queued x h)

-- ---- a name settles

module _ (script : Script) (honest : ℕ → Bool) (w : World) (v : ℕ) (r s : Vat Name) (p : Name) (y : Value Name) (at : slice_get w.vats v ≡ Some r) (g : SettlesHere (names script v) s (settled_to (names script v) s p y) p y v) where
  abbrev K : Naming Name Name
  K = names script v

  abbrev T : Vat Name
  T = settled_to K s p y

  abbrev E : Place
  E = aimed_at script v T y

  abbrev F : Place → Place
  F = passed_by v p E

  abbrev W : Vat Name → Ways
  W t = WaysAmid script honest w v t

  abbrev Links : List Link
  Links = world.push_all v s.outbox w.links

  leads_settled : (u : ℕ) (x : Value Name) → LeadsAmid script honest w v T u x ≡ F (LeadsAmid script honest w v s u x)
  unfolding amid
  leads_settled u x = leads_via script honest w.vats Links v r s T p y at g u x

  others_held : (n : Name) → (n ≡ p → ⊥) → held_in n (refs.entry_of K T.known n) ≡ held_in n (refs.entry_of K s.known n)
  others_held n f = go (differs script v (Settle y) p n s.known)
    where
      go : Differs script v (Settle y) p n (refs.entry_of K s.known n) (refs.entry_of K T.known n) → held_in n (refs.entry_of K T.known n) ≡ held_in n (refs.entry_of K s.known n)
      go (as_it_was e) = ap (λ o. held_in n o) e
      go (changes k e i j) = absurd (f e)

  none_settled : (n : Name) → refs.entry_of K s.known n ≡ None → refs.entry_of K T.known n ≡ None
  none_settled n e = go (differs script v (Settle y) p n s.known)
    where
      go : Differs script v (Settle y) p n (refs.entry_of K s.known n) (refs.entry_of K T.known n) → refs.entry_of K T.known n ≡ None
      go (as_it_was i) = i ∙ e
      go (changes k i a b) = none_some k (sym e ∙ a)

  pub ready_settled : Ready script honest w v s → Ready script honest w v T
  ready_settled ready = record {
    number = ready.number;
    ends = g.follows;
    draws = ready.draws;
    answers = λ h i j. none_settled (Answer h (record { sender = v; number = i })) (ready.answers h i j);
    promises = λ i j. none_settled (Promise v i) (ready.promises i j);
  }

  -- what is not held for p stands there still
  pub settled_more : (l : Lane) → (l ≡ Held v p → ⊥) → More (W s) (W T) l
  settled_more (Queue u) f = queue_more script honest w v s T u (λ e. ([], sym (append-nil (queued s.queue))))
  settled_more (Held u o) f = held_more script honest w v s T u o (λ e. ([], others_held o (λ i. f (ap (λ z. Held z o) e ∙ ap (λ z. Held v z) i)) ∙ sym (append-nil (held_in o (refs.entry_of K s.known o)))))
  settled_more (Way a c) f = way_more script honest w v s T [] (sym (append-nil s.outbox)) a c

  -- and then it only grew to t
  module _ (t : Vat Name) (grown : Grown script honest w v T t) (keeps : KeepsBy (W s) (W t) F) (moved : (m : Name) (b : List Item) (n : Name) → StandsAt (W s) m (Held v p) b n → IsSentOn script honest w v s t m p b n) where
    still_there : (m : Name) (l : Lane) (b : List Item) (n : Name) → (l ≡ Held v p → ⊥) → StandsAt (W s) m l b n → StandsAt (W t) m l b n
    still_there m l b n f h = stands_more (W s) (W t) m l b n (more_then (W s) (W T) (W t) l (settled_more l f) (grown.more l)) h

    apart_from : (l : Lane) → IsApart script honest w v l → l ≡ Held v p → ⊥
    apart_from (Queue u) i e = queue_apart u v p e
    apart_from (Held u o) i e = vat_apart u v o p i e
    apart_from (Way a c) i e = way_apart a c v p e

    held_after : (m o : Name) (b : List Item) (n : Name) → StandsAt (W s) m (Held v o) b n → IsSentOn script honest w v s t m o b n
    held_after m o b n h = go (Test v p v o) refl
      where
        go : (c : Bool) → Test v p v o ≡ c → IsSentOn script honest w v s t m o b n
        go true e = let i = (test_is v p v o e).1 in subst (λ z. IsSentOn script honest w v s t m z b n) (sym i) (moved m b n (subst (λ z. StandsAt (W s) m (Held v z) b n) i h))
        go false e = still_held (still_there m (Held v o) b n (held_apart v v o p e) h)

    pub settles_so : KeepsOrder script honest w v s t
    settles_so = record {
      references = λ u x. subst (λ c. StaysBehind (W s) (W t) (LeadsAmid script honest w v s u x) c) (sym (grown.leading u x ∙ leads_settled u x)) (keeps (LeadsAmid script honest w v s u x));
      places = λ l b n. subst (λ c. StaysBehind (W s) (W t) (Mid l b n) c) (passes_mid v p E l b n) (keeps (Mid l b n));
      apart = λ m l b n i h. still_there m l b n (apart_from l i) h;
      held = λ m o b n h. held_after m o b n h;
    }

  -- to nothing
  lost_there : (m : Name) (b : List Item) (n : Name) → E ≡ Nowhere → IsSentOn script honest w v s T m p b n
  lost_there m b n e = let h = settled_is_passed script honest w v r s T p y at g in
      now_lost (by_mid (subst (Doom (W T)) (sym (h.lanes (Held v p) n ∙ ap (λ c. F c) (h.leads n) ∙ ap (λ c. passed_by v p c c) e ∙ passes_nowhere v p Nowhere)) nowhere))

  pub nothing_so : E ≡ Nowhere → IsReady (W s) v p E → StaysInOrder script honest w v s T
  nothing_so e ready = (λ q. ready_settled q, settles_so T (grown_adds script honest w v T T (adds_nothing K T T refl refl refl refl refl refl)) (settling_to_nothing_keeps script honest w v r s p y at g e ready) (λ m b n h. lost_there m b n e))

  -- to what is here
  module _ (k : Known Name) (e : refs.entry_of K s.known p ≡ Some k) (here : IsHere K y) (ready : IsReady (W s) v p E) where
    abbrev Sent : Vat Name
    Sent = record T { queue = retargeted y s.queue k.held }

    queue_sent : (o : Name) → y ≡ Ref o → queued (retargeted y s.queue k.held) ≡ queued s.queue ++ sent_to o (held_on p k.held)
    queue_sent o f = ap (λ z. queued (retargeted z s.queue k.held)) f ∙ retargeted_queued (Ref o) s.queue k.held ∙ ap (λ z. queued s.queue ++ z) (resent_queued o p k.held)

    to_object : (o : Name) → y ≡ Ref o → E ≡ End (Queue v) o → (m : Name) (b : List Item) (n : Name) → StandsAt (W s) m (Held v p) b n → IsSentOn script honest w v s Sent m p b n
    to_object o f aim m b n h =
        let q = queued s.queue in
        let split : held_on p k.held ≡ b ++ item m n ∷ h.behind = sym (held_is script honest w v r at s p k e) ∙ h.found in
        let lead = subst (λ a. StaysBehind (W s) (W Sent) ((W s).onward (Held v p) n) (Mid (Queue v) a o)) (queue_is script honest w v r at s) (here_leads script honest w v r s p y k at g e here ready n (Queue v) o aim) in
        sent_there {l = Queue v} {a = q ++ sent_to o b} {o = o} tt
        (record { behind = sent_to o h.behind; found = queue_is script honest w v r at Sent ∙ queue_sent o f ∙ ap (λ z. q ++ sent_to o z) split ∙ ap (λ z. q ++ z) (sent_split o m n b h.behind) ∙ sym (append_assoc q (sent_to o b) (item m o ∷ sent_to o h.behind)) })
        (behind_queued (W s) (W Sent) (Held v p) (Queue v) n o q b lead)

    to_data : E ≡ Nowhere → (m : Name) (b : List Item) (n : Name) → IsSentOn script honest w v s Sent m p b n
    to_data aim m b n = now_lost (by_mid (subst (Doom (W Sent)) (sym (here_onward script honest w v r s p y k at g e here n ∙ ap (λ c. passed_by v p c c) aim ∙ passes_nowhere v p Nowhere)) nowhere))

    aim_of : (x : Value Name) → y ≡ x → E ≡ aimed v x Near
    aim_of x f = aimed_here script honest w v r s p y k at g e here ∙ ap (λ z. aimed v z Near) f

    sent_so : (x : Value Name) → y ≡ x → (m : Name) (b : List Item) (n : Name) → StandsAt (W s) m (Held v p) b n → IsSentOn script honest w v s Sent m p b n
    unfolding aimed
    sent_so (Ref o) f m b n h = to_object o f (aim_of (Ref o) f) m b n h
    sent_so other f m b n h = to_data (aim_of other f) m b n

    queue_adds : AddsOnly K T Sent
    queue_adds = record {
      alike = record { number = refl; gifts = refl; noticed = refl; names_known = refl; entries = λ n. entry_self n (refs.entry_of K T.known n) };
      queue = (queued (resent y k.held), retargeted_queued y s.queue k.held);
      held = λ n. ([], sym (append-nil (held_in n (refs.entry_of K T.known n))));
      notes = ([], sym (append-nil s.outbox), tt);
    }

    pub here_so : StaysInOrder script honest w v s Sent
    here_so = (
      λ q. (stays_quiet script honest w v T Sent (queue_adds, refl, refl, refl) (ready_settled q)).0,
      settles_so Sent (grown_adds script honest w v T Sent queue_adds) (here_keeps script honest w v r s p y k at g e here ready) (λ m b n h. sent_so y refl m b n h),
    )
