-- What single acts take of the room that there is for one name, and what follows of acts one after another.
use Rattle.std.proofs.Common.{◌≡◌, ℕ, ◌+◌, ◌*◌, ◌≤◌, Bool, true, false, List, [], ◌∷◌, ◌++◌, Option, Some, None, refl, sym, ap, subst, ◌∙◌, ◌⊎◌, inl, inr, arith, if◌then◌else◌}
use Rattle.def_machine.specs.Values.{Value, Name, Naming, naming, Coming, Mailing, IsOwn, name_of, same_name}
use Rattle.def_machine.specs.State.{Message, Known, Change, Hold, Wait, React, ToTell, Settle, Note, GiftEntry, Vat, Done, Gives, Throws, Ejects, Stops, Act, ◌>>=◌, ◌>>◌, and_then, each, for_some, enqueue, send_out, open_gift, mark, draws, draw, alter, come, mail, new_promise, with_change, changed, changed_to, begun}
use Rattle.def_machine.specs.Refs.{entry_of, standing_of}
use Rattle.law_machine.specs.Machine.Steps.{After}
use Rattle.law_fate.specs.Name.Names.{AllOf, IsEventual}
use Rattle.law_fate.proofs.Name.SameNames.{same_is}
use Rattle.law_fate.specs.Fates.Fate.{once, one, total}
use Rattle.law_reference.proofs.Gift.Kept.{opened_named}
use Rattle.law_order.proofs.Ordering.Moves.{Keeps, IsKept, keeps_give}
use Rattle.law_reference.specs.Reference.ListRingless.{IsNamed}
use Rattle.law_reference.specs.Reference.Views.{IsOpen}
use Rattle.law_order.specs.Waits.Answers.{answered_by, answers, asked_at, waits_at, IsWaitOf}
use Rattle.law_order.proofs.Waits.Counts.{one_self, total_end, stands, mild_stands, asks_more, waits_more, IsMild}
use Rattle.law_order.proofs.Waits.Room.{share, share_most, share_sum, share_grows, times, few_or}
use Rattle.law_order.proofs.Waits.Room as room

-- it is that name or another
pub one_or : (n x : Name) → (one n x ≡ 0) ⊎ (n ≡ x)
unfolding one once
one_or n x = go (same_name n x) refl
  where
    go : (b : Bool) → same_name n x ≡ b → (once b ≡ 0) ⊎ (n ≡ x)
    go true e = inr (same_is n x e)
    go false e = inl refl

-- however it ended, that holds of the state
abbrev pub Ends : {A : Type 0} → (Vat Name → Type 0) → Done Name A → Type 0
Ends P (Gives a t) = P t
Ends P (Throws p t) = P t
Ends P (Ejects n y t) = P t
Ends P (Stops c t) = P t

pub ends_map : {A : Type 0} (P Q : Vat Name → Type 0) → ((t : Vat Name) → P t → Q t) → (d : Done Name A) → Ends P d → Ends Q d
ends_map P Q f (Gives a t) h = f t h
ends_map P Q f (Throws p t) h = f t h
ends_map P Q f (Ejects n y t) h = f t h
ends_map P Q f (Stops c t) h = f t h

module _ (word : ℕ → ℕ) (v : ℕ) (x : Name) (owed : Bool) where
  abbrev N : Naming Name Name
  N = naming word v

  abbrev Waiting : List (Known Name) → Type 0
  Waiting ks = room.Waiting word v x ks

  -- what it waits on is where it waits, if it is known once
  abbrev pub Cares : List (Known Name) → Type 0
  Cares ks = (2 ≤ times x ks) ⊎ Waiting ks

  abbrev burden : List (Known Name) → ℕ
  burden ks = room.burden word v x ks

  -- There is room for so much. A message whose answer it is takes two; where it is owed, each wait takes one, and so does that it settled or waits.
  pub record Good (c n : ℕ) (ms : List (Message Name)) (ks : List (Known Name)) (gs : List (GiftEntry Name)) : Type 0 where
    pub number : n ≡ v
    pub fits : 2 * (total (answers x) ms + total (asked_at x) ks) + share owed (burden ks) + c ≤ 2 * share owed (times x ks)
    pub waiting : Cares ks
    pub gifts : AllOf (IsNamed v) gs

  abbrev pub At : ℕ → Vat Name → Type 0
  At c s = Good c s.number s.queue s.known s.gifts

  pub less : (a b : ℕ) → b ≤ a → (s : Vat Name) → At a s → At b s
  less a b l s h = let r = h.fits in record { number = h.number; fits = omega arith; waiting = h.waiting; gifts = h.gifts }

  -- ---- what takes nothing

  pub record Spares (s t : Vat Name) : Type 0 where
    pub at : (e : ℕ) → At e s → At e t

  pub spares : IsKept Spares
  spares = record {
    same = λ s. record { at = λ e h. h };
    trans = λ r q. record { at = λ e h. q.at e (r.at e h) };
    fuel = λ s n. record { at = λ e h. h };
    happened = λ s y. record { at = λ e h. h };
    activations = λ s. record { at = λ e h. h };
    thing = λ s t. record { at = λ e h. h };
    killed = λ s n. record { at = λ e h. h };
    slot = λ s c. record { at = λ e h. h };
    written = λ s n y. record { at = λ e h. h };
    list = λ s ys. record { at = λ e h. h };
  }

  -- ---- what takes so much

  pub record Costs {A : Type 0} (c : ℕ) (m : Act Name A) : Type 0 where
    pub after : (e : ℕ) (s : Vat Name) → At (c + e) s → Ends (At e) (m s)

  spared : {A : Type 0} (e : ℕ) (s : Vat Name) (d : Done Name A) → At e s → After Spares s d → Ends (At e) d
  spared e s (Gives a t) h r = r.at e h
  spared e s other h r = r.at e h

  pub costs_free : {A : Type 0} {m : Act Name A} (c : ℕ) → Keeps Spares m → Costs c m
  costs_free {m = m} c k = record { after = λ e s h. spared e s (m s) (less (c + e) e (omega arith) s h) (k.after s) }

  pub costs_more : {A : Type 0} {m : Act Name A} (a b : ℕ) → a ≤ b → Costs a m → Costs b m
  costs_more a b l k = record { after = λ e s h. k.after e s (less (b + e) (a + e) (omega arith) s h) }

  pub bound : {A B : Type 0} (b e : ℕ) (d : Done Name A) (f : A → Act Name B) → Ends (At (b + e)) d → ((a : A) → Costs b (f a)) → Ends (At e) (and_then d f)
  unfolding and_then
  bound b e (Gives a t) f h k = (k a).after e t h
  bound b e (Throws p t) f h k = less (b + e) e (omega arith) t h
  bound b e (Ejects n y t) f h k = less (b + e) e (omega arith) t h
  bound b e (Stops c t) f h k = less (b + e) e (omega arith) t h

  pub costs_bind : {A B : Type 0} {m : Act Name A} {f : A → Act Name B} (a b c : ℕ) → a + b ≤ c → Costs a m → ((y : A) → Costs b (f y)) → Costs c (m >>= f)
  unfolding ◌>>=◌
  costs_bind {m = m} {f = f} a b c l h k = record { after = λ e s g. bound b e (m s) f (h.after (b + e) s (less (c + e) (a + (b + e)) (omega arith) s g)) k }

  pub costs_then : {A B : Type 0} {m : Act Name A} {n : Act Name B} (a b c : ℕ) → a + b ≤ c → Costs a m → Costs b n → Costs c (m >> n)
  unfolding ◌>>◌
  costs_then {m = m} {n = n} a b c l h k = record { after = λ e s g. bound b e (m s) (λ _. n) (h.after (b + e) s (less (c + e) (a + (b + e)) (omega arith) s g)) (λ _. k) }

  pub free_bind : {A B : Type 0} {m : Act Name A} {f : A → Act Name B} (c : ℕ) → Keeps Spares m → ((y : A) → Costs c (f y)) → Costs c (m >>= f)
  free_bind c h k = costs_bind 0 c c (omega arith) (costs_free 0 h) k

  pub free_then : {A B : Type 0} {m : Act Name A} {n : Act Name B} (c : ℕ) → Keeps Spares m → Costs c n → Costs c (m >> n)
  free_then c h k = costs_then 0 c c (omega arith) (costs_free 0 h) k

  pub then_free : {A B : Type 0} {m : Act Name A} {n : Act Name B} (c : ℕ) → Costs c m → Keeps Spares n → Costs c (m >> n)
  then_free c h k = costs_then c 0 c (omega arith) h (costs_free 0 k)

  pub costs_if : {A : Type 0} {m n : Act Name A} (c : ℕ) (b : Bool) → Costs c m → Costs c n → Costs c (if b then m else n)
  costs_if c true h k = h
  costs_if c false h k = k

  -- what follows where a message has an answer
  pub costs_some : {B : Type 0} {f : Name → Act Name B} {m : Act Name B} (o : Option Name) → ((a : Name) → Costs (2 * one a x) (f a)) → Costs 0 m → Costs (2 * answered_by x o) (for_some o f m)
  unfolding for_some answered_by
  costs_some (Some a) h k = h a
  costs_some None h k = costs_more 0 (2 * 0) (omega arith) k

  -- each takes its own
  pub costs_each : {B : Type 0} (g : B → ℕ) (f : B → Act Name (Unit {0})) (ys : List B) → ((y : B) → Costs (g y) (f y)) → Costs (total g ys) (each f ys)
  unfolding each total
  costs_each g f [] h = costs_free 0 (keeps_give Spares spares tt)
  costs_each g f (y ∷ ys) h = costs_then (g y) (total g ys) (g y + total g ys) (omega arith) (h y) (costs_each g f ys h)

  spares_by : {A : Type 0} (s : Vat Name) (d : Done Name A) → ((e : ℕ) → At e s → Ends (At e) d) → After Spares s d
  spares_by s (Gives a t) f = record { at = f }
  spares_by s other f = record { at = f }

  -- what takes nothing
  pub as_free : {A : Type 0} {m : Act Name A} → Costs 0 m → Keeps Spares m
  as_free {m = m} k = record { after = λ s. spares_by s (m s) (λ e h. k.after e s (less e (0 + e) (omega arith) s h)) }

  -- ---- single acts that take nothing

  pub spare_out : (to : ℕ) (n : Note Name) → Keeps Spares (send_out to n)
  unfolding send_out
  spare_out to n = record { after = λ s. record { at = λ e h. h } }

  pub spare_open : (p i : ℕ) → Keeps {N = Name} Spares (open_gift p i)
  unfolding open_gift
  spare_open p i = record { after = λ s. record { at = λ e h. record { number = h.number; fits = h.fits; waiting = h.waiting; gifts = opened_named v p i s.gifts h.gifts } } }

  pub spare_mark : (w : ℕ) → Keeps {N = Name} Spares (mark w)
  unfolding mark
  spare_mark w = record { after = λ s. record { at = λ e h. h } }

  pub spare_mail : (c : Mailing Name) → Keeps Spares (mail N c)
  unfolding mail
  spare_mail c = record { after = λ s. record { at = λ e h. h } }

  drawn_spares : (s : Vat Name) (w : ℕ) (o : Option ℕ) → After Spares s (draws w o s)
  unfolding draws
  drawn_spares s w (Some i) = record { at = λ e h. h }
  drawn_spares s w None = record { at = λ e h. h }

  pub spare_draw : Keeps Spares (draw N)
  unfolding draw
  spare_draw = record { after = λ s. drawn_spares s _ _ }

  -- a name that comes to be known makes room
  pub comes_good : (e : ℕ) (s : Vat Name) (n : Name) (h : ℕ) → At e s → Good (2 * share owed (one n x) + e) s.number s.queue (s.known ++ begun n h ∷ []) s.gifts
  comes_good e s n h g = let r = g.fits in let a = room.asked_comes word v x n h s.known in let b : share owed (burden (s.known ++ begun n h ∷ [])) ≡ share owed (burden s.known) = ap (share owed) (room.burden_comes word v x n h s.known) in
      let c : share owed (times x (s.known ++ begun n h ∷ [])) ≡ share owed (times x s.known + one n x) = ap (share owed) (room.times_comes word v x n h s.known) in let d = share_sum owed (times x s.known) (one n x) in
      record { number = g.number; fits = omega arith; waiting = go g.waiting; gifts = g.gifts }
    where
      go : (2 ≤ times x s.known) ⊎ Waiting s.known → (2 ≤ times x (s.known ++ begun n h ∷ [])) ⊎ Waiting (s.known ++ begun n h ∷ [])
      go (inl i) = let c = room.times_comes word v x n h s.known in inl (omega arith)
      go (inr w) = inr (room.waiting_comes word v x n h s.known w)

  pub spare_come : (c : Coming Name Name) (h : ℕ) → Keeps Spares (come N c h)
  unfolding come naming
  spare_come c h = record { after = λ s. let n : Name = name_of v c in record { at = λ e g. less (2 * share owed (one n x) + e) e (omega arith) (record s { known = s.known ++ begun n h ∷ [] }) (comes_good e s n h g) } }

  pub spare_promise : Keeps Spares (new_promise N)
  unfolding new_promise naming
  spare_promise = record { after = λ s. let n : Name = name_of v (IsOwn s.promises) in record { at = λ e g. less (2 * share owed (one n x) + e) e (omega arith) (record s { known = s.known ++ begun n s.number ∷ [] }) (comes_good e s n s.number g) } }

  -- ---- changes of what is known

  pub changes_good : (c : Change Name) (n : Name) (e : ℕ) (s : Vat Name) → At (2 * asks_more x c + (share owed (waits_more x c + room.turns_more word v x c n) + e)) s
      → Cares (with_change N c n s.known) → At e (record s { known = with_change N c n s.known })
  changes_good c n e s g w = let r = g.fits in let more : ℕ = waits_more x c + room.turns_more word v x c n in let a = room.asked_after word v x c n s.known in
      let b = share_grows owed (burden (with_change N c n s.known)) (burden s.known + more) (room.burden_changed word v x c n s.known) in let d = share_sum owed (burden s.known) more in
      let t : share owed (times x (with_change N c n s.known)) ≡ share owed (times x s.known) = ap (share owed) (room.times_changed word v x c n s.known) in record { number = g.number; fits = omega arith; waiting = w; gifts = g.gifts }

  -- where it waits on no more, and stands as it did
  pub still : (c : Change Name) (n : Name) (ks : List (Known Name)) → waits_more x c ≡ 0 → standing_of N (with_change N c n ks) x ≡ standing_of N ks x → Cares ks → Cares (with_change N c n ks)
  still c n ks z e h = go h
    where
      go : (2 ≤ times x ks) ⊎ Waiting ks → (2 ≤ times x (with_change N c n ks)) ⊎ Waiting (with_change N c n ks)
      go (inl i) = let same = room.times_changed word v x c n ks in inl (omega arith)
      go (inr w) = inr (room.waiting_changed word v x c n ks z e w)

  calm_good : (c : Change Name) (n : Name) (e : ℕ) (s : Vat Name) → IsMild word v c → waits_more x c ≡ 0 → room.turns_more word v x c n ≡ 0 → At (2 * asks_more x c + e) s → At e (record s { known = with_change N c n s.known })
  calm_good c n e s mild z none g = let most = share_most owed (waits_more x c + room.turns_more word v x c n) in
      changes_good c n e s (less (2 * asks_more x c + e) (2 * asks_more x c + (share owed (waits_more x c + room.turns_more word v x c n) + e)) (omega arith) s g) (still c n s.known z (mild_stands word v c mild n x s.known) g.waiting)

  pub costs_hold : (m : Message Name) (n : Name) → Costs (2 * answers x m) (alter N (Hold m) n)
  unfolding alter
  costs_hold m n = record { after = λ e s g. calm_good (Hold m) n e s tt refl refl g }

  pub costs_react : (m : Message Name) (n : Name) → Costs (2 * answers x m) (alter N (React m) n)
  unfolding alter
  costs_react m n = record { after = λ e s g. calm_good (React m) n e s tt refl refl g }

  pub spare_tells : (w : ℕ) (n : Name) → Keeps Spares (alter N (ToTell w) n)
  unfolding alter
  spare_tells w n = record { after = λ s. record { at = λ e g. calm_good (ToTell w) n e s tt refl refl (less e (2 * 0 + e) (omega arith) s g) } }

  pub costs_queue : (m : Message Name) → Costs (2 * answers x m) (enqueue m)
  unfolding enqueue
  costs_queue m = record { after = λ e s g. let r = g.fits in let more = total_end (answers x) s.queue m in record { number = g.number; fits = omega arith; waiting = g.waiting; gifts = g.gifts } }

  -- ---- waits

  -- It is another name, or one that did neither settle nor wait, or settled.
  abbrev pub Fits : Name → List (Known Name) → Type 0
  Fits n ks = (one n x ≡ 0) ⊎ ((n ≡ x) × room.IsCalm word v x ks)

  -- another name leaves how it stands
  other_stands : (c : Change Name) (n : Name) (ks : List (Known Name)) → one n x ≡ 0 → standing_of N (with_change N c n ks) x ≡ standing_of N ks x
  other_stands c n ks z = go (stands word v c n x ks)
    where
      go : (standing_of N (with_change N c n ks) x ≡ standing_of N ks x) ⊎ ((k : Known Name) × (n ≡ x) × (standing_of N ks x ≡ k.standing) × (standing_of N (with_change N c n ks) x ≡ (changed c k).standing)) → standing_of N (with_change N c n ks) x ≡ standing_of N ks x
      go (inl e) = e
      go (inr i) = let is = one_self n x i.1 in absurd (omega arith)

  module _ (c : Change Name) (r : Name) (asks : asks_more x c ≡ 0) (none : waits_more x c ≡ 0) (turns : (n : Name) → room.turns_more word v x c n ≡ one n x) (new : (k : Known Name) → IsWaitOf r (changed_to c k).standing) where
    abbrev Linked : Name → List (Known Name) → List (Known Name)
    Linked p ks = with_change N (Wait p) r (with_change N c p ks)

    linked_good : (p : Name) (e : ℕ) (s : Vat Name) → At (2 * share owed (one p x) + e) s → Cares (with_change N c p s.known) → Cares (Linked p s.known)
        → At e (record s { known = Linked p s.known })
    linked_good p e s g mid end = let t = turns p in let sum : waits_more x c + room.turns_more word v x c p ≡ one p x = omega arith in let more : share owed (waits_more x c + room.turns_more word v x c p) ≡ share owed (one p x) = ap (share owed) sum in
        let back : share owed (one p x + 0) ≡ share owed (one p x) + share owed 0 = share_sum owed (one p x) 0 in let zero : share owed 0 ≤ 0 = share_most owed 0 in
        let first : At (share owed (one p x) + e) (record s { known = with_change N c p s.known }) = changes_good c p (share owed (one p x) + e) s
        (less (2 * share owed (one p x) + e) (2 * asks_more x c + (share owed (waits_more x c + room.turns_more word v x c p) + (share owed (one p x) + e))) (omega arith) s g) mid in
        changes_good (Wait p) r e (record s { known = with_change N c p s.known })
        (less (share owed (one p x) + e) (2 * 0 + (share owed (one p x + 0) + e)) (omega arith) (record s { known = with_change N c p s.known }) first) end

    -- of another name, or of one that did neither settle nor wait
    pub links_good : (p : Name) (e : ℕ) (s : Vat Name) → Fits p s.known → At (2 * share owed (one p x) + e) s → At e (record s { known = Linked p s.known })
    links_good p e s (inl z) g = let mid = still c p s.known none (other_stands c p s.known z) g.waiting in
        linked_good p e s g mid (still (Wait p) r (with_change N c p s.known) z (mild_stands word v (Wait p) tt r x (with_change N c p s.known)) mid)
    links_good p e s (inr h) g = subst (λ (q : Name). At e (record s { known = Linked q s.known })) (sym h.0) (linked_good x e s (subst (λ (q : Name). At (2 * share owed (one q x) + e) s) h.0 g) (mid g.waiting) (end g.waiting))
      where
        twice : (ks ls : List (Known Name)) → times x ls ≡ times x ks → 2 ≤ times x ks → 2 ≤ times x ls
        twice ks ls same i = omega arith

        mid : (2 ≤ times x s.known) ⊎ Waiting s.known → (2 ≤ times x (with_change N c x s.known)) ⊎ Waiting (with_change N c x s.known)
        mid (inl i) = inl (twice s.known (with_change N c x s.known) (room.times_changed word v x c x s.known) i)
        mid (inr w) = let now = room.turned word v x c r none new s.known h.1 w in inr now.0

        end : (2 ≤ times x s.known) ⊎ Waiting s.known → (2 ≤ times x (Linked x s.known)) ⊎ Waiting (Linked x s.known)
        end (inl i) = inl (twice s.known (Linked x s.known) (room.times_changed word v x (Wait x) r (with_change N c x s.known) ∙ room.times_changed word v x c x s.known) i)
        end (inr w) = inr (room.waits_on word v x c r none new s.known h.1 w)

    -- of one for which there is room
    module _ (owes : owed ≡ true → IsEventual x) (p : Name) (e : ℕ) (s : Vat Name) (g : At (2 * one p x + e) s) where
      paid : At (2 * share owed (one p x) + e) s
      paid = let most = share_most owed (one p x) in less (2 * one p x + e) (2 * share owed (one p x) + e) (omega arith) s g

      has_room : 2 * (total (answers x) s.queue + total (asked_at x) s.known) + share owed (burden s.known) + (2 * one p x + e) ≤ 2 * share owed (times x s.known)
      has_room = g.fits

      calm : owed ≡ true → one p x ≡ 1 → times x s.known ≤ 1 → room.IsCalm word v x s.known
      unfolding share
      calm o is few = let b : share owed (burden s.known) ≡ burden s.known = ap (λ (z : Bool). share z (burden s.known)) o in let t : share owed (times x s.known) ≡ times x s.known = ap (λ (z : Bool). share z (times x s.known)) o in
          let r = has_room in room.free_calm word v x (owes o) s.known (omega arith) (omega arith)

      many : 2 ≤ times x s.known → At e (record s { known = Linked p s.known })
      many two = let a = room.times_changed word v x c p s.known in let b = room.times_changed word v x (Wait p) r (with_change N c p s.known) in linked_good p e s paid (inl (omega arith)) (inl (omega arith))

      few : owed ≡ true → p ≡ x → (2 ≤ times x s.known) ⊎ (times x s.known ≤ 1) → At e (record s { known = Linked p s.known })
      few o same (inl two) = many two
      few o same (inr one) = links_good p e s (inr (same, calm o (one_self p x same) one)) paid

      by_owed : (o : Bool) → owed ≡ o → (one p x ≡ 0) ⊎ (p ≡ x) → At e (record s { known = Linked p s.known })
      unfolding share
      by_owed o i (inl z) = links_good p e s (inl z) paid
      by_owed false i (inr same) = let is = one_self p x same in let t : share owed (times x s.known) ≡ 0 = ap (λ (z : Bool). share z (times x s.known)) i in let r = has_room in absurd (omega arith)
      by_owed true i (inr same) = few i same (few_or (times x s.known))

      pub pays_good : At e (record s { known = Linked p s.known })
      pays_good = by_owed owed refl (one_or p x)

  -- ---- what settles

  -- A name settles that did not: what it held, and what waited on it, is in hand.
  pub settles_good : (y : Value Name) (p : Name) (k : Known Name) (e : ℕ) (s : Vat Name) → entry_of N s.known p ≡ Some k → IsOpen k.standing → At (share owed (one p x) + e) s
      → At (2 * asked_at x k + (share owed (waits_at x k) + e)) (record s { known = with_change N (Settle y) p s.known })
  settles_good y p k e s found loose g = let r = g.fits in let ls : List (Known Name) = with_change N (Settle y) p s.known in let a = room.asked_settles word v x y p k s.known found loose in
      let b = share_grows owed (burden ls + waits_at x k) (burden s.known + one p x) (room.burden_settles word v x y p k s.known found loose) in let c = share_sum owed (burden ls) (waits_at x k) in let d = share_sum owed (burden s.known) (one p x) in
      let t : share owed (times x ls) ≡ share owed (times x s.known) = ap (share owed) (room.times_changed word v x (Settle y) p s.known) in record { number = g.number; fits = omega arith; waiting = go g.waiting; gifts = g.gifts }
    where
      go : (2 ≤ times x s.known) ⊎ Waiting s.known → (2 ≤ times x (with_change N (Settle y) p s.known)) ⊎ Waiting (with_change N (Settle y) p s.known)
      go (inl i) = let same = room.times_changed word v x (Settle y) p s.known in inl (omega arith)
      go (inr w) = inr (room.settles_waiting word v x y p s.known k found loose w)
