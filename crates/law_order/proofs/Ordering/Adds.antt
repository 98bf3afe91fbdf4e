-- A vat that is ready stays so, and the ways only grow, as it only adds.
use Rattle.std.proofs.Common.{arith, ◌≡◌, ℕ, suc, ◌≤◌, Bool, true, false, List, [], ◌∷◌, ◌++◌, Option, Some, None, length, refl, sym, ap, subst, ◌∙◌, inl, inr}
use Rattle.def_machine.specs.Values.{Value, Ref, Name, Naming, Promise, Answer}
use Rattle.def_machine.specs.State.{Message, Standing, Settled, Known, Note, Open, Shorten, Put, Vat, Change, Hold, Wait, WaitOn, See, React, ToTell, Settle}
use Rattle.def_machine.specs.State as state
use Rattle.def_machine.specs.Refs as refs
use Rattle.def_run.specs.World.{Script, Link, World, names}
use Rattle.def_run.specs.World as world
use Rattle.law_order.specs.Ordering.Ways.{Item}
use Rattle.law_order.specs.Ordering.Turns.{Within}
use Rattle.std.proofs.lemmas.List.{append-nil}
use Rattle.law_order.specs.Ordering.Places.{item, queued, held_on, held_in, amid}
use Rattle.law_order.specs.Ordering.Worlds.{IsWaiting, IsFixed, FollowsEnd, LetsNothingGo, NothingGoes, StandsAlike, RefersAlike, AddsOnly}
use Rattle.law_order.proofs.Ordering.Sends.{none_some, some_same, changed_name}
use Rattle.law_order.proofs.Ordering.Standing.{queued_append, held_end, more_lanes}
use Rattle.law_order.proofs.Ordering.Pushing.{push_append}
use Rattle.law_order.proofs.Ordering.Adding.{follows_alike, refers_same}
use Rattle.law_order.proofs.Ordering.Amid.{entry_self, leads_same, grow_there, adding_grows}
use Rattle.law_order.specs.Ordering.Steps.{LetsDrawn, AllDrawn, Ready, Grown, StaysReady}
use Rattle.law_order.proofs.Ordering.Below.{with_drawn}

-- ---- what is known

some_back : (n : Name) (o p : Option (Known Name)) (k : Known Name) → StandsAlike n o p → p ≡ Some k → (j : Known Name) × (o ≡ Some j)
some_back n None None k a e = none_some k e
some_back n None (Some q) k a e = absurd a
some_back n (Some j) p k a e = (j, refl)

some_on : (n : Name) (o p : Option (Known Name)) (j : Known Name) → StandsAlike n o p → o ≡ Some j → (k : Known Name) × (p ≡ Some k) × (k.standing ≡ j.standing)
some_on n None p j a e = none_some j e
some_on n (Some q) None j a e = absurd a
some_on n (Some q) (Some k) j a e = (k, refl, a.0 ∙ ap (λ z. z.standing) (some_same q j e))

none_on : (n : Name) (o p : Option (Known Name)) → StandsAlike n o p → o ≡ None → p ≡ None
none_on n None None a e = refl
none_on n None (Some k) a e = absurd a
none_on n (Some j) p a e = none_some j (sym e)

module _ (K : Naming Name Name) (s t : Vat Name) (g : RefersAlike K s t) where
  fixed_ref : (m : Name) → IsFixed K s (Ref m) → IsFixed K t (Ref m)
  fixed_ref m (inl i) = inl i
  fixed_ref m (inr h) = let k = some_on m (refs.entry_of K s.known m) (refs.entry_of K t.known m) h.0 (g.entries m) h.1 in inr (k.0, k.1, subst IsWaiting (sym k.2) h.2)

  fixed_alike : (y : Value Name) → IsFixed K s y → IsFixed K t y
  fixed_alike (Ref m) i = fixed_ref m i
  fixed_alike other i = tt

  followed_alike : (x : Value Name) → refs.follow_at K (suc (length t.known)) t.known x ≡ refs.follow_at K (suc (length s.known)) s.known x
  followed_alike x = follows_alike K s t g (suc (length t.known)) x ∙ ap (λ d. refs.follow_at K (suc d) s.known x) g.names_known

  pub ends_alike : FollowsEnd K s → FollowsEnd K t
  ends_alike f = record {
    objects = λ n i. none_on n (refs.entry_of K s.known n) (refs.entry_of K t.known n) (g.entries n) (f.objects n i);
    fixed = λ n h. let j = some_back n (refs.entry_of K s.known n) (refs.entry_of K t.known n) h.0 (g.entries n) h.1 in
        subst (IsFixed K t) (sym (followed_alike (Ref n))) (fixed_alike (refs.follow_at K (suc (length s.known)) s.known (Ref n)) (f.fixed n j));
  }

  pub none_alike : (n : Name) → refs.entry_of K s.known n ≡ None → refs.entry_of K t.known n ≡ None
  none_alike n e = none_on n (refs.entry_of K s.known n) (refs.entry_of K t.known n) (g.entries n) e

-- ---- what changes no name's standing

abbrev pub IsSimple : Change Name → Type 0
IsSimple (WaitOn q) = ⊥
IsSimple (See q) = ⊥
IsSimple (Settle y) = ⊥
IsSimple other = Unit {0}

held_more : (n : Name) (ms : List (Message Name)) (m : Message Name) → Within (held_on n ms) (held_on n (ms ++ m ∷ []))
unfolding held_on
held_more n [] m i h = absurd h
held_more n (a ∷ ms) m i (inl e) = inl e
held_more n (a ∷ ms) m i (inr h) = inr (held_more n ms m i h)

changed_alike : (n : Name) (c : Change Name) (k : Known Name) → IsSimple c → StandsAlike n (Some k) (Some (state.changed c k))
unfolding state.changed state.unless_settled state.changed_to
changed_alike n c k i = go k.standing (state.changed_to c k) (to c i)
  where
    to : (c : Change Name) → IsSimple c → StandsAlike n (Some k) (Some (state.changed_to c k))
    to (Hold m) i = (refl, refl, held_more n k.held m)
    to (Wait q) i = (refl, refl, λ j h. h)
    to (React m) i = (refl, refl, λ j h. h)
    to (ToTell h) i = (refl, refl, λ j h. h)
    to other i = absurd i

    go : (q : Standing Name) (j : Known Name) → StandsAlike n (Some k) (Some j) → StandsAlike n (Some k) (Some (state.unless_settled q k j))
    go (Settled y) j a = (refl, refl, λ i h. h)
    go other j a = a

-- what is known of a name holds what it held, and maybe more behind it
abbrev HoldsMore : Name → Option (Known Name) → Option (Known Name) → Type 0
HoldsMore n o p = (js : List Item) × (held_in n p ≡ held_in n o ++ js)

holds_self : (n : Name) (o : Option (Known Name)) → HoldsMore n o o
holds_self n o = ([], sym (append-nil (held_in n o)))

changed_holds : (n : Name) (c : Change Name) (k : Known Name) → IsSimple c → HoldsMore n (Some k) (Some (state.changed c k))
unfolding state.changed state.unless_settled state.changed_to held_in
changed_holds n c k i = go k.standing (state.changed_to c k) (to c i)
  where
    to : (c : Change Name) → IsSimple c → HoldsMore n (Some k) (Some (state.changed_to c k))
    to (Hold m) i = (item m.id n ∷ [], held_end n k.held m)
    to (WaitOn q) i = absurd i
    to (See q) i = absurd i
    to (Settle y) i = absurd i
    to other i = ([], sym (append-nil (held_on n k.held)))

    go : (q : Standing Name) (j : Known Name) → HoldsMore n (Some k) (Some j) → HoldsMore n (Some k) (Some (state.unless_settled q k j))
    go (Settled y) j a = ([], sym (append-nil (held_on n k.held)))
    go other j a = a

module _ (K : Naming Name Name) (c : Change Name) (n : Name) (simple : IsSimple c) where
  head_alike : (m : Name) (b : Bool) (k : Known Name) (o p : Option (Known Name)) → StandsAlike m o p → StandsAlike m (elim b [ true ↦ Some k | false ↦ o ]) (elim b [ true ↦ Some (state.changed c k) | false ↦ p ])
  head_alike m true k o p a = changed_alike m c k simple
  head_alike m false k o p a = a

  tail_alike : (m : Name) (b : Bool) (k : Known Name) (o p : Option (Known Name)) → StandsAlike m o p → StandsAlike m (elim b [ true ↦ Some k | false ↦ o ]) (elim b [ true ↦ Some k | false ↦ p ])
  tail_alike m true k o p a = entry_self m (Some k)
  tail_alike m false k o p a = a

  entries_alike : (ks : List (Known Name)) (m : Name) → StandsAlike m (refs.entry_of K ks m) (refs.entry_of K (state.with_change K c n ks) m)
  unfolding refs.entry_of state.with_change
  entries_alike [] m = tt
  entries_alike (k ∷ ks) m = go (entries_alike ks m) (K.same k.name n)
    where
      go : StandsAlike m (refs.entry_of K ks m) (refs.entry_of K (state.with_change K c n ks) m) → (b : Bool)
          → StandsAlike m (elim (K.same k.name m) [ true ↦ Some k | false ↦ refs.entry_of K ks m ]) (refs.entry_of K (elim b [ true ↦ state.changed c k ∷ ks | false ↦ k ∷ state.with_change K c n ks ]) m)
      go a true = subst (λ q. StandsAlike m (elim (K.same k.name m) [ true ↦ Some k | false ↦ refs.entry_of K ks m ]) (elim (K.same q m) [ true ↦ Some (state.changed c k) | false ↦ refs.entry_of K ks m ])) (sym (changed_name c k)) (head_alike m (K.same k.name m) k (refs.entry_of K ks m) (refs.entry_of K ks m) (entry_self m (refs.entry_of K ks m)))
      go a false = tail_alike m (K.same k.name m) k (refs.entry_of K ks m) (refs.entry_of K (state.with_change K c n ks) m) a

  head_holds : (m : Name) (b : Bool) (k : Known Name) (o : Option (Known Name)) → HoldsMore m (elim b [ true ↦ Some k | false ↦ o ]) (elim b [ true ↦ Some (state.changed c k) | false ↦ o ])
  head_holds m true k o = changed_holds m c k simple
  head_holds m false k o = holds_self m o

  tail_holds : (m : Name) (b : Bool) (k : Known Name) (o p : Option (Known Name)) → HoldsMore m o p → HoldsMore m (elim b [ true ↦ Some k | false ↦ o ]) (elim b [ true ↦ Some k | false ↦ p ])
  tail_holds m true k o p a = holds_self m (Some k)
  tail_holds m false k o p a = a

  entries_hold : (ks : List (Known Name)) (m : Name) → HoldsMore m (refs.entry_of K ks m) (refs.entry_of K (state.with_change K c n ks) m)
  unfolding refs.entry_of state.with_change
  entries_hold [] m = holds_self m None
  entries_hold (k ∷ ks) m = go (entries_hold ks m) (K.same k.name n)
    where
      go : HoldsMore m (refs.entry_of K ks m) (refs.entry_of K (state.with_change K c n ks) m) → (b : Bool)
          → HoldsMore m (elim (K.same k.name m) [ true ↦ Some k | false ↦ refs.entry_of K ks m ]) (refs.entry_of K (elim b [ true ↦ state.changed c k ∷ ks | false ↦ k ∷ state.with_change K c n ks ]) m)
      go a true = subst (λ q. HoldsMore m (elim (K.same k.name m) [ true ↦ Some k | false ↦ refs.entry_of K ks m ]) (elim (K.same q m) [ true ↦ Some (state.changed c k) | false ↦ refs.entry_of K ks m ])) (sym (changed_name c k)) (head_holds m (K.same k.name m) k (refs.entry_of K ks m))
      go a false = tail_holds m (K.same k.name m) k (refs.entry_of K ks m) (refs.entry_of K (state.with_change K c n ks) m) a

  length_alike : (ks : List (Known Name)) → length (state.with_change K c n ks) ≡ length ks
  unfolding state.with_change
  length_alike [] = refl
  length_alike (k ∷ ks) = go (length_alike ks) (K.same k.name n)
    where
      go : length (state.with_change K c n ks) ≡ length ks → (b : Bool) → length {A = Known Name} (elim b [ true ↦ state.changed c k ∷ ks | false ↦ k ∷ state.with_change K c n ks ]) ≡ suc (length ks)
      go e true = refl
      go e false = ap suc e

  pub change_adds : (s : Vat Name) → AddsOnly K s (record s { known = state.with_change K c n s.known })
  change_adds s = record {
    alike = record { number = refl; gifts = refl; noticed = refl; names_known = length_alike s.known; entries = λ m. entries_alike s.known m };
    queue = ([], sym (append-nil (queued s.queue)));
    held = λ m. entries_hold s.known m;
    notes = ([], sym (append-nil s.outbox), tt);
  }

-- ---- other additions

module _ (K : Naming Name Name) (s t : Vat Name) (known : t.known ≡ s.known) (number : t.number ≡ s.number) (gifts : t.gifts ≡ s.gifts) (noticed : t.noticed ≡ s.noticed) where
  pub alike_same : RefersAlike K s t
  alike_same = record { number = number; gifts = gifts; noticed = noticed; names_known = ap (λ ks. length ks) known; entries = λ n. subst (λ ks. StandsAlike n (refs.entry_of K s.known n) (refs.entry_of K ks n)) (sym known) (entry_self n (refs.entry_of K s.known n)) }

pub adds_nothing : (K : Naming Name Name) (s t : Vat Name) → t.known ≡ s.known → t.number ≡ s.number → t.gifts ≡ s.gifts → t.noticed ≡ s.noticed → t.queue ≡ s.queue → t.outbox ≡ s.outbox → AddsOnly K s t
adds_nothing K s t a b c d e f = record {
  alike = alike_same K s t a b c d;
  queue = ([], ap (λ q. queued q) e ∙ sym (append-nil (queued s.queue)));
  held = λ n. ([], ap (λ ks. held_in n (refs.entry_of K ks n)) a ∙ sym (append-nil (held_in n (refs.entry_of K s.known n))));
  notes = ([], f ∙ sym (append-nil s.outbox), tt);
}

pub adds_message : (K : Naming Name Name) (s : Vat Name) (m : Message Name) → AddsOnly K s (record s { queue = s.queue ++ m ∷ [] })
adds_message K s m = record {
  alike = alike_same K s (record s { queue = s.queue ++ m ∷ [] }) refl refl refl refl;
  queue = (queued (m ∷ []), queued_append s.queue (m ∷ []));
  held = λ n. holds_self n (refs.entry_of K s.known n);
  notes = ([], sym (append-nil s.outbox), tt);
}

pub adds_note : (K : Naming Name Name) (s : Vat Name) (p : Put Name) → LetsNothingGo p.note → AddsOnly K s (record s { outbox = s.outbox ++ p ∷ [] })
adds_note K s p i = record {
  alike = alike_same K s (record s { outbox = s.outbox ++ p ∷ [] }) refl refl refl refl;
  queue = ([], sym (append-nil (queued s.queue)));
  held = λ n. holds_self n (refs.entry_of K s.known n);
  notes = (p ∷ [], refl, (i, tt));
}

-- ---- readiness

nothing_drawn : (d : List ℕ) (n : Note Name) → LetsNothingGo n → LetsDrawn d n
nothing_drawn d (Open i n) h = absurd h
nothing_drawn d (Shorten n c i) h = absurd h
nothing_drawn d other h = tt

pushed_drawn : (d : List ℕ) (v : ℕ) (ps : List (Put Name)) (ls : List Link) → NothingGoes ps → AllDrawn d ls → AllDrawn d (world.push_all v ps ls)
unfolding world.push_all
pushed_drawn d v [] ls i h = h
pushed_drawn d v (p ∷ ps) ls i h = pushed_drawn d v ps (world.with_link (world.pushed p.note) v p.to ls) i.1 (with_drawn d p.note v p.to ls (nothing_drawn d p.note i.0) h)

module _ (script : Script) (honest : ℕ → Bool) (w : World) (v : ℕ) (s t : Vat Name) where
  pub grown_adds : AddsOnly (names script v) s t → Grown script honest w v s t
  unfolding amid
  grown_adds g = record {
    grows = adding_grows script honest w v s t g;
    more = λ l. more_lanes script honest w v s t g l;
    leading = λ u x. leads_same script honest w.vats (world.push_all v s.outbox w.links) (world.push_all v t.outbox w.links) (grow_there script honest w v s t g) v s t (refers_same script honest v s t g.alike) u x;
  }

  pub ready_adds : AddsOnly (names script v) s t → s.messages ≤ t.messages → s.promises ≤ t.promises → t.drawn ≡ s.drawn → Ready script honest w v s → Ready script honest w v t
  ready_adds g m p d r = record {
    number = g.alike.number ∙ r.number;
    ends = ends_alike (names script v) s t g.alike r.ends;
    draws = subst (λ ls. AllDrawn t.drawn ls) (sym (ap (λ ps. world.push_all v ps w.links) g.notes.1 ∙ push_append v s.outbox g.notes.0 w.links)) (pushed_drawn t.drawn v g.notes.0 (world.push_all v s.outbox w.links) g.notes.2 (subst (λ ds. AllDrawn ds (world.push_all v s.outbox w.links)) (sym d) r.draws));
    answers = λ h i j. none_alike (names script v) s t g.alike (Answer h (record { sender = v; number = i })) (r.answers h i (less s.messages t.messages i m j));
    promises = λ i j. none_alike (names script v) s t g.alike (Promise v i) (r.promises i (less s.promises t.promises i p j));
  }
    where
      less : (a b c : ℕ) → a ≤ b → b ≤ c → a ≤ c
      less a b c i j = omega arith

  pub stays_adds : AddsOnly (names script v) s t → s.messages ≤ t.messages → s.promises ≤ t.promises → t.drawn ≡ s.drawn → StaysReady script honest w v s t
  stays_adds g m p d r = (ready_adds g m p d r, grown_adds g)

less_self : (n : ℕ) → n ≤ n
less_self n = omega arith

-- From s to t the vat only added, and made nothing that is counted.
abbrev pub AddsQuietly : Naming Name Name → Vat Name → Vat Name → Type 0
AddsQuietly K s t = AddsOnly K s t × (t.messages ≡ s.messages) × (t.promises ≡ s.promises) × (t.drawn ≡ s.drawn)

pub stays_quiet : (script : Script) (honest : ℕ → Bool) (w : World) (v : ℕ) (s t : Vat Name) → AddsQuietly (names script v) s t → StaysReady script honest w v s t
stays_quiet script honest w v s t g = stays_adds script honest w v s t g.0
    (subst (λ n. s.messages ≤ n) (sym g.1) (less_self s.messages))
    (subst (λ n. s.promises ≤ n) (sym g.2) (less_self s.promises))
    g.3
