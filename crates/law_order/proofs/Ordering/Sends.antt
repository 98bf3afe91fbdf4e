-- Where a message is sent to a place, it is ahead of that place from then on.
use Rattle.std.proofs.Common.{◌≡◌, ℕ, zero, suc, length, Bool, true, false, List, [], ◌∷◌, ◌++◌, Option, Some, None, refl, sym, ap, subst, ◌∙◌, inl, inr, eqb-true}
use Rattle.std.specs.Prelude.{slice_get, ◌==◌, is_some}
use Rattle.def_machine.specs.Values.{Words, Value, Ref, Name, Naming, IsAnswer}
use Rattle.def_machine.specs.State.{Message, Standing, Viewed, Settled, Known, Hold, Passeds, Delivery, Note, Deliver, Open, Ask, SettledTo, Elsewhere, Shorten, Put, Vat, Done, Act, Gives, Posted}
use Rattle.def_machine.specs.State as state
use Rattle.def_machine.specs.Refs.{Place, Near, Mine, Away, Gone, Settler}
use Rattle.def_machine.specs.Refs as refs
use Rattle.def_run.specs.World.{Script, Link, World, names}
use Rattle.def_run.specs.World as world
use Rattle.law_order.specs.Ordering.Ways.{Queue, Held, Way, Item, Nowhere, Free, End, Ways, IsIn, Doom, nowhere, by_end, alike, Ahead, doomed_there, in_end}
use Rattle.law_order.specs.Ordering.Ways as lanes
use Rattle.law_order.specs.Ordering.Places as places
use Rattle.law_order.specs.Ordering.Places.{item, queued, held_on, held_in, delivered, is_honest, aimed, stands_at, over, onward_at, ways_of, ways, amid}
use Rattle.law_order.specs.Ordering.Worlds.{IfGives, IsWaiting, SentMessagesAreAhead}

-- ---- lists

-- behind more than there was it stands where it stood
queued_behind : (t : Value Name) (i : Item) (m : Name) (js : List Item) → IsIn i js → IsIn i (elim t [ Ref n ↦ item m n ∷ js | _ ↦ js ])
queued_behind (Ref n) i m js h = inr h
queued_behind other i m js h = h

pub queued_last : (q : List (Message Name)) (m : Message Name) (n : Name) → m.target ≡ Ref n → IsIn (item m.id n) (queued (q ++ m ∷ []))
unfolding queued
queued_last [] m n e = subst (λ t. IsIn (item m.id n) (elim t [ Ref k ↦ item m.id k ∷ [] | _ ↦ [] ])) (sym e) (inl refl)
queued_last (p ∷ q) m n e = queued_behind p.target (item m.id n) p.id (queued (q ++ m ∷ [])) (queued_last q m n e)

pub held_last : (q : List (Message Name)) (m : Message Name) (n : Name) → IsIn (item m.id n) (held_on n (q ++ m ∷ []))
unfolding held_on
held_last [] m n = inl refl
held_last (p ∷ q) m n = inr (held_last q m n)

pub delivered_last : (ns : List (Note Name)) (m : Delivery Name) (n : Name) (verb : Words) (ys : Passeds Name) → IsIn (item m.message n) (delivered (ns ++ Deliver m n verb ys ∷ []))
unfolding delivered
delivered_last [] m n verb ys = inl refl
delivered_last (Deliver a b c d ∷ ns) m n verb ys = inr (delivered_last ns m n verb ys)
delivered_last (Open i a ∷ ns) m n verb ys = delivered_last ns m n verb ys
delivered_last (Ask p i a ∷ ns) m n verb ys = delivered_last ns m n verb ys
delivered_last (SettledTo a y ∷ ns) m n verb ys = delivered_last ns m n verb ys
delivered_last (Elsewhere a c ∷ ns) m n verb ys = delivered_last ns m n verb ys
delivered_last (Shorten a c i ∷ ns) m n verb ys = delivered_last ns m n verb ys

-- ---- links

pub push_last : (v : ℕ) (ps : List (Put Name)) (p : Put Name) (ls : List Link) → world.push_all v (ps ++ p ∷ []) ls ≡ world.with_link (world.pushed p.note) v p.to (world.push_all v ps ls)
unfolding world.push_all
push_last v [] p ls = refl
push_last v (q ∷ ps) p ls = push_last v ps p (world.with_link (world.pushed q.note) v q.to ls)

-- where a link is cut only its log grows, and else its notes too
pub pushed_shut : (n : Note Name) (l : Link) → l.cut ≡ true → world.pushed n l ≡ record l { log = l.log ++ n ∷ [] }
unfolding world.pushed
pushed_shut n l e =
    let a : Link = record l { log = l.log ++ n ∷ [] } in
    let b : Link = record l { notes = l.notes ++ n ∷ []; log = l.log ++ n ∷ [] } in
    subst (λ c. elim c [ true ↦ a | false ↦ b ] ≡ a) (sym e) refl

pub pushed_open : (n : Note Name) (l : Link) → l.cut ≡ false → world.pushed n l ≡ record l { notes = l.notes ++ n ∷ []; log = l.log ++ n ∷ [] }
unfolding world.pushed
pushed_open n l e =
    let a : Link = record l { log = l.log ++ n ∷ [] } in
    let b : Link = record l { notes = l.notes ++ n ∷ []; log = l.log ++ n ∷ [] } in
    subst (λ c. elim c [ true ↦ a | false ↦ b ] ≡ b) (sym e) refl

pub pushed_ends : (b : Bool) (n : Note Name) (l : Link) (v h : ℕ) → l.cut ≡ b → world.is_link v h (world.pushed n l) ≡ world.is_link v h l
unfolding world.is_link
pushed_ends true n l v h e = rw (pushed_shut n l e) refl
pushed_ends false n l v h e = rw (pushed_open n l e) refl

abbrev IsNone : {A : Type 0} → Option A → Type 0
IsNone None = Unit {0}
IsNone (Some x) = ⊥

pub none_some : {A C : Type 0} (x : A) → None ≡ Some x → C
none_some x e = absurd (subst IsNone e tt)

pub some_same : {A : Type 0} (x y : A) → Some x ≡ Some y → x ≡ y
some_same x y e = ap (λ o. elim o [ Some z ↦ z | None ↦ x ]) e

pub link_here : (v h : ℕ) (k : Link) (ls : List Link) → world.is_link v h k ≡ true → world.link_at v h (k ∷ ls) ≡ Some k
unfolding world.link_at
link_here v h k ls e = subst (λ c. elim c [ true ↦ Some k | false ↦ world.link_at v h ls ] ≡ Some k) (sym e) refl

pub link_behind : (v h : ℕ) (k : Link) (ls : List Link) → world.is_link v h k ≡ false → world.link_at v h (k ∷ ls) ≡ world.link_at v h ls
unfolding world.link_at
link_behind v h k ls e = subst (λ c. elim c [ true ↦ Some k | false ↦ world.link_at v h ls ] ≡ world.link_at v h ls) (sym e) refl

-- the link that is found is one that was there, with the note pushed
found : (n : Note Name) (v h : ℕ) (ls : List Link) (l : Link) → world.link_at v h (world.with_link (world.pushed n) v h ls) ≡ Some l → (k : Link) × (l ≡ world.pushed n k)
unfolding world.with_link world.link_at
found n v h [] l e = none_some l e
found n v h (k ∷ ls) l e = go (λ q. found n v h ls l q) (world.is_link v h k) refl e
  where
    go : (world.link_at v h (world.with_link (world.pushed n) v h ls) ≡ Some l → (j : Link) × (l ≡ world.pushed n j)) → (b : Bool) → world.is_link v h k ≡ b → world.link_at v h (elim b [ true ↦ world.pushed n k ∷ ls | false ↦ k ∷ world.with_link (world.pushed n) v h ls ]) ≡ Some l → (j : Link) × (l ≡ world.pushed n j)
    go f true i q = (k, sym (some_same (world.pushed n k) l (sym (link_here v h (world.pushed n k) ls (pushed_ends k.cut n k v h refl ∙ i)) ∙ q)))
    go f false i q = f (sym (link_behind v h k (world.with_link (world.pushed n) v h ls) i) ∙ q)

abbrev IsFalse : Bool → Type 0
IsFalse true = ⊥
IsFalse false = Unit {0}

-- its ends
pub ends_of : (v h : ℕ) (l : Link) → world.is_link v h l ≡ true → (l.from ≡ v) × (l.to ≡ h)
unfolding world.is_link
ends_of v h l e = go (l.from == v) refl e
  where
    go : (b : Bool) → (l.from == v) ≡ b → elim b [ true ↦ l.to == h | false ↦ false ] ≡ true → (l.from ≡ v) × (l.to ≡ h)
    go true i q = (eqb-true l.from v i, eqb-true l.to h q)
    go false i q = absurd (subst IsFalse q tt)

pub found_ends : (v h : ℕ) (ls : List Link) (l : Link) → world.link_at v h ls ≡ Some l → (l.from ≡ v) × (l.to ≡ h)
unfolding world.link_at
found_ends v h [] l e = none_some l e
found_ends v h (k ∷ ls) l e = go (λ q. found_ends v h ls l q) (world.is_link v h k) refl e
  where
    go : (world.link_at v h ls ≡ Some l → (l.from ≡ v) × (l.to ≡ h)) → (b : Bool) → world.is_link v h k ≡ b → elim b [ true ↦ Some k | false ↦ world.link_at v h ls ] ≡ Some l → (l.from ≡ v) × (l.to ≡ h)
    go f true i q = let same = some_same k l q in ends_of v h l (subst (λ j. world.is_link v h j ≡ true) same i)
    go f false i q = f q

-- ---- in the middle of a step

pub get_put : (ss : List (Vat Name)) (u : ℕ) (r t : Vat Name) → slice_get ss u ≡ Some r → slice_get (world.put_at u t ss) u ≡ Some t
unfolding world.put_at
get_put [] u r t e = none_some r e
get_put (s ∷ ss) zero r t e = refl
get_put (s ∷ ss) (suc u) r t e = get_put ss u r t e

pub in_queue : (i : Item) (o : Option (Vat Name)) (t : Vat Name) → o ≡ Some t → IsIn i (queued t.queue) → IsIn i (elim o [ Some s ↦ queued s.queue | None ↦ [] ])
in_queue i o t e h = subst (λ q. IsIn i (elim q [ Some s ↦ queued s.queue | None ↦ [] ])) (sym e) h

pub in_held : (K : Naming Name Name) (i : Item) (n : Name) (o : Option (Vat Name)) (t : Vat Name) → o ≡ Some t → IsIn i (held_in n (refs.entry_of K t.known n)) → IsIn i (elim o [ Some s ↦ held_in n (refs.entry_of K s.known n) | None ↦ [] ])
in_held K i n o t e h = subst (λ q. IsIn i (elim q [ Some s ↦ held_in n (refs.entry_of K s.known n) | None ↦ [] ])) (sym e) h

pub held_there : (n : Name) (i : Item) (o : Option (Known Name)) (k : Known Name) → o ≡ Some k → IsIn i (held_on n k.held) → IsIn i (held_in n o)
unfolding held_in
held_there n i o k e h = subst (λ q. IsIn i (held_in n q)) (sym e) h

module _ (script : Script) (honest : ℕ → Bool) (w : World) (v : ℕ) (r t : Vat Name) (at : slice_get w.vats v ≡ Some r) where
  abbrev Vats : List (Vat Name)
  Vats = world.put_at v t w.vats

  abbrev Links : List Link
  Links = world.push_all v t.outbox w.links

  abbrev Here : Ways
  Here = ways script honest (amid v t w)

  there : slice_get (world.put_at v t w.vats) v ≡ Some t
  there = get_put w.vats v r t at

  pub near : (q : List (Message Name)) (m : Message Name) (n : Name) → t.queue ≡ q ++ m ∷ [] → m.target ≡ Ref n → Ahead Here m.id (End (Queue v) n)
  unfolding ways ways_of stands_at amid
  near q m n e f = in_end (in_queue (item m.id n) (slice_get (world.put_at v t w.vats) v) t there (subst (λ p. IsIn (item m.id n) (queued p)) (sym e) (queued_last q m n f))) alike

  pub mine : (q : List (Message Name)) (m : Message Name) (n : Name) (k : Known Name) → refs.entry_of (names script v) t.known n ≡ Some k → k.held ≡ q ++ m ∷ [] → Ahead Here m.id (End (Held v n) n)
  unfolding ways ways_of stands_at amid
  mine q m n k e f = in_end (in_held (names script v) (item m.id n) n (slice_get (world.put_at v t w.vats) v) t there (held_there n (item m.id n) (refs.entry_of (names script v) t.known n) k e (subst (λ p. IsIn (item m.id n) (held_on n p)) (sym f) (held_last q m n)))) alike

  -- a deliver note that was put last, on the link from this vat
  module _ (h : ℕ) (mine_honest : honest v ≡ true) (other_honest : honest h ≡ true) (m : Delivery Name) (n : Name) (verb : Words) (ys : Passeds Name) (ps : List (Put Name)) (put : t.outbox ≡ ps ++ record { to = h; note = Deliver m n verb ys } ∷ []) where
    both_honest : (l : Link) → l.from ≡ v → l.to ≡ h → is_honest script honest l ≡ true
    unfolding is_honest
    both_honest l e f = rw e (rw f (rw mine_honest other_honest))

    pushed_last : Links ≡ world.with_link (world.pushed (Deliver m n verb ys)) v h (world.push_all v ps w.links)
    pushed_last = rw put (push_last v ps (record { to = h; note = Deliver m n verb ys }) w.links)

    over_cut : (l : Link) → is_honest script honest l ≡ true → l.cut ≡ true → over script honest Vats Links h n l ≡ Nowhere
    unfolding over
    over_cut l e f = subst (λ c. elim c [ true ↦ elim l.cut [ true ↦ Nowhere | false ↦ leads_of ] | false ↦ Free ] ≡ Nowhere) (sym e) (subst (λ c. elim c [ true ↦ Nowhere | false ↦ leads_of ] ≡ Nowhere) (sym f) refl)
      where
        leads_of : lanes.Place
        leads_of = places.leads script honest Vats Links h (Ref n)

    onward_some : (l : Link) → world.link_at v h Links ≡ Some l → onward_at script honest Vats Links (Way v h) n ≡ over script honest Vats Links h n l
    unfolding onward_at
    onward_some l e = subst (λ o. elim o [ Some k ↦ over script honest Vats Links h n k | None ↦ Nowhere ] ≡ over script honest Vats Links h n l) (sym e) refl

    onward_none : world.link_at v h Links ≡ None → onward_at script honest Vats Links (Way v h) n ≡ Nowhere
    unfolding onward_at
    onward_none e = subst (λ o. elim o [ Some k ↦ over script honest Vats Links h n k | None ↦ Nowhere ] ≡ Nowhere) (sym e) refl

    on_link : (l : Link) → world.link_at v h Links ≡ Some l → is_honest script honest l ≡ true → IsIn (item m.message n) (delivered l.notes) → IsIn (item m.message n) (stands_at script honest Vats Links (Way v h))
    unfolding stands_at
    on_link l e i j = subst (λ o. IsIn (item m.message n) (elim o [ Some k ↦ elim (is_honest script honest k) [ true ↦ delivered k.notes | false ↦ [] ] | None ↦ [] ])) (sym e) (subst (λ c. IsIn (item m.message n) (elim c [ true ↦ delivered l.notes | false ↦ [] ])) (sym i) j)

    nowhere_ahead : onward_at script honest Vats Links (Way v h) n ≡ Nowhere → Ahead Here m.message (End (Way v h) n)
    unfolding ways ways_of amid
    nowhere_ahead e = doomed_there (by_end (subst (Doom Here) (sym e) nowhere))

    standing_ahead : IsIn (item m.message n) (stands_at script honest Vats Links (Way v h)) → Ahead Here m.message (End (Way v h) n)
    unfolding ways ways_of amid
    standing_ahead i = in_end i alike

    by_cut : (l k : Link) (b : Bool) → l ≡ world.pushed (Deliver m n verb ys) k → k.cut ≡ b → is_honest script honest l ≡ true → world.link_at v h Links ≡ Some l → Ahead Here m.message (End (Way v h) n)
    by_cut l k true e f i q = let cut : l.cut ≡ true = rw e (rw (pushed_shut (Deliver m n verb ys) k f) f) in nowhere_ahead (onward_some l q ∙ over_cut l i cut)
    by_cut l k false e f i q = let notes : l.notes ≡ k.notes ++ Deliver m n verb ys ∷ [] = rw e (rw (pushed_open (Deliver m n verb ys) k f) refl) in standing_ahead (on_link l q i (subst (λ ns. IsIn (item m.message n) (delivered ns)) (sym notes) (delivered_last k.notes m n verb ys)))

    by_link : (o : Option Link) → world.link_at v h Links ≡ o → Ahead Here m.message (End (Way v h) n)
    by_link None q = nowhere_ahead (onward_none q)
    by_link (Some l) q =
        let k = found (Deliver m n verb ys) v h (world.push_all v ps w.links) l (subst (λ ls. world.link_at v h ls ≡ Some l) pushed_last q) in
        let e = found_ends v h Links l q in
        by_cut l k.0 k.0.cut k.1 refl (both_honest l e.0 e.1) q

    pub away : Ahead Here m.message (End (Way v h) n)
    away = by_link (world.link_at v h Links) refl

-- ---- the act of sending

pub if_all : {A : Type 0} (P : Vat Name → Type 0) → ((t : Vat Name) → P t) → (d : Done Name A) → IfGives P d
if_all P f (Gives a t) = f t
if_all P f other = tt

pub if_map : {A : Type 0} (P Q : Vat Name → Type 0) → ((t : Vat Name) → P t → Q t) → (d : Done Name A) → IfGives P d → IfGives Q d
if_map P Q f (Gives a t) h = f t h
if_map P Q f other h = tt

pub if_both : {A : Type 0} (P Q : Vat Name → Type 0) (d : Done Name A) → IfGives P d → IfGives Q d → IfGives (λ t. P t × Q t) d
if_both P Q (Gives a t) h i = (h, i)
if_both P Q other h i = tt

pub chain : {A B : Type 0} (P Q : Vat Name → Type 0) (d : Done Name A) (n : Act Name B) → IfGives P d → ((t : Vat Name) → P t → IfGives Q (n t)) → IfGives Q (state.and_then d (λ _. n))
unfolding state.and_then
chain P Q (Gives a t) n h f = f t h
chain P Q other n h f = tt

pub held_by : (k : Known Name) (m : Message Name) → IsWaiting k.standing → (state.changed (Hold m) k).held ≡ k.held ++ m ∷ []
unfolding state.changed state.unless_settled state.changed_to
held_by k m i = go k.standing i
  where
    go : (q : Standing Name) → IsWaiting q → (state.unless_settled q k (record k { held = k.held ++ m ∷ [] })).held ≡ k.held ++ m ∷ []
    go (Viewed q) i = absurd i
    go (Settled y) i = absurd i
    go other i = refl

pub changed_name : (c : state.Change Name) (k : Known Name) → (state.changed c k).name ≡ k.name
unfolding state.changed state.unless_settled state.changed_to
changed_name c k = go k.standing (state.changed_to c k) (to c)
  where
    to : (c : state.Change Name) → (state.changed_to c k).name ≡ k.name
    to (Hold m) = refl
    to other = refl

    go : (q : Standing Name) (j : Known Name) → j.name ≡ k.name → (state.unless_settled q k j).name ≡ k.name
    go (Settled y) j e = refl
    go other j e = e

module _ (K : Naming Name Name) (n : Name) where
  pub entry_here : (k : Known Name) (ks : List (Known Name)) → K.same k.name n ≡ true → refs.entry_of K (k ∷ ks) n ≡ Some k
  unfolding refs.entry_of
  entry_here k ks e = subst (λ c. elim c [ true ↦ Some k | false ↦ refs.entry_of K ks n ] ≡ Some k) (sym e) refl

  pub entry_behind : (k : Known Name) (ks : List (Known Name)) → K.same k.name n ≡ false → refs.entry_of K (k ∷ ks) n ≡ refs.entry_of K ks n
  unfolding refs.entry_of
  entry_behind k ks e = subst (λ c. elim c [ true ↦ Some k | false ↦ refs.entry_of K ks n ] ≡ refs.entry_of K ks n) (sym e) refl

  pub entry_changed : (c : state.Change Name) (ks : List (Known Name)) (k : Known Name) → refs.entry_of K ks n ≡ Some k → refs.entry_of K (state.with_change K c n ks) n ≡ Some (state.changed c k)
  unfolding state.with_change refs.entry_of
  entry_changed c [] k e = none_some k e
  entry_changed c (j ∷ ks) k e = go (λ q. entry_changed c ks k q) (K.same j.name n) refl e
    where
      go : (refs.entry_of K ks n ≡ Some k → refs.entry_of K (state.with_change K c n ks) n ≡ Some (state.changed c k)) → (b : Bool) → K.same j.name n ≡ b → elim b [ true ↦ Some j | false ↦ refs.entry_of K ks n ] ≡ Some k → refs.entry_of K (elim b [ true ↦ state.changed c j ∷ ks | false ↦ j ∷ state.with_change K c n ks ]) n ≡ Some (state.changed c k)
      go f true i q = let same = some_same j k q in entry_here (state.changed c j) ks (rw (changed_name c j) i) ∙ ap (λ x. Some (state.changed c x)) same
      go f false i q = entry_behind j (state.with_change K c n ks) i ∙ f q

module _ (script : Script) (honest : ℕ → Bool) (w : World) (v : ℕ) (r s : Vat Name) (settle : Settler {N = Name} {W = Name} (names script v)) (m : Message Name) (at : slice_get w.vats v ≡ Some r) (honest_here : honest v ≡ true) where
  abbrev Then : Value Name → Place Name → Vat Name → Type 0
  Then y p t = Ahead (ways script honest (amid v t w)) m.id (aimed v y p)

  -- what waits in this vat
  abbrev Waiting : Place Name → Type 0
  Waiting p = (n : Name) → p ≡ Mine n → (k : Known Name) × (refs.entry_of (names script v) s.known n ≡ Some k) × IsWaiting k.standing

  abbrev Honest : Place Name → Type 0
  Honest p = (h : ℕ) (n : Name) (o : Bool) → p ≡ Away h n o → honest h ≡ true

  sent_near : (y : Value Name) → IfGives (Then y Near) (state.enqueue (record m { target = y }) s)
  unfolding state.enqueue aimed
  sent_near (Ref n) = near script honest w v r (record s { queue = s.queue ++ record m { target = Ref n } ∷ [] }) at s.queue (record m { target = Ref n }) n refl refl
  sent_near other = doomed_there nowhere

  sent_mine : (y : Value Name) (n : Name) → Waiting (Mine n) → IfGives (Then y (Mine n)) (state.alter (names script v) (Hold (record m { target = y })) n s)
  unfolding state.alter aimed
  sent_mine y n f =
      let k = f n refl in
      let c : state.Change Name = Hold (record m { target = y }) in
      mine script honest w v r (record s { known = state.with_change (names script v) c n s.known }) at k.0.held (record m { target = y }) n (state.changed c k.0) (entry_changed (names script v) n c s.known k.0 k.1) (held_by k.0 (record m { target = y }) k.2)

  -- the deliver note of the message is the last that was put
  abbrev PutLast : ℕ → Name → Vat Name → Type 0
  PutLast h n t = (asks : Bool) × (answer : Option Name) × (ps : List (Put Name)) × (ys : Passeds Name) × (t.outbox ≡ ps ++ record { to = h; note = Deliver (record { message = m.id; asks = asks; answer = answer }) n m.verb ys } ∷ [])

  put_last : (h : ℕ) (n : Name) → IfGives (PutLast h n) (refs.pass_on (names script v) m h n s)
  unfolding refs.pass_on refs.deliver refs.wait_on state.come state.for_some state.◌>>=◌ state.◌>>◌ state.and_then state.tell state.send_out state.alter
  put_last h n = by_answer m.answer
    where
      New : Name
      New = (names script v).made (IsAnswer h m.id) (length s.known)

      go : (p : Name) (d : Done Name (Passeds Name)) → IfGives (PutLast h n) (state.and_then (state.and_then d (λ args. state.◌>>◌ (state.tell (Posted h m.id)) (state.send_out h (Deliver (record { message = m.id; asks = true; answer = Some New }) n m.verb args)))) (λ _. refs.wait_on (names script v) p ((names script v).made (IsAnswer h m.id) (length s.known))))
      go p (Gives args t) = (true, Some New, t.outbox, args, refl)
      go p other = tt

      lone : (d : Done Name (Passeds Name)) → IfGives (PutLast h n) (state.and_then d (λ args. state.◌>>◌ (state.tell (Posted h m.id)) (state.send_out h (Deliver (refs.delivery_of (names script v) m) n m.verb args))))
      lone (Gives args t) = (is_some m.answer, m.answer, t.outbox, args, refl)
      lone other = tt

      by_answer : (o : Option Name) → IfGives (PutLast h n) (state.for_some o (λ p. state.◌>>=◌ (state.come (names script v) (IsAnswer h m.id) h) (λ a. state.◌>>◌ (refs.deliver (names script v) (record m { answer = Some a }) h n) (refs.wait_on (names script v) p a))) (refs.deliver (names script v) m h n) s)
      by_answer (Some p) = go p (refs.pass_all (names script v) h m.args (record s { known = s.known ++ state.begun ((names script v).made (IsAnswer h m.id) (length s.known)) h ∷ [] }))
      by_answer None = lone (refs.pass_all (names script v) h m.args s)

  sent_away : (y : Value Name) (h : ℕ) (n : Name) (o : Bool) → Honest (Away h n o) → IfGives (Then y (Away h n o)) (refs.pass_on (names script v) m h n s)
  unfolding aimed
  sent_away y h n o f = if_map (PutLast h n) (Then y (Away h n o)) (λ t p. away script honest w v r t at h honest_here (f h n o refl) (record { message = m.id; asks = p.0; answer = p.1 }) n m.verb p.3 p.2 p.4) (refs.pass_on (names script v) m h n s) (put_last h n)

  sent_gone : (y : Value Name) (p : Words) (d : Done Name (Unit {0})) → IfGives (Then y (Gone p)) d
  unfolding aimed
  sent_gone y p d = if_all (Then y (Gone p)) (λ t. doomed_there nowhere) d

  pub sent : (y : Value Name) (p : Place Name) → Waiting p → Honest p → IfGives (Then y p) (refs.send_to (names script v) settle m y p s)
  unfolding refs.send_to
  sent y Near f g = sent_near y
  sent y (Mine n) f g = sent_mine y n f
  sent y (Away h n o) f g = sent_away y h n o g
  sent y (Gone p) f g = sent_gone y p (refs.send_to (names script v) settle m y (Gone p) s)

pub sent_messages_are_ahead : SentMessagesAreAhead
sent_messages_are_ahead = λ script honest w v r s settle m y at here g f. sent script honest w v r s settle m at here y (refs.place (names script v) s y) f g
