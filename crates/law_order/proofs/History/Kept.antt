-- A small step keeps what the history tells of places.
use Rattle.std.proofs.Common.{◌≡◌, ℕ, zero, suc, ◌+◌, ◌≤◌, ◌<◌, Bool, true, false, not, List, [], ◌++◌, Option, Some, None, length, refl, sym, ap, ◌∙◌, subst, ◌⊎◌, inl, inr, ◌||◌, arith, nat_le}
use Rattle.std.proofs.lemmas.Bool.{leb-true}
use Rattle.def_machine.specs.Values.{Value, Name, Ref, same_name}
use Rattle.def_machine.specs.State.{Message, Passeds, Delivery, Note, Took}
use Rattle.def_run.specs.World.{Script, Event, Here, World}
use Rattle.law_fate.specs.Name.Names.{IsAmong}
use Rattle.law_order.specs.Ordering.Ways.{Lane, Queue, Held, Item, Place, Nowhere, Free, End, Mid, Ahead}
use Rattle.law_order.specs.Ordering.Messages.{StandsAt}
use Rattle.law_order.specs.Ordering.Places.{leads, ways}
use Rattle.law_order.specs.Ordering.Order.{Coming, Reach, comes, reached, all_pass_as, is_before, keeps_order, taken_after, is_object, object_takes_it}
use Rattle.law_order.proofs.Ordering.Named.{same_is}
use Rattle.law_order.proofs.Ordering.Lanes.{Same, same_lane}
use Rattle.law_order.proofs.Ordering.Queues.{queues_are_free}
use Rattle.law_order.specs.History.Laws.{SmallStepsKeep}
use Rattle.law_order.specs.History.Lines.{with_first, was_taken, was_sent}
use Rattle.law_order.specs.History.Befores as befores
use Rattle.law_order.specs.History.Befores.{Brings, passing_place, up_to, IsBroughtFrom, in_lane, apart, CameBehind, TellsOrder}
use Rattle.law_order.specs.History.Told.{IsTold}
use Rattle.law_order.specs.History.Tells as tells
use Rattle.law_order.specs.History.Tells.{IsSource, held_there, learnt_now, IsStillBrought, IsPutNow, IsSentOnNow, IsStillHeld, IsHeldNow, IsSentNow, Arrives, IsToldBy, SmallStep}
use Rattle.law_order.proofs.History.Lines.{among_either, added, sent_by, and_first, and_second, some_is, reached_more, comes_stays, comes_now, line_by, line_below, before_more, before_was_sent}
use Rattle.law_order.proofs.History.Reaches.{SentReach, LearntReach, SentBehind, new_reach, sent_behind}
use Rattle.law_order.proofs.History.Takes.{taken_stays, untaken_by_object, untaken_is_after, after_more, taken_by, objects_first}

-- ---- what a message would bring

-- of each place something is brought
brought_from : (l : Lane) (b : List Item) (c : Place) → (k : Place) × IsBroughtFrom l b c k
brought_from l b (End h n) = go (same_lane h l)
  where
    go : Same h l → (k : Place) × IsBroughtFrom l b (End h n) k
    go (inl e) = subst (λ j. (k : Place) × IsBroughtFrom l b (End j n) k) (sym e) (Mid l b n, in_lane)
    go (inr f) = (End h n, apart (λ m e. f (ap lane_of e)))
      where
        lane_of : Place → Lane
        lane_of (End i m) = i
        lane_of other = l
brought_from l b Nowhere = (Nowhere, apart (λ m e. cc))
brought_from l b Free = (Free, apart (λ m e. cc))
brought_from l b (Mid h c n) = (Mid h c n, apart (λ m e. cc))

module _ (script : Script) (honest : ℕ → Bool) (x y : World) (so_far : IsTold script x.history) (T : TellsOrder script honest x) (S : SmallStep script honest x y) where
  abbrev Before : Name → Place → Type 0
  Before a c = befores.IsBehind script honest x a c

  abbrev Behind : Name → Place → Type 0
  Behind a c = befores.IsBehind script honest y a c

  abbrev Keeps : Name → Place → Place → Type 0
  Keeps a c d = tells.Keeps script honest x y a c d

  abbrev Stands : Name → Lane → List Item → Name → Type 0
  Stands b l c n = StandsAt (ways script honest y) b l c n

  carry_on : (a : Name) (c d : Place) → Before a c → Keeps a c d → Behind a d
  carry_on a c d (inl t) k = inl (subst (λ h. was_taken a h ≡ true) (sym S.lines) (taken_stays a x.history (with_first S.line S.quiet) t))
  carry_on a c d (inr h) k = k h

  -- ---- what the new lines tell

  abbrev Added : Name → Reach → Type 0
  Added a r = SentReach a x.history S.line r ⊎ LearntReach x.history (reached a x.history) S.line r

  split_reach : (a : Name) (r : Reach) → IsAmong r (reached a y.history) → IsAmong r (reached a x.history) ⊎ Added a r
  split_reach a r h = elim (among_either r (reached a x.history) (added a x.history (reached a x.history) S.line) grown) [
    | inl i ↦ inl i
    | inr i ↦ inr (new_reach a x.history (reached a x.history) S.line r i)
  ]
    where
      grown : IsAmong r (reached a x.history ++ added a x.history (reached a x.history) S.line)
      grown = subst (λ rs. IsAmong r rs) (ap (reached a) S.lines ∙ reached_more a x.history S.line S.quiet S.all_quiet) h

  -- a new reference is reached no sooner than the new lines begin
  added_late : (a : Name) (r : Reach) → Added a r → length x.history ≤ r.since
  added_late a r (inl s) = let e : r.since ≡ suc (length x.history) = ap (λ (q : Reach). q.since) s.is in omega arith
  added_late a r (inr s) = let e : r.since ≡ length x.history = ap (λ (q : Reach). q.since) s.is in omega arith

  came_stays : (v : ℕ) (d : Name) (c : Coming) → comes v d zero x.history ≡ Some c → comes v d zero y.history ≡ Some c
  came_stays v d c e = subst (λ h. comes v d zero h ≡ Some c) (sym S.lines) (comes_stays v d zero x.history (with_first S.line S.quiet) c e)

  -- What came before came behind what was reached before.
  old_behind : (a : Name) (v : ℕ) (d : Name) (b c : Coming) (r : Reach) → comes v d zero x.history ≡ Some b → CameBehind y.history a v d c r → (b ≡ c) × CameBehind x.history a v d b r
  old_behind a v d b c r e h = (same, record { came = e; reach = elim (split_reach a r h.reach) [ inl i ↦ i | inr i ↦ absurd (late i) ]; there = h.there; since = since })
    where
      same : b ≡ c
      same = some_is b c (sym (came_stays v d b e) ∙ h.came)

      since : nat_le r.since b.line ≡ true
      since = subst (λ (k : Coming). nat_le r.since k.line ≡ true) (sym same) h.since

      late : Added a r → ⊥
      late i =
          let f : length x.history ≤ r.since = added_late a r i in
          let g : r.since ≤ b.line = leb-true r.since b.line since in
          let k : b.line < zero + length x.history = line_below v d zero x.history b e in
          omega arith

  -- ---- the note that arrives

  arriving : (a : Name) (r : Reach) (s : LearntReach x.history (reached a x.history) S.line r) → Arrives script honest x y s.from s.to s.carried s.aim s.args
  arriving a r s = subst (λ o. IsToldBy script honest x y o) s.line S.told

  brought : (a : Name) (r : Reach) (s : LearntReach x.history (reached a x.history) S.line r) → Before a (passing_place s.from s.to [] s.carried s.aim s.name)
  brought a r s = (T.first a).passings s.from s.to [] s.carried s.aim s.args (arriving a r s).brings s.coming s.old (record { came = s.came; reach = s.among; there = s.there; since = s.since }) x.history so_far s.name s.passes

  -- Where a message came in this step, what it carries had a place before, and what reached that is ahead of it.
  record Source (a : Name) (v : ℕ) (n : Name) : Type 0 where
    pub place : Place
    pub source : IsSource script honest x y S.line v n place
    pub behind : Before a place

  source_of : (a : Name) (v : ℕ) (d : Name) (c : Coming) (r : Reach) → comes v d zero x.history ≡ None → CameBehind y.history a v d c r → Source a v r.name
  source_of a v d c r e h = go (split_reach a r h.reach)
    where
      now : c.line ≡ length x.history
      now = line_by v d (length x.history) S.line c (sym (comes_now v d x.history S.line S.quiet S.all_quiet e) ∙ ap (comes v d zero) (sym S.lines) ∙ h.came)

      held : IsAmong r (reached a x.history) → Source a v r.name
      held i = record { place = leads script honest x.vats x.links v (Ref r.name); source = held_there; behind = subst (λ u. Before a (leads script honest x.vats x.links u (Ref r.name))) h.there ((T.first a).references r i) }

      sent : SentReach a x.history S.line r → ⊥
      sent s =
          let f : r.since ≡ suc (length x.history) = ap (λ (q : Reach). q.since) s.is in
          let g : r.since ≤ c.line = leb-true r.since c.line h.since in
          omega (arith, now)

      learnt : LearntReach x.history (reached a x.history) S.line r → Source a v r.name
      learnt s =
          let to : s.to ≡ v = ap (λ (q : Reach). q.vat) (sym s.is) ∙ h.there in
          let named : s.name ≡ r.name = ap (λ (q : Reach). q.name) (sym s.is) in
          subst (λ u. Source a u r.name) to (subst (λ n. Source a s.to n) named (record { place = passing_place s.from s.to [] s.carried s.aim s.name; source = learnt_now s.line; behind = brought a r s }))

      go : IsAmong r (reached a x.history) ⊎ Added a r → Source a v r.name
      go (inl i) = held i
      go (inr (inl s)) = absurd (sent s)
      go (inr (inr s)) = learnt s

  -- ---- the invariant

  references : (a : Name) (r : Reach) → IsAmong r (reached a y.history) → Behind a (leads script honest y.vats y.links r.vat (Ref r.name))
  references a r h = go (split_reach a r h)
    where
      sent : SentReach a x.history S.line r → Behind a (leads script honest y.vats y.links r.vat (Ref r.name))
      sent s =
          let t : IsSentNow script honest x y s.vat s.sent = subst (λ o. IsToldBy script honest x y o) s.line S.told in
          let h : Ahead (ways script honest y) a (leads script honest y.vats y.links s.vat (Ref s.name)) = subst (λ m. Ahead (ways script honest y) m (leads script honest y.vats y.links s.vat (Ref s.name))) s.id (t.ahead s.name s.target) in
          subst (λ (q : Reach). Behind a (leads script honest y.vats y.links q.vat (Ref q.name))) (sym s.is) (inr h)

      learnt : LearntReach x.history (reached a x.history) S.line r → Behind a (leads script honest y.vats y.links r.vat (Ref r.name))
      learnt s = subst (λ (q : Reach). Behind a (leads script honest y.vats y.links q.vat (Ref q.name))) (sym s.is) (carry_on a (passing_place s.from s.to [] s.carried s.aim s.name) (leads script honest y.vats y.links s.to (Ref s.name)) (brought a r s) ((arriving a r s).learnt a s.name))

      go : IsAmong r (reached a x.history) ⊎ Added a r → Behind a (leads script honest y.vats y.links r.vat (Ref r.name))
      go (inl i) = carry_on a (leads script honest x.vats x.links r.vat (Ref r.name)) (leads script honest y.vats y.links r.vat (Ref r.name)) ((T.first a).references r i) (S.references a r.name r.vat)
      go (inr (inl s)) = sent s
      go (inr (inr s)) = learnt s

  -- the message b is behind a by the lines before, or it is sent in the new one
  split_before : (a b : Name) → is_before a b y.history ≡ true → (is_before a b x.history ≡ true) ⊎ SentBehind b (reached a x.history) S.line
  split_before a b h = go (is_before a b x.history) S.line refl refl (sym (ap (is_before a b) S.lines ∙ before_more a b x.history S.line S.quiet S.all_quiet) ∙ h)
    where
      go : (t : Bool) (o : Option Event) → is_before a b x.history ≡ t → S.line ≡ o → (t || sent_by b (reached a x.history) S.line) ≡ true → (is_before a b x.history ≡ true) ⊎ SentBehind b (reached a x.history) S.line
      go true o e f i = inl e
      go false None e f i = absurd (let j : ◌≡◌ {A = Bool} false true = subst (λ z. sent_by b (reached a x.history) z ≡ true) f i in cc)
      go false (Some l) e f i = inr (subst (λ z. SentBehind b (reached a x.history) z) (sym f) (sent_behind b (reached a x.history) l (subst (λ z. sent_by b (reached a x.history) z ≡ true) f i)))

  messages : (a b : Name) → is_before a b y.history ≡ true → (l : Lane) (c : List Item) (n : Name) → Stands b l c n → Behind a (Mid l c n)
  messages a b h l c n s = go (split_before a b h)
    where
      old : is_before a b x.history ≡ true → Behind a (Mid l c n)
      old i = elim (S.messages b l c n s) [
        | inl k ↦ carry_on a (Mid k.lane k.before k.aim) (Mid l c n) ((T.first a).messages b i k.lane k.before k.aim k.stood) (k.keeps a)
        | inr u ↦ absurd (let t : was_sent b x.history ≡ true = before_was_sent a b x.history i in cc)
      ]

      new : SentBehind b (reached a x.history) S.line → Behind a (Mid l c n)
      new k =
          let t : IsSentNow script honest x y k.vat k.sent = subst (λ o. IsToldBy script honest x y o) k.line S.told in
          let p : Before a (leads script honest x.vats x.links k.vat (Ref k.name)) = subst (λ m. Before a (leads script honest x.vats x.links k.vat (Ref m))) k.named (subst (λ u. Before a (leads script honest x.vats x.links u (Ref k.reach.name))) k.there ((T.first a).references k.reach k.among)) in
          carry_on a (leads script honest x.vats x.links k.vat (Ref k.name)) (Mid l c n) p (t.behind k.name a l c n k.target (subst (λ m. Stands m l c n) (sym k.id) s))

      go : (is_before a b x.history ≡ true) ⊎ SentBehind b (reached a x.history) S.line → Behind a (Mid l c n)
      go (inl i) = old i
      go (inr k) = new k

  passings : (a : Name) (u v : ℕ) (front : List (Note Name)) (d : Delivery Name) (n : Name) (ys : Passeds Name) → Brings y u v front d n ys
      → (c : Coming) (r : Reach) → CameBehind y.history a u d.message c r
      → (done : List Event) → IsTold script done → (m : Name) → IsAmong m (all_pass_as u done r.name ys c.args) → Behind a (passing_place u v front d n m)
  passings a u v front d n ys b c r h done told m i = go (S.passings u v front d n ys b)
    where
      still : IsStillBrought script honest x y u v front d n ys → Behind a (passing_place u v front d n m)
      still k =
          let t = T.comings u v k.before d n ys k.brings in
          let o = old_behind a u d.message t.0 c r t.1 h in
          let j : IsAmong m (all_pass_as u done r.name ys t.0.args) = subst (λ (z : Coming). IsAmong m (all_pass_as u done r.name ys z.args)) (sym o.0) i in
          carry_on a (passing_place u v k.before d n m) (passing_place u v front d n m) ((T.first a).passings u v k.before d n ys k.brings t.0 r o.1 done told m j) (k.keeps a m)

      now : IsPutNow script honest x y S.line u v front d n ys → Behind a (passing_place u v front d n m)
      now k =
          let f = source_of a u d.message c r k.new h in
          let e : c ≡ k.coming = some_is c k.coming (sym h.came ∙ k.came) in
          carry_on a f.place (passing_place u v front d n m) f.behind (k.keeps done told a r.name m f.place f.source (subst (λ (z : Coming). IsAmong m (all_pass_as u done r.name ys z.args)) e i))

      late : IsSentOnNow script honest x y u v front d n ys → Behind a (passing_place u v front d n m)
      late k =
          let o = old_behind a u d.message k.coming c r k.came h in
          let f = brought_from (Held u k.held_for) (up_to k.before d.message k.aim) (leads script honest x.vats x.links u (Ref r.name)) in
          carry_on a f.0 (passing_place u v front d n m) ((T.first a).carriers u k.held_for d.message k.aim k.before k.stood k.coming r o.1 f.0 f.1) (k.keeps done told a r.name m f.0 f.1 (subst (λ (z : Coming). IsAmong m (all_pass_as u done r.name ys z.args)) (sym o.0) i))

      go : IsStillBrought script honest x y u v front d n ys ⊎ (IsPutNow script honest x y S.line u v front d n ys ⊎ IsSentOnNow script honest x y u v front d n ys) → Behind a (passing_place u v front d n m)
      go (inl k) = still k
      go (inr (inl k)) = now k
      go (inr (inr k)) = late k

  carriers : (a : Name) (v : ℕ) (p d q : Name) (b : List Item) → Stands d (Held v p) b q
      → (c : Coming) (r : Reach) → CameBehind y.history a v d c r
      → (k : Place) → IsBroughtFrom (Held v p) (up_to b d q) (leads script honest y.vats y.links v (Ref r.name)) k → Behind a k
  carriers a v p d q b s c r h k i = go (S.carriers v p d q b s)
    where
      still : IsStillHeld script honest x y v p d (up_to b d q) → Behind a k
      still j =
          let t = T.held v p d j.aim j.before j.stood in
          let o = old_behind a v d t.0 c r t.1 h in
          let f = brought_from (Held v p) (up_to j.before d j.aim) (leads script honest x.vats x.links v (Ref r.name)) in
          carry_on a f.0 k ((T.first a).carriers v p d j.aim j.before j.stood t.0 r o.1 f.0 f.1) (j.keeps a r.name f.0 k f.1 i)

      now : IsHeldNow script honest x y S.line v p d (up_to b d q) → Behind a k
      now j = let f = source_of a v d c r j.new h in carry_on a f.place k f.behind (j.keeps a r.name f.place k f.source i)

      go : IsStillHeld script honest x y v p d (up_to b d q) ⊎ IsHeldNow script honest x y S.line v p d (up_to b d q) → Behind a k
      go (inl j) = still j
      go (inr j) = now j

  comings : (u v : ℕ) (front : List (Note Name)) (d : Delivery Name) (n : Name) (ys : Passeds Name) → Brings y u v front d n ys → (c : Coming) × (comes u d.message zero y.history ≡ Some c)
  comings u v front d n ys b = go (S.passings u v front d n ys b)
    where
      go : IsStillBrought script honest x y u v front d n ys ⊎ (IsPutNow script honest x y S.line u v front d n ys ⊎ IsSentOnNow script honest x y u v front d n ys) → (c : Coming) × (comes u d.message zero y.history ≡ Some c)
      go (inl k) = let t = T.comings u v k.before d n ys k.brings in (t.0, came_stays u d.message t.0 t.1)
      go (inr (inl k)) = (k.coming, k.came)
      go (inr (inr k)) = (k.coming, came_stays u d.message k.coming k.came)

  held : (v : ℕ) (p d q : Name) (b : List Item) → Stands d (Held v p) b q → (c : Coming) × (comes v d zero y.history ≡ Some c)
  held v p d q b s = go (S.carriers v p d q b s)
    where
      go : IsStillHeld script honest x y v p d (up_to b d q) ⊎ IsHeldNow script honest x y S.line v p d (up_to b d q) → (c : Coming) × (comes v d zero y.history ≡ Some c)
      go (inl j) = let t = T.held v p d j.aim j.before j.stood in (t.0, came_stays v d t.0 t.1)
      go (inr j) = (j.coming, j.came)

  -- ---- order

  keeps_if : (s t : Bool) → (s ≡ true → t ≡ true) → (not s || t) ≡ true
  keeps_if true t f = f refl
  keeps_if false t f = refl

  kept_if : (s t : Bool) → (not s || t) ≡ true → s ≡ true → t ≡ true
  kept_if true t h e = h
  kept_if false t h e = absurd (cc)

  -- an object takes it in that line
  record TakenNow (b : Name) : Type 0 where
    pub vat : ℕ
    pub act : ℕ
    pub taken : Message Name
    pub name : Name
    pub line : S.line ≡ Some (Here vat (Took act taken))
    pub id : taken.id ≡ b
    pub target : taken.target ≡ Ref name

  object_is : (t : Value Name) → is_object t ≡ true → (n : Name) × (t ≡ Ref n)
  unfolding is_object
  object_is (Ref n) h = (n, refl)
  object_is other h = absurd (cc)

  taken_now_in : (b : Name) (e : Event) → S.line ≡ Some e → object_takes_it b e ≡ true → TakenNow b
  unfolding object_takes_it
  taken_now_in b (Here v (Took act m)) f h =
      let k = object_is m.target (and_second (same_name m.id b) (is_object m.target) h) in
      record { vat = v; act = act; taken = m; name = k.0; line = f; id = same_is m.id b (and_first (same_name m.id b) (is_object m.target) h); target = k.1 }
  taken_now_in b other f h = absurd (cc)

  taken_now : (b : Name) (o : Option Event) → S.line ≡ o → taken_by b o ≡ true → TakenNow b
  taken_now b None f h = absurd (cc)
  taken_now b (Some e) f h = taken_now_in b e f h

  -- What an object takes stands first in its queue, so nothing is ahead of it.
  taken_after_all : (a b : Name) → is_before a b x.history ≡ true → TakenNow b → was_taken a x.history ≡ true
  taken_after_all a b h k = elim ((T.first a).messages b h (Queue k.vat) [] k.name stood) [
    | inl t ↦ t
    | inr t ↦ absurd ((queues_are_free script honest x k.vat k.name).0 a t)
  ]
    where
      stood : StandsAt (ways script honest x) b (Queue k.vat) [] k.name
      stood = subst (λ m. StandsAt (ways script honest x) m (Queue k.vat) [] k.name) k.id ((subst (λ o. IsToldBy script honest x y o) k.line S.told) k.name k.target)

  old_order : (a b : Name) → is_before a b x.history ≡ true → taken_after a b x.history ≡ true
  unfolding keeps_order
  old_order a b h = kept_if (is_before a b x.history) (taken_after a b x.history) (T.ordered a b) h

  still_after : (a b : Name) → is_before a b x.history ≡ true → taken_after a b (x.history ++ with_first S.line S.quiet) ≡ true
  still_after a b h = go (taken_by b S.line) refl
    where
      go : (t : Bool) → taken_by b S.line ≡ t → taken_after a b (x.history ++ with_first S.line S.quiet) ≡ true
      go true e = after_more a b x.history (with_first S.line S.quiet) (old_order a b h) (inl (taken_after_all a b h (taken_now b S.line refl e)))
      go false e = after_more a b x.history (with_first S.line S.quiet) (old_order a b h) (inr (untaken_is_after a b (with_first S.line S.quiet) (objects_first b S.line S.quiet S.all_quiet ∙ e)))

  new_after : (a b : Name) → SentBehind b (reached a x.history) S.line → taken_after a b (x.history ++ with_first S.line S.quiet) ≡ true
  unfolding object_takes_it
  new_after a b k = after_more a b x.history (with_first S.line S.quiet) (untaken_is_after a b x.history (untaken_by_object b x.history untaken)) (inr (untaken_is_after a b (with_first S.line S.quiet) (objects_first b S.line S.quiet S.all_quiet ∙ none)))
    where
      told : IsSentNow script honest x y k.vat k.sent
      told = subst (λ o. IsToldBy script honest x y o) k.line S.told

      untaken : was_taken b x.history ≡ false
      untaken = subst (λ m. was_taken m x.history ≡ false) k.id told.untaken

      none : taken_by b S.line ≡ false
      none = subst (λ o. taken_by b o ≡ false) (sym k.line) refl

  ordered : (a b : Name) → keeps_order y.history a b ≡ true
  unfolding keeps_order
  ordered a b = keeps_if (is_before a b y.history) (taken_after a b y.history) (λ h. subst (λ es. taken_after a b es ≡ true) (sym S.lines) (elim (split_before a b h) [ inl i ↦ still_after a b i | inr k ↦ new_after a b k ]))

  pub small_step : TellsOrder script honest y
  small_step = record {
    first = λ a. record { references = references a; messages = messages a; passings = passings a; carriers = carriers a };
    comings = comings;
    held = held;
    ordered = ordered;
  }

pub small_steps_keep : SmallStepsKeep
small_steps_keep = λ script honest x y so_far T S. small_step script honest x y so_far T S
