-- As the first message of a lane leaves, each other stands where it stood, or one nearer to the front.
use Rattle.std.proofs.Common.{◌≡◌, ℕ, Bool, true, false, List, [], ◌∷◌, ◌++◌, Some, None, refl, sym, ap, subst, ◌∙◌, ◌⊎◌, inl, inr}
use Rattle.std.proofs.lemmas.List.{append-nil, append_assoc}
use Rattle.std.specs.Prelude.{slice_get}
use Rattle.def_machine.specs.Values.{Words, Ref, Name}
use Rattle.def_machine.specs.State.{Message, Passeds, Delivery, Note, Deliver, Vat}
use Rattle.def_machine.specs.Refs as refs
use Rattle.def_run.specs.World.{Script, Link, World, names}
use Rattle.def_run.specs.World as world
use Rattle.law_order.specs.Ordering.Ways.{Lane, Queue, Held, Way, Item, Place, End, Mid, Ways, IsIn}
use Rattle.law_order.specs.Ordering.Changes.{Beheads, stays, nearer, Lacks}
use Rattle.law_order.specs.Ordering.Places.{item, queued, held_in, delivered, is_honest, stands_at, ways_of, ways, amid}
use Rattle.law_order.specs.Ordering.Messages.{More, StandsAt, StandsOnce, stands_not}
use Rattle.law_order.specs.Ordering.Worlds.{AddsOnly}
use Rattle.law_order.specs.Ordering.Arrivals.{in_front, keeping, IsOpenWay}
use Rattle.law_order.specs.Ordering.Leavings.{FirstLeft, FirstLeftKeeps, TakenIsFirst, TakenIsNowhere, CarriedIsFirst}
use Rattle.law_order.proofs.Ordering.Amid as amid_proofs
use Rattle.law_order.specs.Ordering.Comings.{CarriedArePutLast}
use Rattle.law_order.proofs.Ordering.Arrived.{all_open, carried_messages_are_put_on}
use Rattle.law_order.proofs.Ordering.Messages.{gone_on_is_behind}
use Rattle.law_order.proofs.Ordering.Comings.{put_on, note_open}
use Rattle.law_order.proofs.Ordering.Lanes.{Same, other_of, same_lane}
use Rattle.law_order.proofs.Ordering.OrderPassing.{Found, here, apart, none, found}
use Rattle.law_order.proofs.Ordering.OrderKeeping.{all_put_on}
use Rattle.law_order.proofs.Ordering.Pushing.{push_append}
use Rattle.law_order.proofs.Ordering.Sends.{found_ends, link_here, link_behind, ends_of}
use Rattle.law_order.proofs.Ordering.Standing.{OnLink, Row, rows_more, stands_more, queue_is, queue_more, held_more, way_more}

-- ---- the first leaves

head : Item → List Item → Item
head i [] = i
head i (j ∷ js) = j

tail : List Item → List Item
tail [] = []
tail (j ∷ js) = js

module _ (w u : Ways) (k : Lane) (i : Item) (g : FirstLeft w u k i) (m : Name) (n : Name) where
  abbrev Fate : Lane → List Item → Type 0
  Fate l b = ((l ≡ k) × (b ≡ []) × (item m n ≡ i)) ⊎ ((c : List Item) × Beheads k i (Mid l b n) (Mid l c n) × StandsAt u m l c n)

  in_lane : (b : List Item) → StandsAt w m k b n → Fate k b
  unfolding head tail
  in_lane [] h = inl (refl, refl, ap (λ z. head i z) (sym h.found ∙ g.first))
  in_lane (j ∷ b) h =
      let split : i ∷ g.rest ≡ j ∷ (b ++ item m n ∷ h.behind) = sym g.first ∙ h.found in
      let same : j ≡ i = sym (ap (λ z. head i z) split) in
      inr (
        b,
        subst (λ z. Beheads k i (Mid k (z ∷ b) n) (Mid k b n)) (sym same) nearer,
        record { behind = h.behind ++ g.after.0; found = g.after.1 ∙ ap (λ z. tail z ++ g.after.0) split ∙ append_assoc b (item m n ∷ h.behind) g.after.0 },
      )

  fate : (l : Lane) (b : List Item) → StandsAt w m l b n → Same l k → Fate l b
  fate l b h (inl e) = subst (λ z. Fate z b) (sym e) (in_lane b (subst (λ z. StandsAt w m z b n) e h))
  fate l b h (inr e) = inr (b, stays, stands_more w u m l b n (g.others l e) h)

pub first_left_keeps : FirstLeftKeeps
first_left_keeps = λ w u k i g m l b n h. fate w u k i g m n l b h (same_lane l k)

-- ---- one is taken

module _ (script : Script) (honest : ℕ → Bool) (w : World) (v : ℕ) (r s : Vat Name) (m : Message Name) (ms : List (Message Name)) (n : Name) (at : slice_get w.vats v ≡ Some r) (first : s.queue ≡ m ∷ ms) (on : m.target ≡ Ref n) where
  abbrev Taken : Vat Name
  Taken = record s { queue = ms }

  others_stand : (l : Lane) → (l ≡ Queue v → ⊥) → More (ways script honest (amid v s w)) (ways script honest (amid v Taken w)) l
  others_stand (Queue u) f = queue_more script honest w v s Taken u (λ e. absurd (f (ap Queue e)))
  others_stand (Held u p) f = held_more script honest w v s Taken u p (λ e. ([], sym (append-nil (held_in p (refs.entry_of (names script v) s.known p)))))
  others_stand (Way a b) f = way_more script honest w v s Taken [] (sym (append-nil s.outbox)) a b

  taken_first : FirstLeft (ways script honest (amid v s w)) (ways script honest (amid v Taken w)) (Queue v) (item m.id n)
  taken_first = record {
    rest = queued ms;
    first = queue_is script honest w v r at s ∙ amid_proofs.queue_is script honest w v s m ms n first on;
    after = ([], queue_is script honest w v r at Taken ∙ sym (append-nil (queued ms)));
    others = λ l f. others_stand l f;
  }

pub taken_is_first : TakenIsFirst
taken_is_first = λ script honest w v r s m ms n at first on. taken_first script honest w v r s m ms n at first on

in_split : (i : Item) (js : List Item) → IsIn i js → (b : List Item) × (rest : List Item) × (js ≡ b ++ i ∷ rest)
in_split i [] h = absurd h
in_split i (j ∷ js) (inl e) = ([], js, ap (λ z. z ∷ js) (sym e))
in_split i (j ∷ js) (inr h) = let f = in_split i js h in (j ∷ f.0, f.1, ap (λ z. j ∷ z) f.2)

abbrev lane_in : Lane → Place → Lane
lane_in k (Mid l b n) = l
lane_in k (End l n) = l
lane_in k other = k

abbrev front_in : Place → List Item
front_in (Mid l b n) = b
front_in other = []

abbrev IsEmpty : List Item → Type 0
IsEmpty [] = Unit {0}
IsEmpty (j ∷ js) = ⊥

module _ (script : Script) (honest : ℕ → Bool) (w : World) (v : ℕ) (r s : Vat Name) (m : Message Name) (ms : List (Message Name)) (n : Name) (at : slice_get w.vats v ≡ Some r) (first : s.queue ≡ m ∷ ms) (on : m.target ≡ Ref n) (once : StandsOnce (ways script honest (amid v s w)) m.id) where
  abbrev W : Vat Name → Ways
  W t = ways script honest (amid v t w)

  abbrev Then : Vat Name
  Then = record s { queue = ms }

  queue_same : (u : ℕ) → (u ≡ v → ⊥) → Found v s Then w.vats u → (W Then).stands (Queue u) ≡ (W s).stands (Queue u)
  unfolding ways ways_of stands_at amid
  queue_same u f (here e i j) = absurd (f e)
  queue_same u f (apart e i) = ap (λ o. elim o [ Some q ↦ queued q.queue | None ↦ [] ]) i
  queue_same u f (none i j) = ap (λ o. elim o [ Some q ↦ queued q.queue | None ↦ [] ]) (j ∙ sym i)

  held_same : (u : ℕ) (p : Name) → Found v s Then w.vats u → (W Then).stands (Held u p) ≡ (W s).stands (Held u p)
  unfolding ways ways_of stands_at amid
  held_same u p (here e i j) = ap (λ o. elim o [ Some q ↦ held_in p (refs.entry_of (names script u) q.known p) | None ↦ [] ]) j ∙ sym (ap (λ o. elim o [ Some q ↦ held_in p (refs.entry_of (names script u) q.known p) | None ↦ [] ]) i)
  held_same u p (apart e i) = ap (λ o. elim o [ Some q ↦ held_in p (refs.entry_of (names script u) q.known p) | None ↦ [] ]) i
  held_same u p (none i j) = ap (λ o. elim o [ Some q ↦ held_in p (refs.entry_of (names script u) q.known p) | None ↦ [] ]) (j ∙ sym i)

  way_same : (a b : ℕ) → (W Then).stands (Way a b) ≡ (W s).stands (Way a b)
  unfolding ways ways_of stands_at amid
  way_same a b = refl

  same_stands : (l : Lane) → (l ≡ Queue v → ⊥) → (W Then).stands l ≡ (W s).stands l
  same_stands (Queue u) f = queue_same u (λ e. f (ap Queue e)) (found v s Then w.vats u)
  same_stands (Held u p) f = held_same u p (found v s Then w.vats u)
  same_stands (Way a b) f = way_same a b

  stood_first : (W s).stands (Queue v) ≡ item m.id n ∷ queued ms
  stood_first = queue_is script honest w v r at s ∙ amid_proofs.queue_is script honest w v s m ms n first on

  was_first : StandsAt (W s) m.id (Queue v) [] n
  was_first = record { behind = queued ms; found = stood_first }

  -- were it anywhere still, it would have stood twice
  not_behind : (o : Name) → IsIn (item m.id o) (queued ms) → ⊥
  not_behind o j =
      let f = in_split (item m.id o) (queued ms) j in
      let again : StandsAt (W s) m.id (Queue v) (item m.id n ∷ f.0) o = record { behind = f.1; found = stood_first ∙ ap (λ z. item m.id n ∷ z) f.2 } in
      subst IsEmpty (ap (λ c. front_in c) (sym (once (Queue v) (Queue v) [] (item m.id n ∷ f.0) n o was_first again))) tt

  not_apart : (l : Lane) (o : Name) → (l ≡ Queue v → ⊥) → IsIn (item m.id o) ((W s).stands l) → ⊥
  not_apart l o e j =
      let f = in_split (item m.id o) ((W s).stands l) j in
      let again : StandsAt (W s) m.id l f.0 o = record { behind = f.1; found = f.2 } in
      e (ap (λ c. lane_in l c) (once (Queue v) l [] f.0 n o was_first again))

  lacks_in : (l : Lane) → Same l (Queue v) → Lacks m.id ((W Then).stands l)
  lacks_in l (inl e) = λ o j. not_behind o (subst (IsIn (item m.id o)) (queue_is script honest w v r at Then) (subst (λ z. IsIn (item m.id o) ((W Then).stands z)) e j))
  lacks_in l (inr e) = λ o j. not_apart l o e (subst (IsIn (item m.id o)) (same_stands l e) j)

pub taken_is_nowhere : TakenIsNowhere
taken_is_nowhere = λ script honest w v r s m ms n at first on once. stands_not (λ l. lacks_in script honest w v r s m ms n at first on once l (same_lane l (Queue v)))

-- ---- one arrives

module _ (script : Script) (honest : ℕ → Bool) (a b : ℕ) (m : Delivery Name) (n : Name) (verb : Words) (ys : Passeds Name) where
  abbrev D : Note Name
  D = Deliver m n verb ys

  front_ends : (x y : ℕ) (k : Link) → world.is_link x y (in_front D k) ≡ world.is_link x y k
  unfolding in_front world.is_link
  front_ends x y k = refl

  row_apart : (x y : ℕ) → (Way x y ≡ Way a b → ⊥) → (ls : List Link) → Row script honest (world.link_at x y (world.with_link (in_front D) a b ls)) ≡ Row script honest (world.link_at x y ls)
  unfolding world.with_link world.link_at
  row_apart x y f [] = refl
  row_apart x y f (k ∷ ls) = go (row_apart x y f ls) (world.is_link x y k) (world.is_link a b k) refl refl
    where
      go : Row script honest (world.link_at x y (world.with_link (in_front D) a b ls)) ≡ Row script honest (world.link_at x y ls) → (c d : Bool) → world.is_link x y k ≡ c → world.is_link a b k ≡ d
          → Row script honest (world.link_at x y (elim d [ true ↦ in_front D k ∷ ls | false ↦ k ∷ world.with_link (in_front D) a b ls ])) ≡ Row script honest (elim c [ true ↦ Some k | false ↦ world.link_at x y ls ])
      go h true true e i = let p = ends_of x y k e in let q = ends_of a b k i in absurd (f (ap (λ z. Way z y) (sym p.0 ∙ q.0) ∙ ap (λ z. Way a z) (sym p.1 ∙ q.1)))
      go h true false e i = ap (λ o. Row script honest o) (link_here x y k (world.with_link (in_front D) a b ls) e)
      go h false true e i = ap (λ o. Row script honest o) (link_behind x y (in_front D k) ls (front_ends x y k ∙ e))
      go h false false e i = ap (λ o. Row script honest o) (link_behind x y k (world.with_link (in_front D) a b ls) e) ∙ h

  front_row : (l : Link) → is_honest script honest l ≡ true → OnLink script honest (in_front D l) ≡ item m.message n ∷ OnLink script honest l
  unfolding in_front is_honest delivered
  front_row l e = ap (λ c. elim c [ true ↦ item m.message n ∷ delivered l.notes | false ↦ [] ]) e ∙ ap (λ c. item m.message n ∷ elim c [ true ↦ delivered l.notes | false ↦ [] ]) (sym e)

  row_front : (ls : List Link) (l : Link) → world.link_at a b ls ≡ Some l → is_honest script honest l ≡ true → Row script honest (world.link_at a b (world.with_link (in_front D) a b ls)) ≡ item m.message n ∷ Row script honest (world.link_at a b ls)
  row_front ls l e h = ap (λ o. Row script honest o) (put_on script honest (in_front D) a b (λ k. front_ends a b k) ls (Some l) e) ∙ front_row l h ∙ ap (λ o. item m.message n ∷ Row script honest o) (sym e)

  module _ (w : World) (s t : Vat Name) (way : IsOpenWay honest a b w) (g : AddsOnly (names script b) s t) where
    abbrev From : Ways
    From = ways script honest (amid b s (keeping a b D w))

    abbrev To : Ways
    To = ways script honest (amid b t w)

    abbrev Before : List Link
    Before = world.push_all b s.outbox w.links

    both_honest : (l : Link) → l.from ≡ a → l.to ≡ b → is_honest script honest l ≡ true
    unfolding is_honest
    both_honest l e f = rw e (rw f (rw way.sender way.receiver))

    from_way : (x y : ℕ) → From.stands (Way x y) ≡ Row script honest (world.link_at x y (world.with_link (in_front D) a b Before))
    unfolding ways ways_of stands_at amid keeping
    from_way x y = ap (λ ls. Row script honest (world.link_at x y ls)) (all_put_on a b b D s.outbox w.links)

    to_way : (x y : ℕ) → (js : List Item) × (To.stands (Way x y) ≡ Row script honest (world.link_at x y Before) ++ js)
    unfolding ways ways_of stands_at amid
    to_way x y = let f = rows_more script honest x y b g.notes.0 Before in (f.0, ap (λ ps. Row script honest (world.link_at x y (world.push_all b ps w.links))) g.notes.1 ∙ ap (λ ls. Row script honest (world.link_at x y ls)) (push_append b s.outbox g.notes.0 w.links) ∙ f.1)

    queue_there : (u : ℕ) → More From To (Queue u)
    unfolding ways ways_of stands_at amid keeping
    queue_there u = queue_more script honest w b s t u (λ e. g.queue)

    held_there : (u : ℕ) (p : Name) → More From To (Held u p)
    unfolding ways ways_of stands_at amid keeping
    held_there u p = held_more script honest w b s t u p (λ e. g.held p)

    rest_stands : (l : Lane) → (l ≡ Way a b → ⊥) → More From To l
    rest_stands (Queue u) f = queue_there u
    rest_stands (Held u p) f = held_there u p
    rest_stands (Way x y) f = let h = to_way x y in (h.0, h.1 ∙ ap (λ js. js ++ h.0) (sym (from_way x y ∙ row_apart x y f Before)))

    arrived_first : FirstLeft From To (Way a b) (item m.message n)
    arrived_first =
        let o = all_open a b b s.outbox w.links (way.link, way.found, way.uncut) in
        let e = found_ends a b Before o.0 o.1 in record {
          rest = Row script honest (world.link_at a b Before);
          first = from_way a b ∙ row_front Before o.0 o.1 (both_honest o.0 e.0 e.1);
          after = to_way a b;
          others = λ l f. rest_stands l f;
        }

pub carried_is_first : CarriedIsFirst
carried_is_first = λ script honest w a b s t m n verb ys way g. arrived_first script honest a b m n verb ys w s t way g

-- ---- one is put on

module _ (script : Script) (honest : ℕ → Bool) (a b h : ℕ) (m : Delivery Name) (n q : Name) (verb : Words) (ys zs : Passeds Name) (w : World) (s : Vat Name) (way : IsOpenWay honest a b w) (next : IsOpenWay honest b h w) (other : h ≡ b → ⊥) where
  abbrev Put : Vat Name
  Put = record s { outbox = s.outbox ++ record { to = h; note = Deliver m q verb zs } ∷ [] }

  abbrev Start : Ways
  Start = ways script honest (amid b s (keeping a b (Deliver m n verb ys) w))

  same_there : Start.stands (Way b h) ≡ (ways script honest (amid b s w)).stands (Way b h)
  unfolding ways ways_of stands_at amid keeping
  same_there = ap (λ ls. Row script honest (world.link_at b h ls)) (all_put_on a b b (Deliver m n verb ys) s.outbox w.links)
      ∙ row_apart script honest a b m n verb ys b h (λ e. other (ap (λ l. other_of l) e)) (world.push_all b s.outbox w.links)

  put_last : (ways script honest (amid b Put w)).stands (Way b h) ≡ Start.stands (Way b h) ++ item m.message q ∷ []
  put_last = note_open script honest w b h next.sender next.receiver m q verb zs s Put refl (next.link, next.found, next.uncut) ∙ ap (λ js. js ++ item m.message q ∷ []) (sym same_there)

pub carried_are_put_last : CarriedArePutLast
carried_are_put_last = λ script honest w a b h r s m n q o verb ys zs at way next other learnt away.
    let start = Start script honest a b h m n q verb ys zs w s way next other in
    let put = ways script honest (amid b (Put script honest a b h m n q verb ys zs w s way next other) w) in
    let g = gone_on_is_behind start put (Way a b) (Way b h) (item m.message n) q (carried_messages_are_put_on script honest w a b h r s m n q o verb ys zs at way next learnt away) tt in
    (put_last script honest a b h m n q verb ys zs w s way next other, g.0, g.1)
