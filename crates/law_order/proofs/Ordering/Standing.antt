-- What stands in the lanes of a world, as a vat changes in the middle of a step.
use Rattle.std.proofs.Common.{◌≡◌, ℕ, Bool, true, false, List, [], ◌∷◌, ◌++◌, Option, Some, None, refl, sym, ap, subst, ◌∙◌}
use Rattle.std.proofs.lemmas.List.{append-nil, append_assoc}
use Rattle.std.specs.Prelude.{slice_get, ◌&&◌}
use Rattle.def_machine.specs.Values.{Value, Ref, Name, Naming}
use Rattle.def_machine.specs.State.{Message, Known, Note, Deliver, Put, Vat}
use Rattle.def_machine.specs.Refs as refs
use Rattle.def_run.specs.World.{Script, Link, World, names}
use Rattle.def_run.specs.World as world
use Rattle.law_order.specs.Ordering.Ways.{Lane, Queue, Held, Way, Item, Ways}
use Rattle.law_order.specs.Ordering.Places.{item, queued, held_on, held_in, delivered, is_honest, stands_at, ways_of, ways, amid}
use Rattle.law_order.specs.Ordering.Worlds.{AddsOnly}
use Rattle.law_order.specs.Ordering.Messages.{More, StandsAt}
use Rattle.law_order.proofs.Ordering.OrderPassing.{Found, here, apart, none, found}
use Rattle.law_order.proofs.Ordering.Pushing.{push_append}
use Rattle.law_order.proofs.Ordering.Sends.{pushed_shut, pushed_open, pushed_ends, link_here, link_behind, get_put}

-- ---- lists that grow at their end

abbrev Queueing : Value Name → Name → List Item → List Item
Queueing x m js = elim x [ Ref n ↦ item m n ∷ js | _ ↦ js ]

queueing_more : (x : Value Name) (m : Name) (js is : List Item) → Queueing x m (js ++ is) ≡ Queueing x m js ++ is
queueing_more (Ref n) m js is = refl
queueing_more other m js is = refl

pub queued_append : (q ms : List (Message Name)) → queued (q ++ ms) ≡ queued q ++ queued ms
unfolding queued
queued_append [] ms = refl
queued_append (o ∷ q) ms = ap (λ js. Queueing o.target o.id js) (queued_append q ms) ∙ queueing_more o.target o.id (queued q) (queued ms)

pub queued_end : (q : List (Message Name)) (m : Message Name) (n : Name) → m.target ≡ Ref n → queued (q ++ m ∷ []) ≡ queued q ++ item m.id n ∷ []
unfolding queued
queued_end q m n e = queued_append q (m ∷ []) ∙ ap (λ t. queued q ++ Queueing t m.id []) e

pub held_end : (n : Name) (q : List (Message Name)) (m : Message Name) → held_on n (q ++ m ∷ []) ≡ held_on n q ++ item m.id n ∷ []
unfolding held_on
held_end n [] m = refl
held_end n (o ∷ q) m = ap (λ js. item o.id n ∷ js) (held_end n q m)

delivered_behind : (m : Note Name) (ns ms : List (Note Name)) → delivered (ns ++ ms) ≡ delivered ns ++ delivered ms → delivered (m ∷ (ns ++ ms)) ≡ delivered (m ∷ ns) ++ delivered ms
unfolding delivered
delivered_behind (Deliver a b c d) ns ms e = ap (λ js. item a.message b ∷ js) e
delivered_behind other ns ms e = e

pub delivered_append : (ns ms : List (Note Name)) → delivered (ns ++ ms) ≡ delivered ns ++ delivered ms
unfolding delivered
delivered_append [] ms = refl
delivered_append (m ∷ ns) ms = delivered_behind m ns ms (delivered_append ns ms)

-- a note that delivers nothing
abbrev pub IsQuiet : Note Name → Type 0
IsQuiet n = delivered (n ∷ []) ≡ []

-- ---- what stands on a link

module _ (script : Script) (honest : ℕ → Bool) where
  abbrev pub OnLink : Link → List Item
  OnLink l = elim (is_honest script honest l) [ true ↦ delivered l.notes | false ↦ [] ]

  abbrev pub Row : Option Link → List Item
  Row o = elim o [ Some l ↦ OnLink l | None ↦ [] ]

  abbrev Where : Bool → List Item → List Item
  Where c xs = elim c [ true ↦ xs | false ↦ [] ]

  where_both : (c : Bool) (xs ys : List Item) → Where c (xs ++ ys) ≡ Where c xs ++ Where c ys
  where_both true xs ys = refl
  where_both false xs ys = refl

  link_more : (n : Note Name) (l : Link) (b : Bool) → l.cut ≡ b → (js : List Item) × (OnLink (world.pushed n l) ≡ OnLink l ++ js)
  unfolding is_honest
  link_more n l true e = ([], ap (λ k. OnLink k) (pushed_shut n l e) ∙ sym (append-nil (OnLink l)))
  link_more n l false e = let c = honest l.from && honest l.to in
      (Where c (delivered (n ∷ [])), ap (λ k. OnLink k) (pushed_open n l e) ∙ ap (λ js. Where c js) (delivered_append l.notes (n ∷ [])) ∙ where_both c (delivered l.notes) (delivered (n ∷ [])))

  link_still : (n : Note Name) → IsQuiet n → (l : Link) (b : Bool) → l.cut ≡ b → OnLink (world.pushed n l) ≡ OnLink l
  unfolding is_honest
  link_still n q l true e = ap (λ k. OnLink k) (pushed_shut n l e)
  link_still n q l false e = ap (λ k. OnLink k) (pushed_open n l e)
      ∙ ap (λ js. elim (honest l.from && honest l.to) [ true ↦ js | false ↦ [] ]) (delivered_append l.notes (n ∷ []) ∙ ap (λ js. delivered l.notes ++ js) q ∙ append-nil (delivered l.notes))

  pub row_still : (a b v h : ℕ) (n : Note Name) → IsQuiet n → (ls : List Link) → Row (world.link_at a b (world.with_link (world.pushed n) v h ls)) ≡ Row (world.link_at a b ls)
  unfolding world.with_link world.link_at
  row_still a b v h n q [] = refl
  row_still a b v h n q (k ∷ ls) = go (row_still a b v h n q ls) (world.is_link a b k) (world.is_link v h k) refl
    where
      go : Row (world.link_at a b (world.with_link (world.pushed n) v h ls)) ≡ Row (world.link_at a b ls) → (c d : Bool) → world.is_link a b k ≡ c
          → Row (world.link_at a b (elim d [ true ↦ world.pushed n k ∷ ls | false ↦ k ∷ world.with_link (world.pushed n) v h ls ])) ≡ Row (elim c [ true ↦ Some k | false ↦ world.link_at a b ls ])
      go f true true e = ap (λ o. Row o) (link_here a b (world.pushed n k) ls (pushed_ends k.cut n k a b refl ∙ e)) ∙ link_still n q k k.cut refl
      go f true false e = ap (λ o. Row o) (link_here a b k (world.with_link (world.pushed n) v h ls) e)
      go f false true e = ap (λ o. Row o) (link_behind a b (world.pushed n k) ls (pushed_ends k.cut n k a b refl ∙ e))
      go f false false e = ap (λ o. Row o) (link_behind a b k (world.with_link (world.pushed n) v h ls) e) ∙ f

  -- From ls to ks more came to the end of the link from a to b.
  abbrev RowMore : ℕ → ℕ → List Link → List Link → Type 0
  RowMore a b ls ks = (js : List Item) × (Row (world.link_at a b ks) ≡ Row (world.link_at a b ls) ++ js)

  row_more : (a b v h : ℕ) (n : Note Name) (ls : List Link) → RowMore a b ls (world.with_link (world.pushed n) v h ls)
  unfolding world.with_link world.link_at
  row_more a b v h n [] = ([], refl)
  row_more a b v h n (k ∷ ls) = go (row_more a b v h n ls) (world.is_link a b k) (world.is_link v h k) refl
    where
      go : RowMore a b ls (world.with_link (world.pushed n) v h ls) → (c d : Bool) → world.is_link a b k ≡ c
          → (js : List Item) × (Row (world.link_at a b (elim d [ true ↦ world.pushed n k ∷ ls | false ↦ k ∷ world.with_link (world.pushed n) v h ls ])) ≡ Row (elim c [ true ↦ Some k | false ↦ world.link_at a b ls ]) ++ js)
      go f true true e = let g = link_more n k k.cut refl in (g.0, ap (λ o. Row o) (link_here a b (world.pushed n k) ls (pushed_ends k.cut n k a b refl ∙ e)) ∙ g.1)
      go f true false e = ([], ap (λ o. Row o) (link_here a b k (world.with_link (world.pushed n) v h ls) e) ∙ sym (append-nil (OnLink k)))
      go f false true e = ([], ap (λ o. Row o) (link_behind a b (world.pushed n k) ls (pushed_ends k.cut n k a b refl ∙ e)) ∙ sym (append-nil (Row (world.link_at a b ls))))
      go f false false e = (f.0, ap (λ o. Row o) (link_behind a b k (world.with_link (world.pushed n) v h ls) e) ∙ f.1)

  pub rows_more : (a b v : ℕ) (ps : List (Put Name)) (ls : List Link) → RowMore a b ls (world.push_all v ps ls)
  unfolding world.push_all
  rows_more a b v [] ls = ([], sym (append-nil (Row (world.link_at a b ls))))
  rows_more a b v (p ∷ ps) ls =
      let f = row_more a b v p.to p.note ls in
      let g = rows_more a b v ps (world.with_link (world.pushed p.note) v p.to ls) in
      (f.0 ++ g.0, g.1 ∙ ap (λ js. js ++ g.0) f.1 ∙ append_assoc (Row (world.link_at a b ls)) f.0 g.0)

-- ---- what stands in a lane

pub no_more : (w u : Ways) (l : Lane) → u.stands l ≡ w.stands l → More w u l
no_more w u l e = ([], e ∙ sym (append-nil (w.stands l)))

pub more_then : (w u z : Ways) (l : Lane) → More w u l → More u z l → More w z l
more_then w u z l f g = (f.0 ++ g.0, g.1 ∙ ap (λ js. js ++ g.0) f.1 ∙ append_assoc (w.stands l) f.0 g.0)

pub stands_more : (w u : Ways) (m : Name) (l : Lane) (b : List Item) (n : Name) → More w u l → StandsAt w m l b n → StandsAt u m l b n
stands_more w u m l b n g h = record { behind = h.behind ++ g.0; found = g.1 ∙ ap (λ js. js ++ g.0) h.found ∙ append_assoc b (item m n ∷ h.behind) g.0 }

module _ (script : Script) (honest : ℕ → Bool) (w : World) (v : ℕ) (s t : Vat Name) where
  abbrev K : Naming Name Name
  K = names script v

  abbrev W : Vat Name → Ways
  W r = ways script honest (amid v r w)

  abbrev QueueOf : Option (Vat Name) → List Item
  QueueOf o = elim o [ Some q ↦ queued q.queue | None ↦ [] ]

  abbrev QueueMore : ℕ → Type 0
  QueueMore u = (js : List Item) × (QueueOf (slice_get (world.put_at v t w.vats) u) ≡ QueueOf (slice_get (world.put_at v s w.vats) u) ++ js)

  queue_found : (u : ℕ) → (u ≡ v → (js : List Item) × (queued t.queue ≡ queued s.queue ++ js)) → Found v s t w.vats u → QueueMore u
  queue_found u e (here i a b) = let f = e i in (f.0, ap (λ o. QueueOf o) b ∙ f.1 ∙ ap (λ o. QueueOf o ++ f.0) (sym a))
  queue_found u e (apart i a) = ([], ap (λ o. QueueOf o) a ∙ sym (append-nil (QueueOf (slice_get (world.put_at v s w.vats) u))))
  queue_found u e (none a b) = ([], ap (λ o. QueueOf o) b ∙ ap (λ o. QueueOf o ++ []) (sym a))

  pub queue_more : (u : ℕ) → (u ≡ v → (js : List Item) × (queued t.queue ≡ queued s.queue ++ js)) → More (W s) (W t) (Queue u)
  unfolding ways ways_of stands_at amid
  queue_more u e = queue_found u e (found v s t w.vats u)

  abbrev HeldOf : ℕ → Name → Option (Vat Name) → List Item
  HeldOf u n o = elim o [ Some q ↦ held_in n (refs.entry_of (names script u) q.known n) | None ↦ [] ]

  abbrev HeldMore : ℕ → Name → Type 0
  HeldMore u n = (js : List Item) × (HeldOf u n (slice_get (world.put_at v t w.vats) u) ≡ HeldOf u n (slice_get (world.put_at v s w.vats) u) ++ js)

  held_found : (u : ℕ) (n : Name) → (u ≡ v → (js : List Item) × (held_in n (refs.entry_of K t.known n) ≡ held_in n (refs.entry_of K s.known n) ++ js)) → Found v s t w.vats u → HeldMore u n
  held_found u n e (here i a b) = let f = e i in (f.0, ap (λ o. HeldOf u n o) b ∙ subst (λ z. HeldOf z n (Some t) ≡ HeldOf z n (Some s) ++ f.0) (sym i) f.1 ∙ ap (λ o. HeldOf u n o ++ f.0) (sym a))
  held_found u n e (apart i a) = ([], ap (λ o. HeldOf u n o) a ∙ sym (append-nil (HeldOf u n (slice_get (world.put_at v s w.vats) u))))
  held_found u n e (none a b) = ([], ap (λ o. HeldOf u n o) b ∙ ap (λ o. HeldOf u n o ++ []) (sym a))

  pub held_more : (u : ℕ) (n : Name) → (u ≡ v → (js : List Item) × (held_in n (refs.entry_of K t.known n) ≡ held_in n (refs.entry_of K s.known n) ++ js)) → More (W s) (W t) (Held u n)
  unfolding ways ways_of stands_at amid
  held_more u n e = held_found u n e (found v s t w.vats u)

  pub way_more : (ps : List (Put Name)) → t.outbox ≡ s.outbox ++ ps → (a b : ℕ) → More (W s) (W t) (Way a b)
  unfolding ways ways_of stands_at amid
  way_more ps e a b = let f = rows_more script honest a b v ps (world.push_all v s.outbox w.links) in
      (f.0, ap (λ qs. Row script honest (world.link_at a b (world.push_all v qs w.links))) e ∙ ap (λ ls. Row script honest (world.link_at a b ls)) (push_append v s.outbox ps w.links) ∙ f.1)

-- of that vat itself
module _ (script : Script) (honest : ℕ → Bool) (w : World) (v : ℕ) (r : Vat Name) (at : slice_get w.vats v ≡ Some r) (t : Vat Name) where
  pub queue_is : (ways script honest (amid v t w)).stands (Queue v) ≡ queued t.queue
  unfolding ways ways_of stands_at amid
  queue_is = ap (λ o. elim o [ Some s ↦ queued s.queue | None ↦ [] ]) (get_put w.vats v r t at)

  pub held_is : (n : Name) (k : Known Name) → refs.entry_of (names script v) t.known n ≡ Some k → (ways script honest (amid v t w)).stands (Held v n) ≡ held_on n k.held
  unfolding ways ways_of stands_at amid held_in
  held_is n k e = ap (λ o. elim o [ Some s ↦ held_in n (refs.entry_of (names script v) s.known n) | None ↦ [] ]) (get_put w.vats v r t at) ∙ ap (λ o. held_in n o) e

pub more_lanes : (script : Script) (honest : ℕ → Bool) (w : World) (v : ℕ) (s t : Vat Name) → AddsOnly (names script v) s t → (l : Lane) → More (ways script honest (amid v s w)) (ways script honest (amid v t w)) l
more_lanes script honest w v s t g (Queue u) = queue_more script honest w v s t u (λ e. g.queue)
more_lanes script honest w v s t g (Held u n) = held_more script honest w v s t u n (λ e. g.held n)
more_lanes script honest w v s t g (Way a b) = way_more script honest w v s t g.notes.0 g.notes.1 a b
