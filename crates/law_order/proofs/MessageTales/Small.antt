-- A message that is carried is one small step of the world: what the step is asked beside the order of the ways.
use Rattle.std.proofs.Common.{◌≡◌, ℕ, zero, Bool, true, false, List, [], ◌∷◌, ◌++◌, Option, Some, None, length, refl, sym, ap, subst, ◌∙◌, ◌⊎◌, inl, inr, append_assoc, ◌&&◌}
use Rattle.std.proofs.lemmas.Bool.{eq-eqb}
use Rattle.std.proofs.lemmas.List.{append-nil}
use Rattle.def_machine.specs.Values.{Words, Ref, Name, same_name}
use Rattle.def_machine.specs.State.{Passeds, Delivery, Note, Deliver, Vat}
use Rattle.def_run.specs.World as world
use Rattle.def_run.specs.World.{Script, Event, Carried, Link, World, link_at, with_link, with_notes, events_of, readied}
use Rattle.law_reference.proofs.Reference.Follow.{eq_dec}
use Rattle.law_order.specs.Ordering.Ways.{Lane, Queue, Held, Way, Item, Place, Nowhere, End, Mid, Ways, IsIn, nowhere, Ahead, doomed_there, in_end, in_mid, past_end, past_mid, by_end, by_mid, Doom}
use Rattle.law_order.specs.Ordering.Changes.{Beheads, stays, nearer, Lacks}
use Rattle.law_order.specs.Ordering.Messages.{StandsAt, StandsOnce}
use Rattle.law_order.specs.Ordering.Arrivals.{IsOpenWay}
use Rattle.law_order.specs.Ordering.Places.{item, delivered, leads_in, leads_at, leads, stands_at, ways_of, ways}
use Rattle.law_order.specs.Ordering.Order.{Coming, comes, comes_in}
use Rattle.law_order.proofs.Ordering.Adding.{refers_same}
use Rattle.law_order.proofs.Ordering.Adds.{alike_same}
use Rattle.law_order.proofs.Ordering.Arrived.{all_there, learnt_names_are_behind}
use Rattle.law_order.proofs.Ordering.Named.{same_self}
use Rattle.law_order.proofs.Ordering.Sends.{get_put, link_here, link_behind, found_ends}
use Rattle.law_order.proofs.Ordering.Standing.{Row}
use Rattle.law_order.specs.Carries.Carries.{IsCarried, comes_to, is_lost, CarryKeeps}
use Rattle.law_order.specs.Asks.Asks.{Bears}
use Rattle.law_order.specs.History.Lines.{with_first, was_sent}
use Rattle.law_order.specs.History.Befores.{Brings, passing_place, up_to, IsBroughtFrom, in_lane, apart}
use Rattle.law_order.specs.History.Tells.{Keeps, IsSource, held_there, learnt_now, IsStillBrought, IsPutNow, IsSentOnNow, IsStanding, IsStillHeld, IsHeldNow, Arrives, SmallStep}
use Rattle.law_order.proofs.History.Lines.{last_or, comes_now}
use Rattle.law_order.proofs.History.Links.{on_link}
use Rattle.law_order.proofs.History.Refs.{other_put}
use Rattle.law_order.proofs.History.Same.{brought_once}
use Rattle.law_order.specs.Tales.Middle.{middle}
use Rattle.law_order.specs.Tales.Resting.{WasBrought}
use Rattle.law_order.proofs.Tales.Arriving as arriving
use Rattle.law_order.proofs.Tales.Begun.{begin_still, ended}
use Rattle.law_order.proofs.Tales.Links.{delivered_both}
use Rattle.law_order.proofs.MessageTales.Broken.{LeadsOr}
use Rattle.law_order.proofs.MessageTales.Placed.{Grew, none_came, it_came, IfHeld, Moved}

-- ---- lists

in_split : (i : Item) (js : List Item) → IsIn i js → (c : List Item) × (r : List Item) × (js ≡ c ++ i ∷ r)
in_split i [] h = absurd h
in_split i (j ∷ js) (inl e) = ([], js, ap (λ k. k ∷ js) (sym e))
in_split i (j ∷ js) (inr h) = let r = in_split i js h in (j ∷ r.0, r.1, ap (λ ks. j ∷ ks) r.2)

lacks_front : (m : Name) (js c r : List Item) → Lacks m js → js ≡ c ++ r → Lacks m c
lacks_front m js c r f e n h = f n (subst (IsIn (record { mail = m; aim = n })) (sym e) (left c h))
  where
    left : (c : List Item) → IsIn (record { mail = m; aim = n }) c → IsIn (record { mail = m; aim = n }) (c ++ r)
    left [] h = absurd h
    left (j ∷ c) (inl i) = inl i
    left (j ∷ c) (inr i) = inr (left c i)

-- What is ahead of the end of a lane is ahead of what stands behind all that stands there.
doom_whole : (w : Ways) (l : Lane) (n : Name) (b : List Item) → Doom w (End l n) → Doom w (Mid l b n)
doom_whole w l n b (by_end d) = by_mid d

behind_all : (w : Ways) (a : Name) (l : Lane) (n : Name) → Ahead w a (End l n) → Ahead w a (Mid l (w.stands l) n)
behind_all w a l n (doomed_there d) = doomed_there (doom_whole w l n (w.stands l) d)
behind_all w a l n (in_end i f) = in_mid i f
behind_all w a l n (past_end h) = past_mid h

module _ (script : Script) (honest : ℕ → Bool) (everyone : (u : ℕ) → honest u ≡ true) (x : World) (a b : ℕ) (d : Delivery Name) (n : Name) (verb : Words) (ys : Passeds Name) (h : Bears x a b (Deliver d n verb ys)) where
  abbrev Note0 : Note Name
  Note0 = Deliver d n verb ys

  abbrev pub Bare : World
  Bare = arriving.Bare script honest x a b Note0 h

  abbrev pub Start : Vat Name
  Start = arriving.Start script honest x a b Note0 h

  abbrev I : Item
  I = item d.message n

  abbrev F : Link → Link
  F l = with_notes h.rest l

  -- ---- the links without the note

  same_ends : (c e : ℕ) (l : Link) → world.is_link c e (with_notes h.rest l) ≡ world.is_link c e l
  unfolding world.is_link with_notes
  same_ends c e l = refl

  some_is : (l k : Link) → Some l ≡ Some k → l ≡ k
  some_is l k e = cc

  none_some : {A : Type 0} (l : Link) → None ≡ Some l → A
  none_some l e = absurd (let f : ◌≡◌ {A = Option Link} None (Some l) = e in cc)

  nothing_there : {A : Type 0} (c e : ℕ) (l : Link) → link_at c e [] ≡ Some l → A
  unfolding link_at
  nothing_there c e l i = none_some l i

  notes_are : (with_notes h.rest h.link).notes ≡ h.rest
  unfolding with_notes
  notes_are = refl

  pub still_uncut : (with_notes h.rest h.link).cut ≡ false
  unfolding with_notes
  still_uncut = h.uncut

  pub changed_at : (ls : List Link) (l : Link) → link_at a b ls ≡ Some l → link_at a b (with_link (with_notes h.rest) a b ls) ≡ Some (with_notes h.rest l)
  unfolding with_link
  changed_at [] l e = nothing_there a b l e
  changed_at (k ∷ ls) l e = go (world.is_link a b k) refl (λ i. changed_at ls l i)
    where
      go : (c : Bool) → world.is_link a b k ≡ c → (link_at a b ls ≡ Some l → link_at a b (with_link (with_notes h.rest) a b ls) ≡ Some (with_notes h.rest l)) → link_at a b (elim c [ true ↦ with_notes h.rest k ∷ ls | false ↦ k ∷ with_link (with_notes h.rest) a b ls ]) ≡ Some (with_notes h.rest l)
      go true i f = link_here a b (with_notes h.rest k) ls (same_ends a b k ∙ i) ∙ ap (λ z. Some (with_notes h.rest z)) (some_is k l (sym (link_here a b k ls i) ∙ e))
      go false i f = link_behind a b k (with_link (with_notes h.rest) a b ls) i ∙ f (sym (link_behind a b k ls i) ∙ e)

  pub other_at : (c e : ℕ) → ((c ≡ a) × (e ≡ b) → ⊥) → (ls : List Link) → link_at c e (with_link (with_notes h.rest) a b ls) ≡ link_at c e ls
  unfolding with_link
  other_at c e f [] = refl
  other_at c e f (k ∷ ls) = go (world.is_link c e k) (world.is_link a b k) refl refl (other_at c e f ls)
    where
      go : (p q : Bool) → world.is_link c e k ≡ p → world.is_link a b k ≡ q → link_at c e (with_link (with_notes h.rest) a b ls) ≡ link_at c e ls
          → link_at c e (elim q [ true ↦ with_notes h.rest k ∷ ls | false ↦ k ∷ with_link (with_notes h.rest) a b ls ]) ≡ link_at c e (k ∷ ls)
      go true true i j r = absurd (let y = found_ends c e (k ∷ []) k (link_here c e k [] i) in let z = found_ends a b (k ∷ []) k (link_here a b k [] j) in f (sym y.0 ∙ z.0, sym y.1 ∙ z.1))
      go true false i j r = link_here c e k (with_link (with_notes h.rest) a b ls) i ∙ sym (link_here c e k ls i)
      go false true i j r = link_behind c e (with_notes h.rest k) ls (same_ends c e k ∙ i) ∙ sym (link_behind c e k ls i)
      go false false i j r = link_behind c e k (with_link (with_notes h.rest) a b ls) i ∙ r ∙ sym (link_behind c e k ls i)

  at_link : (c e : ℕ) → ((c ≡ a) × (e ≡ b)) ⊎ ((c ≡ a) × (e ≡ b) → ⊥)
  at_link c e = go (eq_dec c a) (eq_dec e b)
    where
      go : (c ≡ a) ⊎ (c ≡ a → ⊥) → (e ≡ b) ⊎ (e ≡ b → ⊥) → ((c ≡ a) × (e ≡ b)) ⊎ ((c ≡ a) × (e ≡ b) → ⊥)
      go (inl i) (inl j) = inl (i, j)
      go (inr f) j = inr (λ k. f k.0)
      go i (inr f) = inr (λ k. f k.1)

  -- ---- what stands where, without it

  data Base (l : Lane) : Type 0 where
    as_was : (l ≡ Way a b → ⊥) → (ways script honest Bare).stands l ≡ (ways script honest x).stands l → Base l
    beheaded : l ≡ Way a b → (ways script honest x).stands l ≡ I ∷ (ways script honest Bare).stands l → Base l

  rest_row : (ways script honest Bare).stands (Way a b) ≡ delivered h.rest
  unfolding ways ways_of stands_at with_notes
  rest_row = ap (λ o. Row script honest o) (changed_at x.links h.link h.found) ∙ on_link script honest everyone (with_notes h.rest h.link)

  whole_row : (ways script honest x).stands (Way a b) ≡ I ∷ delivered h.rest
  unfolding ways ways_of stands_at delivered
  whole_row = ap (λ o. Row script honest o) h.found ∙ on_link script honest everyone h.link ∙ ap delivered h.first

  queue_way : (z : ℕ) → Queue z ≡ Way a b → ⊥
  queue_way z e = cc

  held_way : (z : ℕ) (p : Name) → Held z p ≡ Way a b → ⊥
  held_way z p e = cc

  ways_are : (c e : ℕ) → Way c e ≡ Way a b → (c ≡ a) × (e ≡ b)
  ways_are c e q = let i : c ≡ a = cc in let j : e ≡ b = cc in (i, j)

  base : (l : Lane) → Base l
  unfolding ways ways_of stands_at
  base (Queue z) = as_was (queue_way z) refl
  base (Held z p) = as_was (held_way z p) refl
  base (Way c e) = elim (at_link c e) [
    | inl i ↦ subst (λ z. Base (Way z e)) (sym i.0) (subst (λ z. Base (Way a z)) (sym i.1) (beheaded refl (whole_row ∙ ap (λ js. I ∷ js) (sym rest_row))))
    | inr f ↦ as_was (λ q. f (ways_are c e q)) (ap (λ o. Row script honest o) (other_at c e f x.links))
  ]

  stands_first : StandsAt (ways script honest x) d.message (Way a b) [] n
  stands_first = record { behind = delivered h.rest; found = whole_row }

  module _ (once_before : StandsOnce (ways script honest x) d.message) where
    mid_lane : (l k : Lane) (c e : List Item) (o p : Name) → Mid l c o ≡ Mid k e p → l ≡ k
    mid_lane l k c e o p q = cc

    mid_front : (l k : Lane) (c e : List Item) (o p : Name) → Mid l c o ≡ Mid k e p → c ≡ e
    mid_front l k c e o p q = cc

    not_empty : (i : Item) (c : List Item) → i ∷ c ≡ [] → ⊥
    not_empty i c e = cc

    -- the message stands nowhere else
    lacks : (l : Lane) → Lacks d.message ((ways script honest Bare).stands l)
    lacks l q i = go (base l) (in_split (item d.message q) ((ways script honest Bare).stands l) i)
      where
        go : Base l → (c : List Item) × (r : List Item) × ((ways script honest Bare).stands l ≡ c ++ item d.message q ∷ r) → ⊥
        go (as_was f e) s = f (mid_lane l (Way a b) s.0 [] q n (once_before (Way a b) l [] s.0 n q stands_first (record { behind = s.1; found = sym e ∙ s.2 })))
        go (beheaded f e) s = not_empty I s.0 (mid_front l (Way a b) (I ∷ s.0) [] q n (once_before (Way a b) l [] (I ∷ s.0) n q stands_first (record { behind = s.1; found = e ∙ ap (λ js. I ∷ js) s.2 })))

    -- ---- the world then

    module _ (k : ℕ) (u : Vat Name) (P : ℕ → ℕ → List Item → Delivery Name → Name → Passeds Name → Type 0) where
      -- it did not come to the vat before
      abbrev Holds : Type 0
      Holds = comes b d.message zero x.history ≡ None

      abbrev pub head : List Event
      head = arriving.head_of script honest x a b Note0 h k

      abbrev pub X0 : World
      X0 = middle Bare b head Start

      abbrev pub Y0 : World
      Y0 = middle Bare b head u

      abbrev pub Y : World
      Y = ended Bare b head u

      abbrev line : Event
      line = Carried k a b Note0 (world.next_frame a b x.connections)

      W : Ways
      W = ways script honest x

      U : Ways
      U = ways script honest Y

      start_stands : (l : Lane) → (ways script honest X0).stands l ≡ (ways script honest Bare).stands l
      unfolding ways readied
      start_stands l = (begin_still script honest Bare b [] h.vat h.there tt).stands l

      same_ways : ways script honest Y ≡ ways script honest Y0
      unfolding ways
      same_ways = refl

      module _ (moved : Moved script honest b d.message Holds P X0 Y0) (keep : CarryKeeps script honest x Y a b I) (once_after : StandsOnce (ways script honest Y) d.message) (leading : LeadsOr script honest b Start u) where
        -- ---- lines

        lines : Y.history ≡ x.history ++ with_first (Some line) moved.told
        unfolding readied events_of
        lines = moved.lines ∙ ap (λ es. es ++ moved.told) (append-nil (x.history ++ head)) ∙ append_assoc x.history head moved.told

        abbrev Arrival : Coming
        Arrival = record { line = length x.history; args = ys }

        came_in : comes_in b d.message (length x.history) (Carried k a b (Deliver d n verb ys) (world.next_frame a b x.connections)) ≡ Some Arrival
        unfolding comes_in
        came_in = ap (λ z. elim (z && same_name d.message d.message) [ true ↦ Some Arrival | false ↦ None ]) (eq-eqb b b refl) ∙ ap (λ z. elim z [ true ↦ Some Arrival | false ↦ None ]) (same_self d.message)

        pub came : comes b d.message zero x.history ≡ None → comes b d.message zero Y.history ≡ Some Arrival
        came new = ap (comes b d.message zero) lines ∙ comes_now b d.message x.history (Some line) moved.told moved.quiet new ∙ came_in

        -- ---- what stands where now

        record Old (m : Name) (l : Lane) (c : List Item) (q : Name) : Type 0 where
          pub behind : List Item
          pub found : (ways script honest Bare).stands l ≡ c ++ item m q ∷ behind

        now_stands : (m : Name) (l : Lane) (c : List Item) (q : Name) → StandsAt (ways script honest Y) m l c q → Old m l c q ⊎ ((m ≡ d.message) × IfHeld b Holds l × (c ≡ (ways script honest Bare).stands l) × ((ways script honest Y).stands l ≡ c ++ item m q ∷ []))
        now_stands m l c q s = go (moved.stands l)
          where
            go : Grew d.message (IfHeld b Holds l) ((ways script honest X0).stands l) ((ways script honest Y0).stands l) → Old m l c q ⊎ ((m ≡ d.message) × IfHeld b Holds l × (c ≡ (ways script honest Bare).stands l) × ((ways script honest Y).stands l ≡ c ++ item m q ∷ []))
            go (none_came e) = inl (record { behind = s.behind; found = sym (start_stands l) ∙ sym e ∙ ap (λ (z : Ways). z.stands l) (sym same_ways) ∙ s.found })
            go (it_came o e i) = elim (last_or ((ways script honest X0).stands l) c (item d.message o) (item m q) s.behind (sym e ∙ ap (λ (z : Ways). z.stands l) (sym same_ways) ∙ s.found)) [
              | inl r ↦ inl (record { behind = r.0; found = sym (start_stands l) ∙ r.1 })
              | inr r ↦ inr (ap (λ (z : Item). z.mail) r.same, i, r.front ∙ start_stands l, ap (λ (z : Ways). z.stands l) same_ways ∙ e ∙ ap (λ js. js ++ item d.message o ∷ []) (sym r.front) ∙ ap (λ z. c ++ z ∷ []) (sym r.same))
            ]

        -- where it stood
        record Stood (m : Name) (l : Lane) (c : List Item) (q : Name) : Type 0 where
          pub before : List Item
          pub stood : StandsAt (ways script honest x) m l before q
          pub beheads : Beheads (Way a b) I (Mid l before q) (Mid l c q)

        stood_by : (m : Name) (l : Lane) (c : List Item) (q : Name) → Old m l c q → Stood m l c q
        stood_by m l c q o = go (base l)
          where
            go : Base l → Stood m l c q
            go (as_was f e) = record { before = c; stood = record { behind = o.behind; found = sym e ∙ o.found }; beheads = stays }
            go (beheaded f e) = record { before = I ∷ c; stood = record { behind = o.behind; found = e ∙ ap (λ js. I ∷ js) o.found }; beheads = subst (λ z. Beheads (Way a b) I (Mid z (I ∷ c) q) (Mid z c q)) (sym f) nearer }

        keeps_place : (m : Name) (l : Lane) (c e : List Item) (q : Name) → Beheads (Way a b) I (Mid l c q) (Mid l e q) → Lacks d.message e → Ahead (ways script honest x) m (Mid l c q) → Ahead (ways script honest Y) m (Mid l e q)
        keeps_place m l c e q i f j = (keep.places l c e q i f).1 m j

        -- ---- the parts

        references : (m o : Name) (z : ℕ) → Keeps script honest x Y m (leads script honest x.vats x.links z (Ref o)) (leads script honest Y.vats Y.links z (Ref o))
        references m o z i = inr ((keep.references z (Ref o)).1 m i)

        itself : (l : Lane) (c : List Item) (q : Name) → StandsAt (ways script honest Y) d.message l c q → IsStanding script honest x Y d.message l c q
        itself l c q s = go keep.carried
          where
            go : IsCarried (ways script honest x) (ways script honest Y) (Way a b) I → IsStanding script honest x Y d.message l c q
            go (comes_to {l = k} {b = e} {n = o} st behind) = record { lane = Way a b; before = []; aim = n; stood = stands_first; keeps = λ m i. inr (subst (λ z. Ahead (ways script honest Y) m z) (once_after l k c e q o s st) (behind.1 m i)) }
            go (is_lost gone) = absurd (gone.lanes l q (subst (IsIn (item d.message q)) (sym s.found) (last c s.behind)))
              where
                last : (c r : List Item) → IsIn (item d.message q) (c ++ item d.message q ∷ r)
                last [] r = inl refl
                last (j ∷ c) r = inr (last c r)

        messages : (m : Name) (l : Lane) (c : List Item) (q : Name) → StandsAt (ways script honest Y) m l c q → IsStanding script honest x Y m l c q ⊎ (was_sent m x.history ≡ false)
        messages m l c q s = elim (now_stands m l c q s) [
          | inl o ↦ (let r = stood_by m l c q o in inl (record { lane = l; before = r.before; aim = q; stood = r.stood; keeps = λ e i. inr (keeps_place e l r.before c q r.beheads (lacks_front d.message ((ways script honest Bare).stands l) c (item m q ∷ o.behind) (lacks l) o.found) i) }))
          | inr i ↦ inl (subst (λ z. IsStanding script honest x Y z l c q) (sym i.0) (itself l c q (subst (λ z. StandsAt (ways script honest Y) z l c q) i.0 s)))
        ]

        way : IsOpenWay honest a b Y
        way = let o = all_there false a b b u.outbox Bare.links (with_notes h.rest h.link, changed_at x.links h.link h.found, still_uncut) in record { link = o.0; found = o.1; uncut = o.2; sender = everyone a; receiver = everyone b }

        learnt_so : (m o : Name) → Ahead (ways script honest x) m (passing_place a b [] d n o) → Ahead (ways script honest Y) m (leads script honest Y.vats Y.links b (Ref o))
        unfolding delivered leads
        learnt_so m o i = (learnt_names_are_behind script honest Y a b o way).1 m (keeps_place m (Way a b) (I ∷ []) [] o nearer (λ q j. j) i)

        told : Arrives script honest x Y a b d n ys
        told = record {
          brings = record { link = h.link; found = h.found; verb = verb; rest = h.rest; notes = h.first };
          learnt = λ m o i. inr (learnt_so m o i);
        }

        -- ---- what notes bring

        in_start : (v g : ℕ) (front : List (Note Name)) (e : Delivery Name) (q : Name) (zs : Passeds Name) → Brings X0 v g front e q zs → Brings Bare v g front e q zs
        unfolding readied world.push_all
        in_start v g front e q zs r = record { link = r.link; found = r.found; verb = r.verb; rest = r.rest; notes = r.notes }

        row_of : (v g : ℕ) (l : Link) → link_at v g Bare.links ≡ Some l → (ways script honest Bare).stands (Way v g) ≡ delivered l.notes
        unfolding ways ways_of stands_at
        row_of v g l e = ap (λ o. Row script honest o) e ∙ on_link script honest everyone l

        delivers_first : (e : Delivery Name) (q : Name) (vb : Words) (zs : Passeds Name) (ns : List (Note Name)) → delivered (Deliver e q vb zs ∷ ns) ≡ item e.message q ∷ delivered ns
        unfolding delivered
        delivers_first e q vb zs ns = refl

        still_brought : (v g : ℕ) (front : List (Note Name)) (e : Delivery Name) (q : Name) (zs : Passeds Name) → WasBrought script honest X0 Y0 v g front e q zs → IsStillBrought script honest x Y v g front e q zs
        still_brought v g front e q zs r = go (at_link v g)
          where
            br : Brings Bare v g r.before e q zs
            br = in_start v g r.before e q zs r.brings

            Fr : List Item
            Fr = delivered r.before ++ item e.message q ∷ []

            row : (ways script honest Bare).stands (Way v g) ≡ Fr ++ delivered br.rest
            row = row_of v g br.link br.found ∙ ap delivered br.notes ∙ delivered_both r.before (Deliver e q br.verb zs ∷ br.rest) ∙ ap (λ js. delivered r.before ++ js) (delivers_first e q br.verb zs br.rest) ∙ sym (append_assoc (delivered r.before) (item e.message q ∷ []) (delivered br.rest))

            lacking : Lacks d.message Fr
            lacking = lacks_front d.message ((ways script honest Bare).stands (Way v g)) Fr (delivered br.rest) (lacks (Way v g)) row

            to_front : (m o : Name) → Ahead (ways script honest Y) m (Mid (Way v g) Fr o) → Ahead (ways script honest Y) m (passing_place v g front e q o)
            to_front m o i = subst (λ js. Ahead (ways script honest Y) m (Mid (Way v g) (js ++ item e.message q ∷ []) o)) r.behind i

            go : ((v ≡ a) × (g ≡ b)) ⊎ ((v ≡ a) × (g ≡ b) → ⊥) → IsStillBrought script honest x Y v g front e q zs
            go (inr f) = record { before = r.before; brings = record { link = br.link; found = sym (other_at v g f x.links) ∙ br.found; verb = br.verb; rest = br.rest; notes = br.notes }; keeps = λ m o i. inr (to_front m o (keeps_place m (Way v g) Fr Fr o stays lacking i)) }
            go (inl f) = record {
              before = Note0 ∷ r.before;
              brings = record { link = h.link; found = ap (λ z. link_at z g x.links) f.0 ∙ ap (λ z. link_at a z x.links) f.1 ∙ h.found; verb = br.verb; rest = br.rest; notes = h.first ∙ ap (λ ns. Note0 ∷ ns) (sym rest_notes ∙ br.notes) };
              keeps = λ m o i. inr (to_front m o (keeps_place m (Way v g) (I ∷ Fr) Fr o (subst (λ z. Beheads (Way a b) I (Mid z (I ∷ Fr) o) (Mid z Fr o)) (sym (ap (λ z. Way z g) f.0 ∙ ap (λ z. Way a z) f.1)) nearer) lacking (front_is m o i)));
            }
              where
                rest_notes : br.link.notes ≡ h.rest
                rest_notes = ap (λ (l : Link). l.notes) (some_is br.link (with_notes h.rest h.link) (sym br.found ∙ ap (λ z. link_at z g Bare.links) f.0 ∙ ap (λ z. link_at a z Bare.links) f.1 ∙ changed_at x.links h.link h.found)) ∙ notes_are

                front_is : (m o : Name) → Ahead (ways script honest x) m (passing_place v g (Note0 ∷ r.before) e q o) → Ahead (ways script honest x) m (Mid (Way v g) (I ∷ Fr) o)
                front_is m o i = subst (λ js. Ahead (ways script honest x) m (Mid (Way v g) (js ++ item e.message q ∷ []) o)) (delivers_first d n verb ys r.before) i

        -- ---- references, as they lead now

        vat_leads : (o : Name) → leads script honest x.vats x.links b (Ref o) ≡ leads_in script honest b Start (Ref o)
        unfolding leads leads_at readied
        vat_leads o = ap (λ z. leads_at script honest b z (Ref o)) h.there ∙ sym ((refers_same script honest b h.vat Start (alike_same (world.names script b) h.vat Start refl refl refl refl)).leading (Ref o))

        now_vat : (o : Name) → leads script honest Y.vats Y.links b (Ref o) ≡ leads_in script honest b u (Ref o)
        unfolding leads leads_at
        now_vat o = ap (λ z. leads_at script honest b z (Ref o)) (get_put x.vats b h.vat u h.there)

        other_leads : (v : ℕ) (o : Name) → (v ≡ b → ⊥) → leads script honest Y.vats Y.links v (Ref o) ≡ leads script honest x.vats x.links v (Ref o)
        unfolding leads
        other_leads v o f = ap (λ z. leads_at script honest v z (Ref o)) (other_put b v u x.vats f)

        leads_or : (v : ℕ) (o : Name) → (leads script honest Y.vats Y.links v (Ref o) ≡ leads script honest x.vats x.links v (Ref o)) ⊎ (leads script honest Y.vats Y.links v (Ref o) ≡ Nowhere)
        leads_or v o = go (eq_dec v b)
          where
            here : (leads_in script honest b u (Ref o) ≡ leads_in script honest b Start (Ref o)) ⊎ (leads_in script honest b u (Ref o) ≡ Nowhere) → (leads script honest Y.vats Y.links b (Ref o) ≡ leads script honest x.vats x.links b (Ref o)) ⊎ (leads script honest Y.vats Y.links b (Ref o) ≡ Nowhere)
            here (inl i) = inl (now_vat o ∙ i ∙ sym (vat_leads o))
            here (inr i) = inr (now_vat o ∙ i)

            go : (v ≡ b) ⊎ (v ≡ b → ⊥) → (leads script honest Y.vats Y.links v (Ref o) ≡ leads script honest x.vats x.links v (Ref o)) ⊎ (leads script honest Y.vats Y.links v (Ref o) ≡ Nowhere)
            go (inl e) = subst (λ z. (leads script honest Y.vats Y.links z (Ref o) ≡ leads script honest x.vats x.links z (Ref o)) ⊎ (leads script honest Y.vats Y.links z (Ref o) ≡ Nowhere)) (sym e) (here (leading (Ref o)))
            go (inr f) = inl (other_leads v o f)

        -- ---- what is held

        nowhere_end : (l : Lane) (o : Name) → Nowhere ≡ End l o → ⊥
        nowhere_end l o e = cc

        Led : ℕ → Name → Place
        Led v o = leads script honest x.vats x.links v (Ref o)

        Now : ℕ → Name → Place
        Now v o = leads script honest Y.vats Y.links v (Ref o)

        there_still : (v : ℕ) (p : Name) (c : List Item) (m o : Name) (e : Place) → Lacks d.message c → IsBroughtFrom (Held v p) c (leads script honest x.vats x.links v (Ref o)) e → leads script honest Y.vats Y.links v (Ref o) ≡ leads script honest x.vats x.links v (Ref o) → Ahead (ways script honest x) m e → Ahead (ways script honest Y) m e
        there_still v p c m o e f i same j = by_place (leads script honest x.vats x.links v (Ref o)) e i (λ z. subst (λ y. Ahead (ways script honest Y) m y) same ((keep.references v (Ref o)).1 m z)) j
          where
            by_place : (y e : Place) → IsBroughtFrom (Held v p) c y e → (Ahead (ways script honest x) m y → Ahead (ways script honest Y) m y) → Ahead (ways script honest x) m e → Ahead (ways script honest Y) m e
            by_place y e (in_lane {n = t}) g i = keeps_place m (Held v p) c c t stays f i
            by_place y e (apart z) g i = g i

        still_held : (v : ℕ) (p e q : Name) (c : List Item) → Old e (Held v p) c q → IsStillHeld script honest x Y v p e (up_to c e q)
        still_held v p e q c o = go (base (Held v p))
          where
            lacking : Lacks d.message (up_to c e q)
            lacking = lacks_front d.message ((ways script honest Bare).stands (Held v p)) (up_to c e q) o.behind (lacks (Held v p)) (o.found ∙ sym (append_assoc c (item e q ∷ []) o.behind))

            kept : (m t : Name) (y z : Place) → IsBroughtFrom (Held v p) (up_to c e q) (leads script honest x.vats x.links v (Ref t)) y → IsBroughtFrom (Held v p) (up_to c e q) (leads script honest Y.vats Y.links v (Ref t)) z → Ahead (ways script honest x) m y → Ahead (ways script honest Y) m z
            kept m t y z f g i = by (leads_or v t)
              where
                by : (leads script honest Y.vats Y.links v (Ref t) ≡ leads script honest x.vats x.links v (Ref t)) ⊎ (leads script honest Y.vats Y.links v (Ref t) ≡ Nowhere) → Ahead (ways script honest Y) m z
                by (inl same) = subst (λ w. Ahead (ways script honest Y) m w) (brought_once (Held v p) (up_to c e q) (leads script honest x.vats x.links v (Ref t)) y z f (subst (λ w. IsBroughtFrom (Held v p) (up_to c e q) w z) same g)) (there_still v p (up_to c e q) m t y lacking f same i)
                by (inr gone) = subst (λ w. Ahead (ways script honest Y) m w) (brought_once (Held v p) (up_to c e q) Nowhere Nowhere z (apart (λ o i. nowhere_end (Held v p) o i)) (subst (λ w. IsBroughtFrom (Held v p) (up_to c e q) w z) gone g)) (doomed_there nowhere)

            go : Base (Held v p) → IsStillHeld script honest x Y v p e (up_to c e q)
            go (as_was f i) = record { before = c; aim = q; stood = record { behind = o.behind; found = sym i ∙ o.found }; keeps = λ m t y z f g i. inr (kept m t y z f g i) }
            go (beheaded f i) = absurd (held_way v p f)

        -- such a place is one of two
        pub source_place : (o : Name) (c : Place) → IsSource script honest x Y (Some line) b o c → (c ≡ leads script honest x.vats x.links b (Ref o)) ⊎ (c ≡ passing_place a b [] d n o)
        source_place o c held_there = inl refl
        source_place o c (learnt_now {u = v} {d = e} {t = t} f) = inr (ap (λ z. passing_place z b [] e t o) (sym same_from) ∙ ap (λ z. passing_place a b [] z t o) (sym same_mail) ∙ ap (λ z. passing_place a b [] d z o) (sym same_aim))
          where
            same_from : a ≡ v
            same_from = cc

            same_mail : d ≡ e
            same_mail = cc

            same_aim : n ≡ t
            same_aim = cc

        -- what was ahead of a reference, or of what the note brought for it, is ahead of it
        from_source : (m o : Name) (c : Place) → IsSource script honest x Y (Some line) b o c → Ahead (ways script honest x) m c → Ahead (ways script honest Y) m (leads script honest Y.vats Y.links b (Ref o))
        from_source m o c f i = elim (source_place o c f) [
          | inl e ↦ (keep.references b (Ref o)).1 m (subst (λ z. Ahead (ways script honest x) m z) e i)
          | inr e ↦ learnt_so m o (subst (λ z. Ahead (ways script honest x) m z) e i)
        ]

        held_now : (v : ℕ) (p e q : Name) (c : List Item) → (e ≡ d.message) × IfHeld b Holds (Held v p) × (c ≡ (ways script honest Bare).stands (Held v p)) × ((ways script honest Y).stands (Held v p) ≡ c ++ item e q ∷ []) → IsHeldNow script honest x Y (Some line) v p e (up_to c e q)
        held_now v p e q c i = subst (λ z. IsHeldNow script honest x Y (Some line) z p e (up_to c e q)) (sym i.1.0) (record {
          new = subst (λ z. comes b z zero x.history ≡ None) (sym i.0) i.1.1;
          coming = Arrival;
          came = subst (λ z. comes b z zero Y.history ≡ Some Arrival) (sym i.0) (came i.1.1);
          keeps = λ m o y z f g j. inr (behind m (leads script honest Y.vats Y.links b (Ref o)) z g (from_source m o y f j));
        })
          where
            whole : (ways script honest Y).stands (Held b p) ≡ up_to c e q
            whole = ap (λ z. (ways script honest Y).stands (Held z p)) (sym i.1.0) ∙ i.3

            behind : (m : Name) (y z : Place) → IsBroughtFrom (Held b p) (up_to c e q) y z → Ahead (ways script honest Y) m y → Ahead (ways script honest Y) m z
            behind m y z (in_lane {n = t}) j = subst (λ js. Ahead (ways script honest Y) m (Mid (Held b p) js t)) whole (behind_all (ways script honest Y) m (Held b p) t j)
            behind m y z (apart f) j = j

        carriers : (v : ℕ) (p e q : Name) (c : List Item) → StandsAt (ways script honest Y) e (Held v p) c q → IsStillHeld script honest x Y v p e (up_to c e q) ⊎ IsHeldNow script honest x Y (Some line) v p e (up_to c e q)
        carriers v p e q c s = elim (now_stands e (Held v p) c q s) [ inl o ↦ inl (still_held v p e q c o) | inr i ↦ inr (held_now v p e q c i) ]

        module _ (put : (v g : ℕ) (front : List (Note Name)) (e : Delivery Name) (q : Name) (zs : Passeds Name) → Brings Y v g front e q zs → P v g (delivered front) e q zs → IsPutNow script honest x Y (Some line) v g front e q zs) where
          in_end0 : (v g : ℕ) (front : List (Note Name)) (e : Delivery Name) (q : Name) (zs : Passeds Name) → Brings Y v g front e q zs → Brings Y0 v g front e q zs
          in_end0 v g front e q zs r = record { link = r.link; found = r.found; verb = r.verb; rest = r.rest; notes = r.notes }

          passings : (v g : ℕ) (front : List (Note Name)) (e : Delivery Name) (q : Name) (zs : Passeds Name) → Brings Y v g front e q zs
              → IsStillBrought script honest x Y v g front e q zs ⊎ (IsPutNow script honest x Y (Some line) v g front e q zs ⊎ IsSentOnNow script honest x Y v g front e q zs)
          passings v g front e q zs r = elim (moved.brought v g front e q zs (in_end0 v g front e q zs r)) [
            | inl i ↦ inl (still_brought v g front e q zs i)
            | inr i ↦ inr (inl (put v g front e q zs r i))
          ]

          pub carried_small : SmallStep script honest x Y
          carried_small = record {
            line = Some line;
            quiet = moved.told;
            lines = lines;
            all_quiet = moved.quiet;
            told = told;
            references = references;
            messages = messages;
            passings = passings;
            carriers = carriers;
          }
