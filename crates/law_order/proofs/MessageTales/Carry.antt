-- A message is carried by one small step, where the vat can pass on what it learnt.
use Rattle.std.proofs.Common.{◌≡◌, ℕ, zero, suc, ◌≤◌, Bool, true, false, List, [], ◌∷◌, ◌++◌, Option, Some, None, length, refl, sym, ap, subst, ◌∙◌, inl, inr}
use Rattle.std.proofs.lemmas.Bool.{eq-eqb}
use Rattle.std.specs.Prelude.{slice_get}
use Rattle.def_machine.specs.Values.{Words, Value, Ref, Name, Object, Answer, Sent, Msg, Naming, Own, Foreign, naming, spot_of, host_of}
use Rattle.def_machine.specs.State.{Message, Known, Passed, Passeds, Delivery, Note, Deliver, Put, Vat, Done, Gives, Unsettled}
use Rattle.def_machine.specs.State as state
use Rattle.def_machine.specs.Refs as refs
use Rattle.def_machine.specs.Refs.{Place, Near, Mine, Away}
use Rattle.def_run.specs.World as world
use Rattle.def_run.specs.World.{Script, Event, Carried, Link, World, names, readied, link_at, with_link, with_notes, push_all, pushed}
use Rattle.law_fate.proofs.Fates.Leads.{Ends}
use Rattle.law_fate.specs.Name.Names.{IsAmong, AllOf, names_in}
use Rattle.law_fate.proofs.Name.Facts.{all_append}
use Rattle.law_order.specs.Ordering.Ways as lanes
use Rattle.law_order.specs.Ordering.Ways.{Item, Ahead}
use Rattle.law_order.specs.Ordering.Worlds.{IfGives, IsObject}
use Rattle.law_order.specs.Ordering.Steps.{LeadsAmid, LetsDrawn, AllDrawn, Ready}
use Rattle.law_order.specs.Ordering.Arrivals.{in_front, keeping, IsOpenWay, IsSilent}
use Rattle.law_order.specs.Ordering.Messages.{StandsOnce}
use Rattle.law_order.specs.Ordering.Places.{item, delivered, ways, leads, amid}
use Rattle.law_order.specs.Ordering.Order.{comes, all_pass_as}
use Rattle.law_order.proofs.Ordering.Amid.{beginning_changes_no_way}
use Rattle.law_order.proofs.Ordering.Arrived.{all_there}
use Rattle.law_order.proofs.Ordering.Below.{with_drawn}
use Rattle.law_order.proofs.Ordering.Changes.{growing_keeps}
use Rattle.law_order.proofs.Ordering.OrderKeeping.{arriving_changes_nothing}
use Rattle.law_order.specs.Carries.Carries.{IsNotNext, AllNotNext, CarryKeeps}
use Rattle.law_order.proofs.Carries.Arriving.{away_other}
use Rattle.law_order.specs.Asks.Asks.{Bears}
use Rattle.law_order.specs.History.Befores.{Brings, passing_place}
use Rattle.law_order.specs.History.Passings.{CanPass, CameAs, AllCame}
use Rattle.law_order.specs.History.Tells.{IsSource, IsPutNow, SmallStep}
use Rattle.law_order.specs.History.Told.{IsTold}
use Rattle.law_order.specs.Tales.Middle.{middle, MovesNone}
use Rattle.law_order.proofs.Tales.Arriving as arriving
use Rattle.law_order.proofs.Tales.Begun.{leads_begin, same_grow}
use Rattle.law_order.proofs.Tales.Links.{Stays, is_none, is_there, puts_stay}
use Rattle.law_order.proofs.Tales.Middle.{moves_still}
use Rattle.law_order.proofs.Tales.Stilling.{Any, base}
use Rattle.law_order.specs.MessageTales.Reorder.{IsAside}
use Rattle.law_order.proofs.MessageTales.Learnt.{IsHaving}
use Rattle.law_order.proofs.MessageTales.Arrival as arrival
use Rattle.law_order.proofs.MessageTales.Arrival.{put_out, GoesOut, IsPlaced, lost_here, to_queue, to_name, to_link, Arrived}
use Rattle.law_order.proofs.MessageTales.Calm.{Calm, calm, calm_moves, after, passes_none, Aside, passes_aside}
use Rattle.law_order.proofs.MessageTales.Forwarded as forwarded
use Rattle.law_order.proofs.MessageTales.Placed.{IsNoted, Moved, still_moved, moved_before, moved_after, queue_moved, name_moved, out_moved, waited_moves}
use Rattle.law_order.proofs.MessageTales.Small as small

-- ---- an object of the vat is near

module _ (script : Script) (b : ℕ) (s : Vat Name) where
  abbrev K : Naming Name Name
  K = names script b

  object_itself : (d : ℕ) (m : Name) → refs.entry_of K s.known m ≡ None → refs.follow_at K d s.known (Ref m) ≡ Ref m
  unfolding refs.follow_at refs.standing_of refs.standing_in refs.led
  object_itself zero m e = refl
  object_itself (suc d) m e = ap (λ o. refs.led K (λ z. refs.follow_at K d s.known z) m (refs.standing_in o)) e

  own_near : (i : ℕ) → refs.place K s (refs.severed K s (Ref (Object b i))) ≡ Near
  unfolding refs.severed refs.severed_at refs.place refs.spotted names naming spot_of
  own_near i = ap (λ c. refs.place K s (refs.severed_at K s (Object b i) (elim c [ true ↦ Own i | false ↦ Foreign b ]))) (eq-eqb b b refl) ∙ ap (λ c. refs.spotted K s (Object b i) (elim c [ true ↦ Own i | false ↦ Foreign b ])) (eq-eqb b b refl)

  object_near : (n : Name) → IsObject n → host_of n ≡ b → refs.entry_of K s.known n ≡ None → refs.place K s (refs.follow K s (Ref n)) ≡ Near
  unfolding refs.follow host_of
  object_near (Object g i) o e f = ap (λ z. refs.place K s (refs.severed K s z)) (object_itself _ (Object g i) f) ∙ subst (λ h. refs.place K s (refs.severed K s (Ref (Object h i))) ≡ Near) (sym e) (own_near i)
  object_near other o e f = absurd o

  near_mine : (p : Name) → Near ≡ Mine p → ⊥
  near_mine p e = cc

  near_away : (h : ℕ) (q : Name) (o : Bool) → Near ≡ Away h q o → ⊥
  near_away h q o e = cc

-- ---- words of gifts, without the note

first_less : (ds : List ℕ) (n : Note Name) (l : Link) (ls : List Link) → AllDrawn ds (in_front n l ∷ ls) → AllDrawn ds (l ∷ ls)
unfolding in_front
first_less ds n l ls h = (h.0.1, h.1, h.2)

less_drawn : (ds : List ℕ) (n : Note Name) (a b : ℕ) (ls : List Link) → AllDrawn ds (with_link (in_front n) a b ls) → AllDrawn ds ls
unfolding with_link
less_drawn ds n a b [] h = tt
less_drawn ds n a b (l ∷ ls) h = go (world.is_link a b l) (λ i. less_drawn ds n a b ls i) h
  where
    go : (c : Bool) → (AllDrawn ds (with_link (in_front n) a b ls) → AllDrawn ds ls) → AllDrawn ds (elim c [ true ↦ in_front n l ∷ ls | false ↦ l ∷ with_link (in_front n) a b ls ]) → AllDrawn ds (l ∷ ls)
    go true f h = first_less ds n l ls h
    go false f h = (h.0, h.1, f h.2)

-- ---- the carry

module _ (script : Script) (honest : ℕ → Bool) (everyone : (u : ℕ) → honest u ≡ true) (x : World) (a b : ℕ) (d : Delivery Name) (n : Name) (verb : Words) (ys : Passeds Name) (h : Bears x a b (Deliver d n verb ys))
    (msg : Msg) (named : d.message ≡ Sent msg) (before : msg.sender ≡ b → suc msg.number ≤ h.vat.messages) (fresh : refs.entry_of (names script b) h.vat.known (Answer b msg) ≡ None) (target : IsNotNext b h.vat (Answer b msg) n) (all : AllNotNext b h.vat (Answer b msg) (names_in h.vat.known) ys)
    (home : IsObject n → host_of n ≡ b) (ready : Ready script honest x b (readied x h.vat))
    (Had : List (List (Value Name)) → Passed Name → Value Name → Type 0) (AllHad : List (List (Value Name)) → Passeds Name → List (Value Name) → Type 0) (having : IsHaving Had AllHad) where
  abbrev N : Naming Name Name
  N = names script b

  abbrev Note0 : Note Name
  Note0 = Deliver d n verb ys

  abbrev pub Bare : World
  Bare = small.Bare script honest everyone x a b d n verb ys h

  abbrev pub Start : Vat Name
  Start = small.Start script honest everyone x a b d n verb ys h

  abbrev R : Vat Name → Vat Name → Type 0
  R s t = Calm script b s t

  abbrev M : Vat Name → Vat Name → Type 0
  M s t = MovesNone N s t

  abbrev pub Out : Vat Name → Type 0
  Out u = GoesOut script honest b d n ys R M AllHad Start u

  way : IsOpenWay honest a b Bare
  way = record { link = with_notes h.rest h.link; found = small.changed_at script honest everyone x a b d n verb ys h x.links h.link h.found; uncut = small.still_uncut script honest everyone x a b d n verb ys h; sender = everyone a; receiver = everyone b }

  pub same : keeping a b Note0 Bare ≡ x
  same = arriving_changes_nothing x a b h.link Note0 h.rest h.found h.first

  full_ready : Ready script honest (keeping a b Note0 Bare) b Start
  full_ready = subst (λ z. Ready script honest z b Start) (sym same) ready

  bare_ready : Ready script honest Bare b Start
  unfolding readied push_all keeping
  bare_ready = record { number = full_ready.number; ends = full_ready.ends; draws = less_drawn Start.drawn Note0 a b Bare.links full_ready.draws; answers = full_ready.answers; promises = full_ready.promises }

  pub star_ready : (g : ℕ) (m : Note Name) → LetsDrawn Start.drawn m → Ready script honest (record Bare { links = with_link (pushed m) b g Bare.links }) b Start
  unfolding readied push_all
  star_ready g m l = record { number = bare_ready.number; ends = bare_ready.ends; draws = with_drawn Start.drawn m b g Bare.links l bare_ready.draws; answers = bare_ready.answers; promises = bare_ready.promises }

  empty : Start.outbox ≡ []
  unfolding readied
  empty = refl

  pub arrived : IfGives (λ u. Arrived script honest b d n ys R M AllHad Start u) (arriving.Arrival script honest x a b Note0 h)
  unfolding readied world.names_of
  arrived = arrival.arrives script honest Bare a b h.vat h.there way d n verb ys msg named R M (calm script b) (after script b) Had AllHad having before Start bare_ready (refl, refl, refl, refl, fresh) target all

  pub given : (P : Vat Name → Type 0) (e : Done Name (Unit {0})) (t : Vat Name) → e ≡ Gives tt t → IfGives P e → P t
  given P e t i j = subst (IfGives P) i j

  -- ---- what the vat came to

  no_entry : IsObject n → (s : Vat Name) → Ready script honest Bare b s → refs.entry_of N s.known n ≡ None
  no_entry o s r = r.ends.objects n o

  module _ (once_before : StandsOnce (ways script honest x) d.message) (new : (IsObject n → ⊥) → comes b d.message zero x.history ≡ None) (k : ℕ) (u : Vat Name) (ends : Arrived script honest b d n ys R M AllHad Start u) where
    abbrev Hd : List Event
    Hd = small.head script honest everyone x a b d n verb ys h once_before k u (λ v g f e q zs. Unit {0})

    abbrev X : Vat Name → World
    X s = middle Bare b Hd s

    abbrev Holds : Type 0
    Holds = comes b d.message zero x.history ≡ None

    -- what is told of a note that it puts
    abbrev pub IsOut : ℕ → ℕ → List Item → Delivery Name → Name → Passeds Name → Type 0
    IsOut v g front e q zs = (o : Out u) × IsNoted script honest b o.host (push_all b o.came_to.outbox Bare.links) o.mail o.aim o.passed v g front e q zs

    abbrev Mv : World → World → Type 0
    Mv y z = Moved script honest b d.message Holds IsOut y z

    not_object : (s : Vat Name) (p : Place Name) → Ready script honest Bare b s → refs.place N s (refs.follow N s (Ref n)) ≡ p → (Near ≡ p → ⊥) → IsObject n → ⊥
    not_object s p r e f o = f (sym (object_near script b s n o (home o) (no_entry o s r)) ∙ e)

    came_none : (o : Out u) → MovesNone N o.now o.came_to
    came_none o = given_moves (refs.pass_all N o.host o.mail.args o.now) ((passes_none script b o.host o.mail.args).after o.now) o.run
      where
        given_moves : (e : Done Name (Passeds Name)) → Ends Any (MovesNone N) o.now e → e ≡ Gives o.passed o.came_to → MovesNone N o.now o.came_to
        given_moves e i j = subst (λ z. Ends Any (MovesNone N) o.now z) j i

    came_aside : (o : Out u) → Aside script b o.host o.now o.came_to
    came_aside o = given_aside (refs.pass_all N o.host o.mail.args o.now) ((passes_aside script b o.host o.mail.args).after o.now) o.run
      where
        given_aside : (e : Done Name (Passeds Name)) → Ends Any (Aside script b o.host) o.now e → e ≡ Gives o.passed o.came_to → Aside script b o.host o.now o.came_to
        given_aside e i j = subst (λ z. Ends Any (Aside script b o.host) o.now z) j i

    to_came : (o : Out u) → MovesNone N Start o.came_to
    to_came o = (base N).trans (calm_moves script b Start o.now o.rel) (came_none o)

    went_out : (o : Out u) → Mv (X Start) (X u)
    went_out o = moved_before script honest b d.message Holds IsOut (X Start) (X o.came_to) (X u) (moves_still script honest Bare b Hd Start o.came_to (to_came o))
        (moved_after script honest b d.message Holds IsOut (X o.came_to) (X (put_out N o.mail o.host o.aim o.passed o.came_to)) (X u) put
        (moves_still script honest Bare b Hd (put_out N o.mail o.host o.aim o.passed o.came_to) u (waited_moves script b (put_out N o.mail o.host o.aim o.passed o.came_to) u o.waited)))
      where
        weaker : (m : Name) → m ≡ d.message → Moved script honest b m Holds (λ v g front e q zs. IsNoted script honest b o.host (push_all b o.came_to.outbox Bare.links) o.mail o.aim o.passed v g front e q zs) (X o.came_to) (X (put_out N o.mail o.host o.aim o.passed o.came_to))
            → Mv (X o.came_to) (X (put_out N o.mail o.host o.aim o.passed o.came_to))
        weaker m e i = subst (λ z. Moved script honest b z Holds IsOut (X o.came_to) (X (put_out N o.mail o.host o.aim o.passed o.came_to))) e
            (record { told = i.told; lines = i.lines; quiet = i.quiet; stands = i.stands; brought = λ v g front e q zs r. elim (i.brought v g front e q zs r) [ inl j ↦ inl j | inr j ↦ inr (o, j) ] })

        put : Mv (X o.came_to) (X (put_out N o.mail o.host o.aim o.passed o.came_to))
        put = weaker o.mail.id o.id (out_moved script honest everyone Bare b Hd o.mail o.host o.aim o.passed o.came_to Holds)

    pub moved : Mv (X Start) (X u)
    moved = by ends.placed
      where
        by : IsPlaced script honest b d n ys R M AllHad Start u → Mv (X Start) (X u)
        by (lost_here m) = still_moved script honest b d.message Holds IsOut (X Start) (X u) (moves_still script honest Bare b Hd Start u m)
        by (to_queue q m rel id e) = subst (λ z. Mv (X Start) (X z)) (sym e) (moved_before script honest b d.message Holds IsOut (X Start) (X q) (X (record q { queue = q.queue ++ m ∷ [] })) (moves_still script honest Bare b Hd Start q (calm_moves script b Start q rel))
            (queue_moved script honest Bare b Hd d.message Holds q m id IsOut))
        by (to_name q m p rel stays at id e) = subst (λ z. Mv (X Start) (X z)) (sym e) (moved_before script honest b d.message Holds IsOut (X Start) (X q) (X (record q { known = state.with_change N (state.Hold m) p q.known })) (moves_still script honest Bare b Hd Start q (calm_moves script b Start q rel))
            (name_moved script honest Bare b Hd d.message Holds q m id p (new (not_object q (Mine p) (stays Bare bare_ready).0 at (near_mine script b q p))) IsOut))
        by (to_link o) = went_out o

    -- ---- the note that it puts

    none_some : {A : Type 0} (l : Link) → ◌≡◌ {A = Option Link} None (Some l) → A
    none_some l e = absurd (cc)

    some_is : (l m : Link) → Some l ≡ Some m → l ≡ m
    some_is l m e = cc

    true_false : true ≡ false → ⊥
    true_false e = cc

    module _ (o : Out u) where
      g : ℕ
      g = o.host

      abbrev pub Noted : Note Name
      Noted = Deliver (refs.delivery_of N o.mail) o.aim o.mail.verb o.passed

      -- with that note on its link at once
      abbrev pub Star : World
      Star = record Bare { links = with_link (pushed Noted) b o.host Bare.links }

      put_links : push_all b o.came_to.outbox Bare.links ≡ push_all b (to_came o).puts Bare.links
      put_links = ap (λ ps. push_all b ps Bare.links) ((to_came o).outbox ∙ ap (λ ps. ps ++ (to_came o).puts) empty)

      pub open_link : (l : Link) → link_at b o.host (push_all b o.came_to.outbox Bare.links) ≡ Some l → l.cut ≡ false → IsOpenWay honest b o.host Bare
      open_link l e f = go (puts_stay b b o.host (to_came o).puts Bare.links (to_came o).none)
        where
          found : link_at b o.host (push_all b (to_came o).puts Bare.links) ≡ Some l
          found = ap (λ ls. link_at b o.host ls) (sym put_links) ∙ e

          by : (m : Link) → link_at b o.host Bare.links ≡ Some m → (c : Bool) → m.cut ≡ c → IsOpenWay honest b o.host Bare
          by m i false j = record { link = m; found = i; uncut = j; sender = everyone b; receiver = everyone o.host }
          by m i true j = absurd (let t = all_there true b o.host b (to_came o).puts Bare.links (m, i, j) in true_false (sym t.2 ∙ ap (λ (z : Link). z.cut) (some_is t.0 l (sym t.1 ∙ found)) ∙ f))

          go : Stays (link_at b o.host Bare.links) (link_at b o.host (push_all b (to_came o).puts Bare.links)) → IsOpenWay honest b o.host Bare
          go (is_none i j) = none_some l (sym j ∙ found)
          go (is_there m q i j longer) = by m i m.cut refl

      silent_aside : (ps : List (Put Name)) → AllOf (λ (p : Put Name). IsSilent p.note) ps → AllOf (IsAside o.host) ps
      silent_aside [] i = tt
      silent_aside (p ∷ ps) i = (λ q. i.0, silent_aside ps i.1)

      aside : AllOf (IsAside o.host) o.came_to.outbox
      aside = subst (λ ps. AllOf (IsAside o.host) ps) (sym ((came_aside o).outbox ∙ ap (λ ps. ps ++ (came_aside o).puts) (o.rel.outbox ∙ ap (λ ps. ps ++ o.rel.puts) empty)))
          (all_append (IsAside o.host) o.rel.puts (came_aside o).puts (silent_aside o.rel.puts o.rel.silent) (came_aside o).aside)

      pub now_ready : Ready script honest Bare b o.now
      now_ready = (o.stays Bare bare_ready).0

      pub other : o.host ≡ b → ⊥
      other = away_other script b o.now now_ready.number (refs.follow N o.now (Ref n)) o.host o.aim o.known o.place

      pub plain : IsObject n → ⊥
      plain = not_object o.now (Away o.host o.aim o.known) now_ready o.place (near_away script b o.now o.host o.aim o.known)

      -- the vat to which it goes, and that what was learnt can pass to it
      pub record Reaches : Type 0 where
        pub vat : Vat Name
        pub found : slice_get Bare.vats o.host ≡ Some vat
        pub number : vat.number ≡ o.host
        pub objects : (m : Name) → IsObject m → refs.entry_of (names script o.host) vat.known m ≡ None
        pub can : CanPass script honest Star b o.host vat o.now
        pub came : (done : List Event) → IsTold script done → (c : ℕ) → AllCame (λ z y. CameAs script honest Star b o.host c o.now done z y) ys o.mail.args

    module _ (reaches : (o : Out u) → IsOpenWay honest b o.host Bare → Reaches o) (keep : CarryKeeps script honest x (small.Y script honest everyone x a b d n verb ys h once_before k u IsOut) a b (item d.message n)) (once_after : StandsOnce (ways script honest (small.Y script honest everyone x a b d n verb ys h once_before k u IsOut)) d.message) where
      abbrev pub Y : World
      Y = small.Y script honest everyone x a b d n verb ys h once_before k u IsOut

      abbrev line : Event
      line = Carried k a b Note0 (world.next_frame a b x.connections)

      begin_ahead : (m : Name) (c : lanes.Place) → Ahead (ways script honest x) m c → Ahead (ways script honest (amid b Start (keeping a b Note0 Bare))) m c
      begin_ahead m c i = subst (λ z. Ahead (ways script honest (amid b Start z)) m c) (sym same) ((growing_keeps (ways script honest x) (ways script honest (amid b Start x)) (same_grow (ways script honest x) (ways script honest (amid b Start x)) (beginning_changes_no_way script honest x b h.vat h.there)) c).1 m i)

      led_start : (e : Name) → leads script honest x.vats x.links b (Ref e) ≡ LeadsAmid script honest (keeping a b Note0 Bare) b Start b (Ref e)
      unfolding leads amid keeping
      led_start e = sym (leads_begin script honest x b [] h.vat h.there b (Ref e))

      in_note : (e : Name) → passing_place a b [] d n e ≡ lanes.Mid (lanes.Way a b) (item d.message n ∷ []) e
      unfolding delivered
      in_note e = refl

      module _ (o : Out u) (on : IsOpenWay honest b o.host Bare) (r : Reaches o) where
        star : Ready script honest (Star o) b Start
        star = star_ready o.host (Noted o) tt

        to_now : (m e : Name) (c : lanes.Place) → IsSource script honest x Y (Some line) b e c → Ahead (ways script honest x) m c
            → Ahead (ways script honest (amid b o.now (Star o))) m (LeadsAmid script honest (keeping a b Note0 Bare) b o.now b (Ref e))
        to_now m e c f i = elim (small.source_place script honest everyone x a b d n verb ys h once_before k u IsOut moved keep once_after ends.leads e c f) [
          | inl j ↦ forwarded.held_before script honest everyone Bare a b h.vat h.there way d n verb ys R M AllHad Start u empty o on (aside o) (other o) ready.number full_ready star m e (begin_ahead m _ (subst (λ z. Ahead (ways script honest x) m z) (j ∙ led_start e) i))
          | inr j ↦ forwarded.learnt_before script honest everyone Bare a b h.vat h.there way d n verb ys R M AllHad Start u empty o on (aside o) (other o) ready.number full_ready star m e (begin_ahead m _ (subst (λ z. Ahead (ways script honest x) m z) (j ∙ in_note e) i))
        ]

        brought_so : (l : Link) → link_at b o.host (push_all b o.came_to.outbox Bare.links) ≡ Some l → (done : List Event) → IsTold script done → (m e p : Name) (c : lanes.Place) → IsSource script honest x Y (Some line) b e c → IsAmong p (all_pass_as b done e o.passed ys) → Ahead (ways script honest x) m c
            → Ahead (ways script honest Y) m (lanes.Mid (lanes.Way b o.host) (delivered l.notes ++ item o.mail.id o.aim ∷ []) p)
        unfolding ways amid
        brought_so l found done told m e p c f among i =
            forwarded.brought script honest everyone Bare a b h.vat h.there way d n verb ys R M AllHad Start u empty o on (aside o) (other o) ready.number full_ready star r.vat r.found r.number r.objects r.can done (r.came done told) m e p l found among (to_now m e c f i)

        put_there : (front : List (Note Name)) (e : Delivery Name) (q : Name) → e.message ≡ o.mail.id → q ≡ o.aim → (l : Link) → link_at b o.host (push_all b o.came_to.outbox Bare.links) ≡ Some l → delivered front ≡ delivered l.notes → IsPutNow script honest x Y (Some line) b o.host front e q o.passed
        put_there front e q mail aim l found front_is = record {
          new = subst (λ z. comes b z zero x.history ≡ None) (sym (mail ∙ o.id)) (new (plain o));
          coming = record { line = length x.history; args = ys };
          came = subst (λ z. comes b z zero Y.history ≡ Some (record { line = length x.history; args = ys })) (sym (mail ∙ o.id)) (small.came script honest everyone x a b d n verb ys h once_before k u IsOut moved keep once_after ends.leads (new (plain o)));
          keeps = λ done told m t p c f among i. inr (subst (λ js. Ahead (ways script honest Y) m (lanes.Mid (lanes.Way b o.host) (js ++ item e.message q ∷ []) p)) (sym front_is)
              (subst (λ z. Ahead (ways script honest Y) m (lanes.Mid (lanes.Way b o.host) (delivered l.notes ++ item z q ∷ []) p)) (sym mail)
              (subst (λ z. Ahead (ways script honest Y) m (lanes.Mid (lanes.Way b o.host) (delivered l.notes ++ item o.mail.id z ∷ []) p)) (sym aim) (brought_so l found done told m t p c f among i))));
        }

      put : (v g : ℕ) (front : List (Note Name)) (e : Delivery Name) (q : Name) (zs : Passeds Name) → Brings Y v g front e q zs → IsOut v g (delivered front) e q zs → IsPutNow script honest x Y (Some line) v g front e q zs
      put v g front e q zs b0 (o, p) =
          let on = open_link o p.link p.found p.uncut in
          let here = put_there o on (reaches o on) front e q p.mail p.aim p.link p.found p.front_is in
          subst (λ z. IsPutNow script honest x Y (Some line) z g front e q zs) (sym p.from) (subst (λ z. IsPutNow script honest x Y (Some line) b z front e q zs) (sym p.to) (subst (λ z. IsPutNow script honest x Y (Some line) b o.host front e q z) (sym p.args) here))

      pub carry_small : SmallStep script honest x Y
      carry_small = small.carried_small script honest everyone x a b d n verb ys h once_before k u IsOut moved keep once_after ends.leads put
