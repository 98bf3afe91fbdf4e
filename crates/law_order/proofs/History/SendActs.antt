-- What the machine does as a message is sent on what is not broken: it comes to a queue, is held, or goes out in a note.
use Rattle.std.proofs.Common.{◌≡◌, ℕ, Bool, true, false, List, [], ◌∷◌, ◌++◌, Option, Some, None, refl, sym, ap, subst, ◌∙◌, ◌⊎◌, inl, inr}
use Rattle.std.proofs.lemmas.List.{append-nil, append_assoc}
use Rattle.std.specs.Prelude.{slice_get}
use Rattle.def_machine.specs.Values.{Value, Null, Flag, Number, Letter, Text, Prim, Broken, Items, Ref, Name, Naming}
use Rattle.def_machine.specs.State.{Message, Known, Hold, Passeds, Delivery, Note, Deliver, Happened, Sends, Posted, Vat, Done, Gives, Act, ◌>>=◌, ◌>>◌, and_then, tell, send_out, enqueue, alter}
use Rattle.def_machine.specs.State as state
use Rattle.def_machine.specs.Refs as refs
use Rattle.def_machine.specs.Refs.{Place, Near}
use Rattle.def_run.specs.World as world
use Rattle.def_run.specs.World.{Script, Event, Link, World, names}
use Rattle.law_fate.specs.Name.Names.{IsAmong}
use Rattle.law_machine.specs.Run.Moves.{went}
use Rattle.law_order.specs.Ordering.Ways.{Lane, Queue, Held, Way, Item, End, Mid, Ways, IsIn, Ahead}
use Rattle.law_order.specs.Ordering.Ways as lanes
use Rattle.law_order.specs.Ordering.Turns.{Within}
use Rattle.law_order.specs.Ordering.Places.{item, queued, held_on, held_in, delivered, aimed, stands_at, ways_of, ways, amid}
use Rattle.law_order.specs.Ordering.Worlds.{IfGives, IsObject, IsWaiting}
use Rattle.law_order.specs.Ordering.Steps.{LeadsAmid, Grown}
use Rattle.law_order.specs.Ordering.Order.{plains, all_pass_as}
use Rattle.law_order.proofs.Ordering.Adds.{adds_nothing, adds_note}
use Rattle.law_order.proofs.Ordering.Amid.{put_either, adding_grows}
use Rattle.law_order.proofs.Ordering.Changes.{growing_keeps}
use Rattle.law_order.proofs.Ordering.Entries.{Differs, as_it_was, changes, differs}
use Rattle.law_order.proofs.Ordering.Pushing.{push_append}
use Rattle.law_order.proofs.Ordering.Sends.{get_put, held_by}
use Rattle.law_order.proofs.Ordering.Standing.{Row, queued_append, queued_end, held_end, queue_is}
use Rattle.law_order.specs.History.Lines.{AllQuiet}
use Rattle.law_order.specs.History.Told.{IsTold}
use Rattle.law_order.specs.History.Befores.{Brings, passing_place}
use Rattle.law_order.specs.History.Passings.{OnGives, CanPass, CameAs, AllCame, BringsBehind}
use Rattle.law_order.proofs.History.Links.{On, on_of, of_on, IsPut, on_back, on_back_all, on_link, RowGrew, row_same, row_more, rows_still, row_grew}
use Rattle.law_order.proofs.History.Passed.{Step, AllPass, passed_all}
use Rattle.law_order.proofs.History.Told.{nothing_told}
use Rattle.law_order.proofs.History.SentStep.{Comes, none_came, came_last, BringsIt}

all_gives : {I A : Type 0} (P : I → A → Vat Name → Type 0) (d : Done Name A) → ((i : I) → OnGives (P i) d) → OnGives (λ a t. (i : I) → P i a t) d
all_gives P (Gives a t) f = f
all_gives P other f = tt

bind_if : {A B : Type 0} (P : A → Vat Name → Type 0) (Q : Vat Name → Type 0) (d : Done Name A) (f : A → Act Name B) → OnGives P d → ((a : A) (t : Vat Name) → P a t → IfGives Q (f a t)) → IfGives Q (and_then d f)
unfolding and_then
bind_if P Q (Gives a t) f h g = g a t h
bind_if P Q other f h g = tt

module _ (script : Script) (honest : ℕ → Bool) (everyone : (u : ℕ) → honest u ≡ true) (w : World) (v act : ℕ) (head : List Event) (r : Vat Name) (at : slice_get w.vats v ≡ Some r) (s : Vat Name) (m : Message Name) where
  abbrev K : Naming Name Name
  K = names script v

  abbrev W : Vat Name → Ways
  W t = ways script honest (amid v t w)

  abbrev Led : Value Name → lanes.Place
  Led x = LeadsAmid script honest w v s v x

  abbrev From : World
  From = went v w head s

  -- what the send is, but for what the laws of order say of it
  pub record Rest (t : Vat Name) : Type 0 where
    pub after : List (Happened Name)
    pub happened : t.happened ≡ s.happened ++ (Sends act m ∷ after)
    pub quiet : AllQuiet (world.events_of w.links v after)
    pub comes_there : (l : Lane) → Comes script honest w v act head s t m l
    pub notes : (u g : ℕ) (front : List (Note Name)) (d : Delivery Name) (n : Name) (ys : Passeds Name) → Brings (went v w head t) u g front d n ys → Brings From u g front d n ys ⊎ BringsIt script honest w v act head s t m u g front d n ys

  -- ---- lane by lane

  -- nothing came to it, or the message did, where its target led
  data Came (l : Lane) (before now : List Item) : Type 0 where
    none_more : now ≡ before → Came l before now
    one_more : (n : Name) → now ≡ before ++ item m.id n ∷ [] → Led m.target ≡ End l n → Came l before now

  module _ (t : Vat Name) where
    held_is : (u : Vat Name) (n : Name) → (W u).stands (Held v n) ≡ held_in n (refs.entry_of K u.known n)
    unfolding ways ways_of stands_at amid
    held_is u n = ap (λ o. elim o [ Some x ↦ held_in n (refs.entry_of K x.known n) | None ↦ [] ]) (get_put w.vats v r u at)

    queue_comes : Came (Queue v) (queued s.queue) (queued t.queue) → Comes script honest w v act head s t m (Queue v)
    queue_comes (none_more e) = none_came (queue_is script honest w v r at t ∙ e ∙ sym (queue_is script honest w v r at s))
    queue_comes (one_more n e f) = came_last n (queue_is script honest w v r at t ∙ e ∙ ap (λ js. js ++ item m.id n ∷ []) (sym (queue_is script honest w v r at s))) f (λ u p i. absurd (cc))

    held_comes : (n : Name) → Came (Held v n) (held_in n (refs.entry_of K s.known n)) (held_in n (refs.entry_of K t.known n)) → Comes script honest w v act head s t m (Held v n)
    held_comes n (none_more e) = none_came (held_is t n ∙ e ∙ sym (held_is s n))
    held_comes n (one_more o e f) = came_last o (held_is t n ∙ e ∙ ap (λ js. js ++ item m.id o ∷ []) (sym (held_is s n))) f (λ u p i. sym (ap vat_of i))
      where
        vat_of : Lane → ℕ
        vat_of (Held u p) = u
        vat_of other = v

    way_comes : (a b : ℕ) → Came (Way a b) ((W s).stands (Way a b)) ((W t).stands (Way a b)) → Comes script honest w v act head s t m (Way a b)
    way_comes a b (none_more e) = none_came e
    way_comes a b (one_more n e f) = came_last n e f (λ u p i. absurd (cc))

    other_queue : (u : ℕ) → slice_get (world.put_at v t w.vats) u ≡ slice_get (world.put_at v s w.vats) u → (W t).stands (Queue u) ≡ (W s).stands (Queue u)
    unfolding ways ways_of stands_at amid
    other_queue u e = ap (λ o. elim o [ Some x ↦ queued x.queue | None ↦ [] ]) e

    other_held : (u : ℕ) (n : Name) → slice_get (world.put_at v t w.vats) u ≡ slice_get (world.put_at v s w.vats) u → (W t).stands (Held u n) ≡ (W s).stands (Held u n)
    unfolding ways ways_of stands_at amid
    other_held u n e = ap (λ o. elim o [ Some x ↦ held_in n (refs.entry_of (names script u) x.known n) | None ↦ [] ]) e

    lanes_come : Came (Queue v) (queued s.queue) (queued t.queue) → ((n : Name) → Came (Held v n) (held_in n (refs.entry_of K s.known n)) (held_in n (refs.entry_of K t.known n)))
        → ((a b : ℕ) → Came (Way a b) ((W s).stands (Way a b)) ((W t).stands (Way a b))) → (l : Lane) → Comes script honest w v act head s t m l
    lanes_come cq ch cw (Queue u) = elim (put_either v s t w.vats u) [ inl e ↦ subst (λ z. Comes script honest w v act head s t m (Queue z)) (sym e.0) (queue_comes cq) | inr e ↦ none_came (other_queue u e) ]
    lanes_come cq ch cw (Held u n) = elim (put_either v s t w.vats u) [ inl e ↦ subst (λ z. Comes script honest w v act head s t m (Held z n)) (sym e.0) (held_comes n (ch n)) | inr e ↦ none_came (other_held u n e) ]
    lanes_come cq ch cw (Way a b) = way_comes a b (cw a b)

    -- ---- where no note is put

    ways_same : t.outbox ≡ s.outbox → (a b : ℕ) → Came (Way a b) ((W s).stands (Way a b)) ((W t).stands (Way a b))
    unfolding ways ways_of stands_at amid
    ways_same e a b = none_more (ap (λ ps. Row script honest (world.link_at a b (world.push_all v ps w.links))) e)

    notes_same : t.outbox ≡ s.outbox → (u g : ℕ) (front : List (Note Name)) (d : Delivery Name) (n : Name) (ys : Passeds Name) → Brings (went v w head t) u g front d n ys → Brings From u g front d n ys
    unfolding went
    notes_same e u g front d n ys b = of_on From u g front d n ys (subst (λ ps. On (world.push_all v ps w.links) u g front d n ys) e (on_of (went v w head t) u g front d n ys b))

  -- ---- the message is numbered, and its line is told

  module _ (q : Vat Name) (f : Message Name) (y : Value Name) (queue : q.queue ≡ s.queue) (held : (n : Name) → held_in n (refs.entry_of K q.known n) ≡ held_in n (refs.entry_of K s.known n)) (outbox : q.outbox ≡ s.outbox)
      (line : q.happened ≡ s.happened ++ Sends act m ∷ []) (id : f.id ≡ m.id) where
    -- it is queued
    data_queued : (z : Value Name) → ((n : Name) → z ≡ Ref n → ⊥) → queued (s.queue ++ record f { target = z } ∷ []) ≡ queued s.queue
    unfolding queued
    data_queued (Ref n) e = absurd (e n refl)
    data_queued Null e = queued_append s.queue (record f { target = Null } ∷ []) ∙ append-nil (queued s.queue)
    data_queued (Flag b) e = queued_append s.queue (record f { target = Flag b } ∷ []) ∙ append-nil (queued s.queue)
    data_queued (Number b) e = queued_append s.queue (record f { target = Number b } ∷ []) ∙ append-nil (queued s.queue)
    data_queued (Letter b) e = queued_append s.queue (record f { target = Letter b } ∷ []) ∙ append-nil (queued s.queue)
    data_queued (Text b) e = queued_append s.queue (record f { target = Text b } ∷ []) ∙ append-nil (queued s.queue)
    data_queued (Prim b) e = queued_append s.queue (record f { target = Prim b } ∷ []) ∙ append-nil (queued s.queue)
    data_queued (Broken b) e = queued_append s.queue (record f { target = Broken b } ∷ []) ∙ append-nil (queued s.queue)
    data_queued (Items b) e = queued_append s.queue (record f { target = Items b } ∷ []) ∙ append-nil (queued s.queue)

    abbrev Queued : Vat Name
    Queued = record q { queue = q.queue ++ record f { target = y } ∷ [] }

    queue_came : (z : Value Name) → Led m.target ≡ aimed v z Near → Came (Queue v) (queued s.queue) (queued (s.queue ++ record f { target = z } ∷ []))
    unfolding aimed
    queue_came (Ref n) e = one_more n (queued_end s.queue (record f { target = Ref n }) n refl ∙ ap (λ i. queued s.queue ++ item i n ∷ []) id) e
    queue_came Null e = none_more (data_queued Null (λ n i. cc))
    queue_came (Flag b) e = none_more (data_queued (Flag b) (λ n i. cc))
    queue_came (Number b) e = none_more (data_queued (Number b) (λ n i. cc))
    queue_came (Letter b) e = none_more (data_queued (Letter b) (λ n i. cc))
    queue_came (Text b) e = none_more (data_queued (Text b) (λ n i. cc))
    queue_came (Prim b) e = none_more (data_queued (Prim b) (λ n i. cc))
    queue_came (Broken b) e = none_more (data_queued (Broken b) (λ n i. cc))
    queue_came (Items b) e = none_more (data_queued (Items b) (λ n i. cc))

    pub near : Led m.target ≡ aimed v y Near → IfGives Rest (enqueue (record f { target = y }) q)
    unfolding enqueue world.events_of
    near e = record {
      after = [];
      happened = line;
      quiet = tt;
      comes_there = lanes_come Queued (subst (λ ms. Came (Queue v) (queued s.queue) (queued (ms ++ record f { target = y } ∷ []))) (sym queue) (queue_came y e)) (λ n. none_more (held n)) (ways_same Queued outbox);
      notes = λ u g front d n ys b. inl (notes_same Queued outbox u g front d n ys b);
    }

    -- it is held for a name of the vat's own
    module _ (n : Name) (k : Known Name) (knows : refs.entry_of K q.known n ≡ Some k) (waits : IsWaiting k.standing) (e : Led m.target ≡ End (Held v n) n) where
      abbrev Holding : Vat Name
      Holding = record q { known = state.with_change K (Hold (record f { target = y })) n q.known }

      held_came : (o : Name) → Came (Held v o) (held_in o (refs.entry_of K s.known o)) (held_in o (refs.entry_of K Holding.known o))
      unfolding held_in
      held_came o = go (differs script v (Hold (record f { target = y })) n o q.known) refl refl
        where
          go : {a b : Option (Known Name)} → Differs script v (Hold (record f { target = y })) n o a b → refs.entry_of K q.known o ≡ a → refs.entry_of K Holding.known o ≡ b → Came (Held v o) (held_in o (refs.entry_of K s.known o)) (held_in o (refs.entry_of K Holding.known o))
          go (as_it_was i) a b = none_more (ap (held_in o) (b ∙ i ∙ sym a) ∙ held o)
          go (changes j i x z) a b = one_more n (ap (held_in o) (b ∙ z) ∙ ap (held_on o) (held_by j (record f { target = y }) (subst (λ (c : Known Name). IsWaiting c.standing) waiting waits)) ∙ held_end o j.held (record f { target = y }) ∙ ap (λ js. js ++ item f.id o ∷ []) (sym (ap (held_in o) (a ∙ x)) ∙ held o) ∙ ap (λ (c : Item). held_in o (refs.entry_of K s.known o) ++ c ∷ []) (ap (λ c. item c o) id ∙ ap (item m.id) i)) (e ∙ ap (λ c. End (Held v c) n) (sym i))
            where
              waiting : k ≡ j
              waiting = some_is (sym knows ∙ ap (refs.entry_of K q.known) (sym i) ∙ a ∙ x)
                where
                  some_is : Some k ≡ Some j → k ≡ j
                  some_is c = cc

      pub mine : IfGives Rest (alter K (Hold (record f { target = y })) n q)
      unfolding alter world.events_of
      mine = record {
        after = [];
        happened = line;
        quiet = tt;
        comes_there = lanes_come Holding (none_more (ap queued queue)) held_came (ways_same Holding outbox);
        notes = λ u g front d o ys b. inl (notes_same Holding outbox u g front d o ys b);
      }

    -- it goes out in a note
    module _ (h : ℕ) (n : Name) (rh : Vat Name) (there : slice_get w.vats h ≡ Some rh) (number : rh.number ≡ h) (other : h ≡ v → ⊥) (plain : (o : Name) → IsObject o → refs.entry_of (names script h) rh.known o ≡ None)
        (can : CanPass script honest w v h rh q) (grown : Grown script honest w v s q) (args : f.args ≡ m.args)
        (came : (done : List Event) → IsTold script done → (d : ℕ) → AllCame (λ z x. CameAs script honest w v h d q done z x) (plains f.args) f.args) (e : Led m.target ≡ End (Way v h) n) where
      abbrev Mail : Passeds Name → Note Name
      Mail ys = Deliver (refs.delivery_of K f) n f.verb ys

      abbrev Out : Passeds Name → Vat Name → Vat Name
      Out ys t = record t { happened = t.happened ++ Posted h f.id ∷ []; outbox = t.outbox ++ record { to = h; note = Mail ys } ∷ [] }

      -- the vat passes the arguments, whatever the history of the run will tell by then
      record Passing (done : List Event) (ys : Passeds Name) (t : Vat Name) : Type 0 where
        pub passed : AllPass script honest w v h r rh everyone at there number other plain done q (plains f.args) ys t

      passing : OnGives (λ ys t. (done : List Event) → IsTold script done → Passing done ys t) (refs.pass_all K h f.args q)
      passing = all_gives {I = List Event} (λ done ys t. IsTold script done → Passing done ys t) (refs.pass_all K h f.args q) (λ done. told_gives (IsTold script done) (Passing done) (refs.pass_all K h f.args q)
          (λ so. go done (refs.pass_all K h f.args q) (passed_all script honest w v h r rh everyone at there number other plain done (plains f.args) f.args q can (came done so))))
        where
          go : (done : List Event) (d : Done Name (Passeds Name)) → OnGives (AllPass script honest w v h r rh everyone at there number other plain done q (plains f.args)) d → OnGives (Passing done) d
          go done (Gives ys t) p = record { passed = p }
          go done other p = tt

          told_gives : (I : Type 0) (P : Passeds Name → Vat Name → Type 0) (d : Done Name (Passeds Name)) → (I → OnGives P d) → OnGives (λ ys t. I → P ys t) d
          told_gives I P (Gives ys t) f = f
          told_gives I P other f = tt

      module _ (ys : Passeds Name) (t : Vat Name) (passed : (done : List Event) → IsTold script done → Passing done ys t) where
        step : Step script honest w v h r rh everyone at there number other plain q t
        step = (passed [] (nothing_told script)).passed.step

        abbrev T : Vat Name
        T = Out ys t

        told : T.happened ≡ s.happened ++ (Sends act m ∷ Posted h f.id ∷ [])
        told = ap (λ es. es ++ Posted h f.id ∷ []) (step.happened ∙ line) ∙ append_assoc s.happened (Sends act m ∷ []) (Posted h f.id ∷ [])

        quiet_after : AllQuiet (world.events_of w.links v (Posted h f.id ∷ []))
        unfolding world.events_of world.event_of Rattle.law_order.specs.History.Lines.counts
        quiet_after = go (world.is_cut v h w.links)
          where
            go : (b : Bool) → AllQuiet ((elim b [ true ↦ world.LostCut f.id ∷ [] | false ↦ [] ]) ++ [])
            go true = (refl, tt)
            go false = tt

        -- the links with the notes that came before it
        abbrev Before : List Link
        Before = world.push_all v t.outbox w.links

        abbrev Start : List Link
        Start = world.push_all v s.outbox w.links

        before : Before ≡ world.push_all v step.puts Start
        before = ap (λ ps. world.push_all v ps w.links) (step.outbox ∙ ap (λ ps. ps ++ step.puts) outbox) ∙ push_append v s.outbox step.puts w.links

        abbrev Then : List Link
        Then = world.with_link (world.pushed (Mail ys)) v h Before

        then_links : world.push_all v T.outbox w.links ≡ Then
        unfolding world.push_all
        then_links = push_append v t.outbox (record { to = h; note = Mail ys } ∷ []) w.links

        row_before : (a b : ℕ) → Row script honest (world.link_at a b Before) ≡ Row script honest (world.link_at a b Start)
        row_before a b = ap (λ ls. Row script honest (world.link_at a b ls)) before ∙ rows_still script honest everyone a b v step.puts step.silent Start

        ways_came : (a b : ℕ) → Came (Way a b) ((W s).stands (Way a b)) ((W T).stands (Way a b))
        unfolding ways ways_of stands_at amid delivered
        ways_came a b = go (row_grew script honest everyone v h (Mail ys) a b Before)
          where
            now : Row script honest (world.link_at a b (world.push_all v T.outbox w.links)) ≡ Row script honest (world.link_at a b Then)
            now = ap (λ ls. Row script honest (world.link_at a b ls)) then_links

            go : RowGrew script honest everyone v h (Mail ys) a b (Row script honest (world.link_at a b Before)) (Row script honest (world.link_at a b Then)) → Came (Way a b) (Row script honest (world.link_at a b Start)) (Row script honest (world.link_at a b (world.push_all v T.outbox w.links)))
            go (row_same i) = none_more (now ∙ i ∙ row_before a b)
            go (row_more x y i) = one_more n (now ∙ i ∙ ap (λ js. js ++ item f.id n ∷ []) (row_before a b) ∙ ap (λ c. Row script honest (world.link_at a b Start) ++ item c n ∷ []) id) (e ∙ ap (λ c. End (Way c h) n) (sym x) ∙ ap (λ c. End (Way a c) n) (sym y))

        -- ---- what the note brings

        abbrev There : Vat Name
        There = record t { happened = t.happened ++ Posted h f.id ∷ [] }

        grows_out : (a : Name) (c : lanes.Place) → Ahead (W t) a c → Ahead (W T) a c
        grows_out a c k =
            let i = (growing_keeps (W t) (W There) (adding_grows script honest w v t There (adds_nothing K t There refl refl refl refl refl refl)) c).1 a k in
            (growing_keeps (W There) (W T) (adding_grows script honest w v There T (adds_note K There (record { to = h; note = Mail ys }) tt)) c).1 a i

        in_front : (front : List (Note Name)) (i : Item) (l : Link) → world.link_at v h Before ≡ Some l → front ≡ l.notes → Within ((W t).stands (Way v h)) (delivered front ++ i ∷ [])
        unfolding ways ways_of stands_at amid
        in_front front i l x y j k = left (delivered front) (subst (IsIn j) (ap (Row script honest) x ∙ on_link script honest everyone l ∙ ap delivered (sym y)) k)
          where
            left : (js : List Item) → IsIn j js → IsIn j (js ++ i ∷ [])
            left [] z = absurd z
            left (c ∷ js) (inl z) = inl z
            left (c ∷ js) (inr z) = inr (left js z)

        brings : (u g : ℕ) (front : List (Note Name)) (d : Delivery Name) (o : Name) (zs : Passeds Name) → IsPut Before v h (Mail ys) u g front d o zs → BringsIt script honest w v act head s T m u g front d o zs
        brings u g front d o zs p = record { message = message ∙ id; sender = p.from; behind = behind }
          where
            is : Deliver d o p.verb zs ≡ Mail ys
            is = p.is

            message : d.message ≡ f.id
            message = ap (λ (x : Delivery Name). x.message) delivery
              where
                delivery : d ≡ refs.delivery_of K f
                delivery = cc

            args_are : zs ≡ ys
            args_are = cc

            behind : (done : List Event) → IsTold script done → (c x : Name) → IsAmong x (all_pass_as v done c zs (plains m.args)) → (a : Name) → Ahead (W s) a (Led (Ref c)) → Ahead (W T) a (passing_place u g front d o x)
            behind done so c x i a k =
                let j : IsAmong x (all_pass_as v done c ys (plains f.args)) = subst (λ zs. IsAmong x (all_pass_as v done c zs (plains f.args))) args_are (subst (λ xs. IsAmong x (all_pass_as v done c zs (plains xs))) (sym args) i) in
                let b : BringsBehind script honest w v h q t (LeadsAmid script honest w v q v (Ref c)) x = (passed done so).passed.behind c x j in
                let k' : Ahead (W q) a (LeadsAmid script honest w v q v (Ref c)) = subst (λ z. Ahead (W q) a z) (sym (grown.leading v (Ref c))) ((growing_keeps (W s) (W q) grown.grows (Led (Ref c))).1 a k) in
                let found : world.link_at v h Before ≡ Some p.link = subst (λ z. world.link_at z h Before ≡ Some p.link) p.from (subst (λ z. world.link_at u z Before ≡ Some p.link) p.to p.found) in
                let l : Ahead (W t) a (Mid (Way v h) (delivered front ++ item d.message o ∷ []) x) = b a k' (delivered front ++ item d.message o ∷ []) (in_front front (item d.message o) p.link found p.front_is) in
                subst (λ z. Ahead (W T) a (passing_place z g front d o x)) (sym p.from) (subst (λ z. Ahead (W T) a (passing_place v z front d o x)) (sym p.to) (grows_out a (Mid (Way v h) (delivered front ++ item d.message o ∷ []) x) l))

        notes : (u g : ℕ) (front : List (Note Name)) (d : Delivery Name) (o : Name) (zs : Passeds Name) → Brings (went v w head T) u g front d o zs → Brings From u g front d o zs ⊎ BringsIt script honest w v act head s T m u g front d o zs
        unfolding went
        notes u g front d o zs b = elim (on_back v h (Mail ys) u g Before front d o zs (subst (λ ls. On ls u g front d o zs) then_links (on_of (went v w head T) u g front d o zs b))) [
          | inl k ↦ inl (of_on From u g front d o zs (on_back_all v step.puts step.silent Start u g front d o zs (subst (λ ls. On ls u g front d o zs) before k)))
          | inr k ↦ inr (brings u g front d o zs k)
        ]

        out : Rest T
        out = record {
          after = Posted h f.id ∷ [];
          happened = told;
          quiet = quiet_after;
          comes_there = lanes_come T (none_more (ap queued (step.queue ∙ queue))) (λ o. none_more (step.held o ∙ held o)) ways_came;
          notes = notes;
        }

      pub away : IfGives Rest (refs.deliver K f h n q)
      unfolding refs.deliver tell send_out ◌>>=◌ ◌>>◌ and_then
      away = bind_if (λ ys t. (done : List Event) → IsTold script done → Passing done ys t) Rest (refs.pass_all K h f.args q) (λ ys. tell (Posted h f.id) >> send_out h (Mail ys)) passing (λ ys t p. out ys t p)
