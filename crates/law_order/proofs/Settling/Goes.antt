-- The small step by which a held message goes out to another vat: what stands where before and after it, and what its note brings.
use Rattle.std.proofs.Common.{◌≡◌, ℕ, zero, Bool, true, List, [], ◌∷◌, ◌++◌, Some, None, refl, sym, ap, subst, ◌∙◌, inl, inr}
use Rattle.std.specs.Prelude.{slice_get}
use Rattle.def_machine.specs.Values.{Words, Value, Ref, Name, Naming, Foreign}
use Rattle.def_machine.specs.State.{Message, WaitsOn, Known, Passeds, Delivery, Note, Deliver, Put, Posted, Vat}
use Rattle.def_machine.specs.Refs.{entry_of}
use Rattle.def_run.specs.World as world
use Rattle.def_run.specs.World.{Script, Event, Link, World, names, events_of}
use Rattle.law_fate.specs.Name.Names.{AllOf, IsAmong}
use Rattle.law_order.specs.Ordering.Ways.{Lane, Queue, Held, Way, Item, Place, End, Mid, Ways, IsIn, Doom, by_mid, Ahead, doomed_there, in_mid, past_mid}
use Rattle.law_order.specs.Ordering.Turns.{Within}
use Rattle.law_order.specs.Ordering.Order.{Coming, comes, all_pass_as}
use Rattle.law_order.specs.Ordering.Places.{item, queued, held_on, held_in, delivered, stands_at, ways_of, ways, amid}
use Rattle.law_order.specs.Ordering.Messages.{StandsAt}
use Rattle.law_order.specs.Ordering.Steps.{WaysAmid, LeadsAmid, Grown}
use Rattle.law_order.specs.Ordering.Worlds.{IsObject}
use Rattle.law_order.proofs.Ordering.Brought.{passed_home_is_behind}
use Rattle.law_order.proofs.Ordering.Changes.{growing_keeps}
use Rattle.law_order.proofs.Ordering.Lanes.{same_lane}
use Rattle.law_order.proofs.Ordering.Pushing.{push_append}
use Rattle.law_order.proofs.Ordering.Sends.{get_put}
use Rattle.law_order.proofs.Ordering.Standing.{IsQuiet, Row}
use Rattle.law_order.specs.History.Befores.{passing_place, up_to, IsBroughtFrom}
use Rattle.law_order.specs.History.Tells.{IsStillBrought, IsSentOnNow, IsStanding, IsStillHeld, SmallStep}
use Rattle.law_order.specs.History.Told.{IsTold}
use Rattle.law_order.proofs.History.Lines.{last_or}
use Rattle.law_order.proofs.History.Links.{On, on_of, of_on, IsPut, on_back, on_back_all, on_link, RowGrew, row_same, row_more, rows_still, row_grew}
use Rattle.law_order.proofs.History.Same.{brought_once}
use Rattle.law_order.specs.Tales.Middle.{middle}
use Rattle.law_order.proofs.Tales.Middle.{at_vat, events_quiet}
use Rattle.law_order.proofs.Settling.Acts.{story_more}
use Rattle.law_order.proofs.Settling.LetsGo.{From, from_there, from_lane, brought_from}
use Rattle.law_order.proofs.Settling.Out as out
use Rattle.law_order.proofs.Settling.Put.{put_known}
use Rattle.law_order.proofs.Settling.Read.{Real, seen, onward_read}

module _ (script : Script) (honest : ℕ → Bool) (w : World) (v h : ℕ) (head : List Event) (r : Vat Name) (at : slice_get w.vats v ≡ Some r) (p n : Name) (k : Known Name) (far : (names script v).spot n ≡ Foreign h) (object : IsObject n) (plain : IsObject p → ⊥) (named : k.name ≡ p) (hosted : k.host ≡ v)
    (everyone : (u : ℕ) → honest u ≡ true) (link : (l : Link) × (world.link_at v h w.links ≡ Some l)) (m : Message Name) (ms : List (Message Name)) where
  abbrev K : Naming Name Name
  K = names script v

  abbrev W : Vat Name → Ways
  W t = WaysAmid script honest w v t

  abbrev E : Place
  E = End (Way v h) n

  abbrev R : Vat Name → Type 0
  R u = Real script honest w v h r at p n k far object plain named hosted u

  abbrev Full : Vat Name → Vat Name
  Full u = record u { known = put_known K p (record k { standing = WaitsOn n; held = m ∷ ms }) u.known }

  abbrev Rest : Vat Name → Vat Name
  Rest u = record u { known = put_known K p (record k { standing = WaitsOn n; held = ms }) u.known }

  -- From s to q the vat passed the message's arguments, and got a new answer for it if it has one.
  pub record Passed (s q : Vat Name) (ys zs : Passeds Name) : Type 0 where
    pub grown : Grown script honest w v (Full s) (Full q)
    pub queue : q.queue ≡ s.queue
    pub held : (a : Name) → held_in a (entry_of K (Full q).known a) ≡ held_in a (entry_of K (Full s).known a)
    pub happened : q.happened ≡ s.happened
    pub puts : List (Put Name)
    pub outbox : q.outbox ≡ s.outbox ++ puts
    pub silent : AllOf (λ x. IsQuiet x.note) puts
    pub behind : (done : List Event) → IsTold script done → (e o : Name) → IsAmong o (all_pass_as v done e ys zs) → (a : Name) (c : Place) → IsBroughtFrom (Held v p) (item m.id p ∷ []) (LeadsAmid script honest w v (Full s) v (Ref e)) c → Ahead (W (Full s)) a c
        → (bs : List Item) → Within ((W (Full q)).stands (Way v h)) bs → IsIn (item m.id n) bs → Ahead (W (Full q)) a (Mid (Way v h) bs o)

  module _ (s q : Vat Name) (gs : R s) (g : R q) (d : Delivery Name) (is : d.message ≡ m.id) (verb : Words) (ys : Passeds Name) (coming : Coming) (came : comes v m.id zero (middle w v head s).history ≡ Some coming) (passed : Passed s q ys coming.args) where
    abbrev Mail : Note Name
    Mail = Deliver d n verb ys

    abbrev Out : Vat Name
    Out = record q { happened = q.happened ++ Posted h m.id ∷ []; outbox = q.outbox ++ record { to = h; note = Mail } ∷ [] }

    abbrev X : World
    X = middle w v head (Full s)

    abbrev Y : World
    Y = middle w v head (Rest Out)

    abbrev keeps_out : (c : Place) (a : Name) → Ahead (W (Full q)) a c → Ahead (W (Rest Out)) a c
    keeps_out c a i = (out.keeps_out script honest w v h r at p n k far object plain named hosted everyone link m ms q g d is verb ys c).1 a i

    grows : (c : Place) (a : Name) → Ahead (W (Full s)) a c → Ahead (W (Full q)) a c
    grows c a i = (growing_keeps (W (Full s)) (W (Full q)) passed.grown.grows c).1 a i

    keeps : (c : Place) (a : Name) → Ahead (W (Full s)) a c → Ahead (W (Rest Out)) a c
    keeps c a i = keeps_out c a (grows c a i)

    leads_now : (u : ℕ) (x : Value Name) → LeadsAmid script honest w v (Rest Out) u x ≡ LeadsAmid script honest w v (Full s) u x
    leads_now u x = out.leads_out script honest w v h r at p n k far object plain named hosted everyone link m ms q g d is verb ys u x ∙ passed.grown.leading u x

    -- ---- what stands where

    held_before : (W (Full s)).stands (Held v p) ≡ item m.id p ∷ held_on p ms
    unfolding ways ways_of amid stands_at held_in held_on
    held_before = ap (λ o. elim o [ Some x ↦ held_in p (entry_of K x.known p) | None ↦ [] ]) (get_put w.vats v r (Full s) at) ∙ ap (held_in p) (seen script honest w v h r at p n k far object plain named hosted (m ∷ ms) s gs)

    held_now : (W (Rest Out)).stands (Held v p) ≡ held_on p ms
    unfolding ways ways_of amid stands_at held_in
    held_now = ap (λ o. elim o [ Some x ↦ held_in p (entry_of K x.known p) | None ↦ [] ]) (get_put w.vats v r (Rest Out) at) ∙ ap (held_in p) (seen script honest w v h r at p n k far object plain named hosted ms q g)

    queue_now : (u : ℕ) → (W (Rest Out)).stands (Queue u) ≡ (W (Full s)).stands (Queue u)
    unfolding ways ways_of amid stands_at
    queue_now u = at_vat (λ x. queued x.queue) [] v u (Full s) (Rest Out) w.vats (λ e. ap queued passed.queue)

    else_held : (u : ℕ) (a : Name) → (Held u a ≡ Held v p → ⊥) → (W (Rest Out)).stands (Held u a) ≡ (W (Full q)).stands (Held u a)
    unfolding ways ways_of amid stands_at
    else_held u a f = at_vat (λ x. held_in a (entry_of (names script u) x.known a)) [] v u (Rest q) (Rest Out) w.vats (λ e. refl) ∙ out.stand_else script honest w v h r at p n k far object plain named hosted everyone link m ms q g d is verb ys (Held u a) f

    full_held : (u : ℕ) (a : Name) → (W (Full q)).stands (Held u a) ≡ (W (Full s)).stands (Held u a)
    unfolding ways ways_of amid stands_at
    full_held u a = at_vat (λ x. held_in a (entry_of (names script u) x.known a)) [] v u (Full s) (Full q) w.vats (λ e. subst (λ z. held_in a (entry_of (names script z) (Full q).known a) ≡ held_in a (entry_of (names script z) (Full s).known a)) (sym e) (passed.held a))

    -- the links with the notes that came before it
    abbrev Before : List Link
    Before = world.push_all v q.outbox w.links

    abbrev Start : List Link
    Start = world.push_all v s.outbox w.links

    abbrev Then : List Link
    Then = world.with_link (world.pushed Mail) v h Before

    before : Before ≡ world.push_all v passed.puts Start
    before = ap (λ ps. world.push_all v ps w.links) passed.outbox ∙ push_append v s.outbox passed.puts w.links

    then_links : world.push_all v Out.outbox w.links ≡ Then
    unfolding world.push_all
    then_links = push_append v q.outbox (record { to = h; note = Mail } ∷ []) w.links

    row_before : (a b : ℕ) → Row script honest (world.link_at a b Before) ≡ Row script honest (world.link_at a b Start)
    row_before a b = ap (λ ls. Row script honest (world.link_at a b ls)) before ∙ rows_still script honest everyone a b v passed.puts passed.silent Start

    -- nothing came to the link; or the message did, last
    data Came (a b : ℕ) : Type 0 where
      none_came : (W (Rest Out)).stands (Way a b) ≡ (W (Full s)).stands (Way a b) → Came a b
      came_last : a ≡ v → b ≡ h → (W (Rest Out)).stands (Way a b) ≡ (W (Full s)).stands (Way a b) ++ item d.message n ∷ [] → Came a b

    way_now : (a b : ℕ) → Came a b
    unfolding ways ways_of stands_at amid delivered
    way_now a b = go (row_grew script honest everyone v h Mail a b Before)
      where
        now : Row script honest (world.link_at a b (world.push_all v Out.outbox w.links)) ≡ Row script honest (world.link_at a b Then)
        now = ap (λ ls. Row script honest (world.link_at a b ls)) then_links

        go : RowGrew script honest everyone v h Mail a b (Row script honest (world.link_at a b Before)) (Row script honest (world.link_at a b Then)) → Came a b
        go (row_same i) = none_came (now ∙ i ∙ row_before a b)
        go (row_more x y i) = came_last x y (now ∙ i ∙ ap (λ js. js ++ item d.message n ∷ []) (row_before a b))

    -- ---- where messages stood

    -- behind one less in the lane
    drop_front : (a : Name) (bs : List Item) (o : Name) → Ahead (W (Rest Out)) a (Mid (Held v p) (item m.id p ∷ bs) o) → Ahead (W (Rest Out)) a (Mid (Held v p) bs o)
    drop_front a bs o (doomed_there (by_mid x)) = doomed_there (by_mid x)
    drop_front a bs o (in_mid (inl i) f) = past_mid (subst (Ahead (W (Rest Out)) a) (sym (out.onward_out script honest w v h r at p n k far object plain named hosted everyone link m ms q g d is verb ys o)) (subst (λ z. Ahead (W (Rest Out)) z E) (sym (ap (λ (y : Item). y.mail) i)) (out.ahead_out script honest w v h r at p n k far object plain named hosted everyone link m ms q g d is verb ys)))
    drop_front a bs o (in_mid (inr i) f) = in_mid i f
    drop_front a bs o (past_mid x) = past_mid x

    -- what is ahead of the first that is held is ahead of what comes to the link next
    to_link : (a o : Name) → Ahead (W (Full s)) a (Mid (Held v p) [] o) → Ahead (W (Full s)) a (Mid (Way v h) ((W (Full s)).stands (Way v h)) n)
    to_link a o (doomed_there (by_mid x)) = passed_home_is_behind (W (Full s)) v h ((W (Full s)).stands (Way v h)) n a (λ i j. j) (doomed_there (subst (Doom (W (Full s))) (onward_read script honest w v h r at p n k far object plain named hosted (m ∷ ms) s gs o) x))
    to_link a o (in_mid i f) = absurd i
    to_link a o (past_mid x) = passed_home_is_behind (W (Full s)) v h ((W (Full s)).stands (Way v h)) n a (λ i j. j) (subst (Ahead (W (Full s)) a) (onward_read script honest w v h r at p n k far object plain named hosted (m ∷ ms) s gs o) x)

    abbrev Stood : Name → Lane → List Item → Name → Type 0
    Stood a l c o = IsStanding script honest X Y a l c o

    there : (a : Name) (l : Lane) (c : List Item) (o : Name) → StandsAt (W (Full s)) a l c o → Stood a l c o
    unfolding ways amid
    there a l c o i = record { lane = l; before = c; aim = o; stood = i; keeps = λ b j. inr (keeps (Mid l c o) b j) }

    held_there : (a : Name) (c : List Item) (o : Name) → StandsAt (W (Rest Out)) a (Held v p) c o → StandsAt (W (Full s)) a (Held v p) (item m.id p ∷ c) o
    held_there a c o i = record { behind = i.behind; found = held_before ∙ ap (λ js. item m.id p ∷ js) (sym held_now ∙ i.found) }

    in_held : (a : Name) (c : List Item) (o : Name) → StandsAt (W (Rest Out)) a (Held v p) c o → Stood a (Held v p) c o
    unfolding ways amid
    in_held a c o i = record { lane = Held v p; before = item m.id p ∷ c; aim = o; stood = held_there a c o i; keeps = λ b j. inr (drop_front b c o (keeps (Mid (Held v p) (item m.id p ∷ c) o) b j)) }

    new_there : (a : Name) (c : List Item) (o : Name) → a ≡ m.id → c ≡ (W (Full s)).stands (Way v h) → o ≡ n → Stood a (Way v h) c o
    unfolding ways amid
    new_there a c o e f i = record {
      lane = Held v p;
      before = [];
      aim = p;
      stood = record { behind = held_on p ms; found = held_before ∙ ap (λ z. item z p ∷ held_on p ms) (sym e) };
      keeps = λ b j. inr (subst (λ z. Ahead (W (Rest Out)) b (Mid (Way v h) z o)) (sym f) (subst (λ z. Ahead (W (Rest Out)) b (Mid (Way v h) ((W (Full s)).stands (Way v h)) z)) (sym i) (keeps (Mid (Way v h) ((W (Full s)).stands (Way v h)) n) b (to_link b p j))));
    }

    same_there : (a : Name) (l : Lane) (c : List Item) (o : Name) → (W (Rest Out)).stands l ≡ (W (Full s)).stands l → StandsAt (W (Rest Out)) a l c o → StandsAt (W (Full s)) a l c o
    same_there a l c o e i = record { behind = i.behind; found = sym e ∙ i.found }

    in_way : (x y : ℕ) (a : Name) (c : List Item) (o : Name) → StandsAt (W (Rest Out)) a (Way x y) c o → Stood a (Way x y) c o
    in_way x y a c o i = go (way_now x y)
      where
        go : Came x y → Stood a (Way x y) c o
        go (none_came e) = there a (Way x y) c o (same_there a (Way x y) c o e i)
        go (came_last e f j) = elim (last_or ((W (Full s)).stands (Way x y)) c (item d.message n) (item a o) i.behind (sym j ∙ i.found)) [
          | inl z ↦ there a (Way x y) c o (record { behind = z.0; found = z.1 })
          | inr z ↦ subst (λ t. Stood a (Way t y) c o) (sym e) (subst (λ t. Stood a (Way v t) c o) (sym f) (new_there a c o (ap (λ (b : Item). b.mail) z.same ∙ is) (z.front ∙ ap (λ t. (W (Full s)).stands (Way t y)) e ∙ ap (λ t. (W (Full s)).stands (Way v t)) f) (ap (λ (b : Item). b.aim) z.same)))
        ]

    else_there : (u : ℕ) (b a : Name) (c : List Item) (o : Name) → (Held u b ≡ Held v p → ⊥) → StandsAt (W (Rest Out)) a (Held u b) c o → StandsAt (W (Full s)) a (Held u b) c o
    else_there u b a c o f i = same_there a (Held u b) c o (else_held u b f ∙ full_held u b) i

    messages : (a : Name) (l : Lane) (c : List Item) (o : Name) → StandsAt (W (Rest Out)) a l c o → Stood a l c o
    messages a (Queue u) c o i = there a (Queue u) c o (same_there a (Queue u) c o (queue_now u) i)
    messages a (Held u b) c o i = elim (same_lane (Held u b) (Held v p)) [
      | inl e ↦ subst (λ l. Stood a l c o) (sym e) (in_held a c o (subst (λ l. StandsAt (W (Rest Out)) a l c o) e i))
      | inr f ↦ there a (Held u b) c o (else_there u b a c o f i)
    ]
    messages a (Way x y) c o i = in_way x y a c o i

    -- ---- what notes bring

    abbrev Old : ℕ → ℕ → List (Note Name) → Delivery Name → Name → Passeds Name → Type 0
    Old u x front e o zs = IsStillBrought script honest X Y u x front e o zs

    abbrev New : ℕ → ℕ → List (Note Name) → Delivery Name → Name → Passeds Name → Type 0
    New u x front e o zs = IsSentOnNow script honest X Y u x front e o zs

    old_brought : (u x : ℕ) (front : List (Note Name)) (e : Delivery Name) (o : Name) (zs : Passeds Name) → On Before u x front e o zs → Old u x front e o zs
    unfolding ways amid
    old_brought u x front e o zs b = record {
      before = front;
      brings = of_on X u x front e o zs (on_back_all v passed.puts passed.silent Start u x front e o zs (subst (λ ls. On ls u x front e o zs) before b));
      keeps = λ a c j. inr (keeps (passing_place u x front e o c) a j);
    }

    row_of : (l : Link) → world.link_at v h Before ≡ Some l → (W (Full q)).stands (Way v h) ≡ delivered l.notes
    unfolding ways ways_of stands_at amid
    row_of l e = ap (Row script honest) e ∙ on_link script honest everyone l

    left : (js : List Item) (i j : Item) → IsIn j js → IsIn j (js ++ i ∷ [])
    left [] i j z = absurd z
    left (c ∷ js) i j (inl z) = inl z
    left (c ∷ js) i j (inr z) = inr (left js i j z)

    last_in : (js : List Item) (i : Item) → IsIn i (js ++ i ∷ [])
    last_in [] i = inl refl
    last_in (c ∷ js) i = inr (last_in js i)

    new_brought : (u x : ℕ) (front : List (Note Name)) (e : Delivery Name) (o : Name) (zs : Passeds Name) → IsPut Before v h Mail u x front e o zs → New u x front e o zs
    unfolding ways amid
    new_brought u x front e o zs b = record {
      held_for = p;
      aim = p;
      before = [];
      stood = record { behind = held_on p ms; found = at_vat_v ∙ ap (λ z. item z p ∷ held_on p ms) (sym message) };
      coming = coming;
      came = subst (λ z. comes z e.message zero X.history ≡ Some coming) (sym b.from) (subst (λ z. comes v z zero X.history ≡ Some coming) (sym message) came);
      keeps = λ done told a i c y f j z. inr (keeps_new done told a i c y f j z);
    }
      where
        delivery : e ≡ d
        delivery = delivery_of b.is
          where
            delivery_of : Deliver e o b.verb zs ≡ Deliver d n verb ys → e ≡ d
            delivery_of t = cc

        aim_is : o ≡ n
        aim_is = aim_of b.is
          where
            aim_of : Deliver e o b.verb zs ≡ Deliver d n verb ys → o ≡ n
            aim_of t = cc

        args_are : zs ≡ ys
        args_are = args_of b.is
          where
            args_of : Deliver e o b.verb zs ≡ Deliver d n verb ys → zs ≡ ys
            args_of t = cc

        message : e.message ≡ m.id
        message = ap (λ (t : Delivery Name). t.message) delivery ∙ is

        at_vat_v : (W (Full s)).stands (Held u p) ≡ item m.id p ∷ held_on p ms
        at_vat_v = subst (λ z. (W (Full s)).stands (Held z p) ≡ item m.id p ∷ held_on p ms) (sym b.from) held_before

        found : world.link_at v h Before ≡ Some b.link
        found = subst (λ z. world.link_at z h Before ≡ Some b.link) b.from (subst (λ z. world.link_at u z Before ≡ Some b.link) b.to b.found)

        front_is : delivered front ≡ (W (Full q)).stands (Way v h)
        front_is = ap delivered b.front_is ∙ sym (row_of b.link found)

        item_is : item e.message o ≡ item m.id n
        item_is = ap (λ z. item z o) message ∙ ap (λ z. item m.id z) aim_is

        keeps_at : (done : List Event) → IsTold script done → (a i c : Name) (y : Place) → IsBroughtFrom (Held v p) (item m.id p ∷ []) (LeadsAmid script honest w v (Full s) v (Ref i)) y → IsAmong c (all_pass_as v done i ys coming.args) → Ahead (W (Full s)) a y
            → Ahead (W (Rest Out)) a (Mid (Way v h) (delivered front ++ item e.message o ∷ []) c)
        keeps_at done told a i c y f j z = keeps_out (Mid (Way v h) (delivered front ++ item e.message o ∷ []) c) a (passed.behind done told i c j a y f z (delivered front ++ item e.message o ∷ [])
            (λ t x. left (delivered front) (item e.message o) t (subst (IsIn t) (sym front_is) x)) (subst (λ t. IsIn t (delivered front ++ item e.message o ∷ [])) item_is (last_in (delivered front) (item e.message o))))

        keeps_new : (done : List Event) → IsTold script done → (a i c : Name) (y : Place) → IsBroughtFrom (Held u p) (up_to [] e.message p) (LeadsAmid script honest w v (Full s) u (Ref i)) y → IsAmong c (all_pass_as u done i zs coming.args) → Ahead (W (Full s)) a y
            → Ahead (W (Rest Out)) a (passing_place u x front e o c)
        keeps_new done told a i c y f j z = subst (λ t. Ahead (W (Rest Out)) a (passing_place t x front e o c)) (sym b.from) (subst (λ t. Ahead (W (Rest Out)) a (passing_place v t front e o c)) (sym b.to)
            (keeps_at done told a i c y (subst (λ t. IsBroughtFrom (Held v p) (item t p ∷ []) (LeadsAmid script honest w v (Full s) v (Ref i)) y) message (subst (λ t. IsBroughtFrom (Held t p) (up_to [] e.message p) (LeadsAmid script honest w v (Full s) t (Ref i)) y) b.from f))
            (subst (λ t. IsAmong c (all_pass_as v done i t coming.args)) args_are (subst (λ t. IsAmong c (all_pass_as t done i zs coming.args)) b.from j)) z))

    -- ---- what held messages would bring

    still_held : (u b : ℕ) (a e : Name) (c : List Item) (o : Name) → (Held u a ≡ Held v p → ⊥) → StandsAt (W (Rest Out)) e (Held u a) c o → IsStillHeld script honest X Y u a e (up_to c e o)
    unfolding ways amid
    still_held u b a e c o f i = record {
      before = c;
      aim = o;
      stood = else_there u a e c o f i;
      keeps = λ x t y z j l n0. inr (subst (Ahead (W (Rest Out)) x) (brought_once (Held u a) (up_to c e o) (LeadsAmid script honest w v (Full s) u (Ref t)) y z j (subst (λ d0. IsBroughtFrom (Held u a) (up_to c e o) d0 z) (leads_now u (Ref t)) l)) (keeps y x n0));
    }

    first_held : (e : Name) (c : List Item) (o : Name) → StandsAt (W (Rest Out)) e (Held v p) c o → IsStillHeld script honest X Y v p e (up_to c e o)
    unfolding ways amid
    first_held e c o i = record {
      before = item m.id p ∷ c;
      aim = o;
      stood = held_there e c o i;
      keeps = λ x t y z j l b. inr (go x t y z (brought_from (Held v p) (item m.id p ∷ up_to c e o) (LeadsAmid script honest w v (Full s) v (Ref t)) y j)
          (brought_from (Held v p) (up_to c e o) (LeadsAmid script honest w v (Full s) v (Ref t)) z (subst (λ d0. IsBroughtFrom (Held v p) (up_to c e o) d0 z) (leads_now v (Ref t)) l)) b);
    }
      where
        one_name : (l : Lane) (a b : Name) → End l a ≡ End l b → a ≡ b
        one_name l a b f = cc

        go : (x t : Name) (y z : Place) → From (Held v p) (item m.id p ∷ up_to c e o) (LeadsAmid script honest w v (Full s) v (Ref t)) y → From (Held v p) (up_to c e o) (LeadsAmid script honest w v (Full s) v (Ref t)) z → Ahead (W (Full s)) x y → Ahead (W (Rest Out)) x z
        go x t y z (from_there e1 f1) (from_there e2 f2) b = subst (Ahead (W (Rest Out)) x) (sym e2) (keeps (LeadsAmid script honest w v (Full s) v (Ref t)) x (subst (Ahead (W (Full s)) x) e1 b))
        go x t y z (from_there e1 f1) (from_lane a i j) b = absurd (f1 a i)
        go x t y z (from_lane a i j) (from_there e2 f2) b = absurd (f2 a i)
        go x t y z (from_lane a i j) (from_lane a2 i2 j2) b = subst (Ahead (W (Rest Out)) x) (sym j2) (subst (λ d0. Ahead (W (Rest Out)) x (Mid (Held v p) (up_to c e o) d0)) (one_name (Held v p) a a2 (sym i ∙ i2)) (drop_front x (up_to c e o) a (keeps (Mid (Held v p) (item m.id p ∷ up_to c e o) a) x (subst (Ahead (W (Full s)) x) j b))))

    carriers : (u : ℕ) (a e o : Name) (c : List Item) → StandsAt (W (Rest Out)) e (Held u a) c o → IsStillHeld script honest X Y u a e (up_to c e o)
    carriers u a e o c i = elim (same_lane (Held u a) (Held v p)) [
      | inl f ↦ there_too u a f i
      | inr f ↦ still_held u 0 a e c o f i
    ]
      where
        vat_of : Lane → ℕ
        vat_of (Held u a) = u
        vat_of other = v

        name_of : Lane → Name
        name_of (Held u a) = a
        name_of other = p

        there_too : (u : ℕ) (a : Name) → Held u a ≡ Held v p → StandsAt (W (Rest Out)) e (Held u a) c o → IsStillHeld script honest X Y u a e (up_to c e o)
        there_too u a f i = subst (λ z. IsStillHeld script honest X Y z a e (up_to c e o)) (sym (ap vat_of f)) (subst (λ z. IsStillHeld script honest X Y v z e (up_to c e o)) (sym (ap name_of f)) (first_held e c o (subst (λ l. StandsAt (W (Rest Out)) e l c o) f i)))

    -- ---- the step

    told : Y.history ≡ X.history ++ events_of w.links v (Posted h m.id ∷ [])
    told = story_more script honest w v head ⊥ (Full s) (Rest Out) (Posted h m.id ∷ []) (ap (λ es. es ++ Posted h m.id ∷ []) passed.happened)

    pub goes_small : SmallStep script honest (middle w v head (Full s)) (middle w v head (Rest Out))
    unfolding ways amid
    goes_small = record {
      line = None;
      quiet = events_of w.links v (Posted h m.id ∷ []);
      lines = told;
      all_quiet = events_quiet w.links v (Posted h m.id ∷ []) (tt, tt);
      told = tt;
      references = λ a o u i. inr (subst (Ahead (W (Rest Out)) a) (sym (leads_now u (Ref o))) (keeps (LeadsAmid script honest w v (Full s) u (Ref o)) a i));
      messages = λ a l c o i. inl (messages a l c o i);
      passings = λ u x front e o zs b. elim (on_back v h Mail u x Before front e o zs (subst (λ ls. On ls u x front e o zs) then_links (on_of Y u x front e o zs b))) [
        | inl j ↦ inl (old_brought u x front e o zs j)
        | inr j ↦ inr (inr (new_brought u x front e o zs j))
      ];
      carriers = λ u a e o c i. inl (carriers u a e o c i);
    }
