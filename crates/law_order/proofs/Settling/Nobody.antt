-- What goes out to a vat that is not there is lost: its note comes to no link, and no message moves.
use Rattle.std.proofs.Common.{◌≡◌, ℕ, Bool, true, false, List, [], ◌∷◌, ◌++◌, Option, Some, None, refl, sym, ap, subst, ◌∙◌, inl}
use Rattle.std.proofs.lemmas.List.{append-nil}
use Rattle.std.specs.Prelude.{slice_get}
use Rattle.def_machine.specs.Values.{Value, Ref, Name, Answer, Naming, IsAnswer, host_of}
use Rattle.def_machine.specs.State.{Message, Unsettled, Known, Passeds, Delivery, Deliver, NoMore, More, Note, Put, Posted, Vat, Done, Gives, Act, ◌>>=◌, ◌>>◌, and_then, tell, send_out, alter, come, begun}
use Rattle.def_machine.specs.Refs as refs
use Rattle.def_machine.specs.Refs.{entry_of}
use Rattle.def_run.specs.World as world
use Rattle.def_run.specs.World.{Script, Event, Link, World, names}
use Rattle.law_fate.proofs.Fates.Leads.{Leads, leads_bind, leads_give}
use Rattle.law_order.specs.Ordering.Places.{queued, held_in, delivered, is_honest, leads, stands_at, ways_of, ways, amid}
use Rattle.law_order.specs.Ordering.Settlings.{with_line, AnswersAnew, IsLoose}
use Rattle.law_order.specs.Ordering.Steps.{Ready, StaysReady, Grown, LeadsAmid}
use Rattle.law_order.specs.Ordering.Ways.{Lane, Queue, Held, Way, Mid, End, Ahead}
use Rattle.law_order.specs.Ordering.Worlds.{IfGives, IsObject}
use Rattle.law_order.proofs.Ordering.Adds.{adds_nothing, adds_note, stays_quiet}
use Rattle.law_order.proofs.Ordering.Changes.{growing_keeps}
use Rattle.law_order.proofs.Ordering.Moves.{Keeps, keeps_bind, keeps_give}
use Rattle.law_order.proofs.Ordering.News.{grown_then, stays_self}
use Rattle.law_order.proofs.Ordering.Sendings.{stays, stays_pass}
use Rattle.law_order.proofs.Ordering.Sends.{chain, if_both, push_last, pushed_ends}
use Rattle.law_order.proofs.Ordering.Waiting.{waits_grown}
use Rattle.law_order.proofs.Carries.Learning.{come_grown}
use Rattle.law_order.specs.History.Befores.{Brings}
use Rattle.law_order.specs.History.Passings.{IsNoVat}
use Rattle.law_order.specs.History.Tells.{over, then_on}
use Rattle.law_order.specs.Tales.Middle.{middle, MovesNone}
use Rattle.law_order.specs.Tales.Resting.{WasBrought, Rests}
use Rattle.law_order.proofs.Tales.Links.{Found, as_it_was, changed, found}
use Rattle.law_order.proofs.Tales.Middle.{at_vat}
use Rattle.law_order.proofs.Tales.Resting.{resting}
use Rattle.law_order.proofs.Tales.Still.{rests_by}
use Rattle.law_order.proofs.Tales.Stilling.{Any, base, still_pass, still_come}
use Rattle.law_order.proofs.Settling.Acts.{Told, told_self, told_then, told_small, line_told, grown_told, later_grown, all_four}
use Rattle.law_order.proofs.Settling.Comes.{came_later}
use Rattle.law_order.proofs.Settling.Frames.{Frame, frame_same, frame_pass_all, Same, same_pass_all, same_states}
use Rattle.law_order.proofs.Settling.OutAll.{answer_ready, answer_named}
use Rattle.law_order.proofs.Settling.Waits as waits_at

-- ---- a note for which there is no link

none_some : {A B : Type 0} (x : A) → ◌≡◌ {A = Option A} None (Some x) → B
none_some x e = absurd (cc)

module _ (v h : ℕ) where
  still_none : (g : ℕ) (n : Note Name) (ls : List Link) → world.link_at v h ls ≡ None → world.link_at v h (world.with_link (world.pushed n) v g ls) ≡ None
  still_none g n ls e = go (found (world.pushed n) (λ c d l. pushed_ends l.cut n l c d refl) v g v h ls)
    where
      go : Found (world.pushed n) (world.link_at v h ls) (world.link_at v h (world.with_link (world.pushed n) v g ls)) → world.link_at v h (world.with_link (world.pushed n) v g ls) ≡ None
      go (as_it_was i) = i ∙ e
      go (changed l i j) = none_some l (sym e ∙ i)

  none_pushed : (ps : List (Put Name)) (ls : List Link) → world.link_at v h ls ≡ None → world.link_at v h (world.push_all v ps ls) ≡ None
  unfolding world.push_all
  none_pushed [] ls e = e
  none_pushed (p ∷ ps) ls e = none_pushed ps (world.with_link (world.pushed p.note) v p.to ls) (still_none p.to p.note ls e)

  no_link : (f : Link → Link) (ls : List Link) → world.link_at v h ls ≡ None → world.with_link f v h ls ≡ ls
  unfolding world.with_link world.link_at
  no_link f [] e = refl
  no_link f (l ∷ ls) e = go (world.is_link v h l) e (no_link f ls)
    where
      go : (b : Bool) → ◌≡◌ {A = Option Link} (elim b [ true ↦ Some l | false ↦ world.link_at v h ls ]) None → (world.link_at v h ls ≡ None → world.with_link f v h ls ≡ ls) → ◌≡◌ {A = List Link} (elim b [ true ↦ f l ∷ ls | false ↦ l ∷ world.with_link f v h ls ]) (l ∷ ls)
      go true i g = none_some l (sym i)
      go false i g = ap (λ z. l ∷ z) (g i)

-- ---- what is lost

bind_if : {A B : Type 0} (P Q : Vat Name → Type 0) (d : Done Name A) (f : A → Act Name B) → IfGives P d → ((a : A) (t : Vat Name) → P t → IfGives Q (f a t)) → IfGives Q (and_then d f)
unfolding and_then
bind_if P Q (Gives a t) f i g = g a t i
bind_if P Q other f i g = tt

module _ (script : Script) (honest : ℕ → Bool) (w : World) (v h : ℕ) (head : List Event) (r : Vat Name) (at : slice_get w.vats v ≡ Some r) (none : IsNoVat w h) where
  abbrev K : Naming Name Name
  K = names script v

  -- From s to t, by small steps in which each value leads where it led.
  pub record On (s t : Vat Name) : Type 0 where
    pub told : Told script honest w v head ⊥ s t
    pub grown : Grown script honest w v s t

  pub on_self : (s : Vat Name) → Ready script honest w v s → On s s
  on_self s ready = record { told = told_self script honest w v head ⊥ s; grown = (stays_self script honest w v s ready).1 }

  pub on_then : (s t u : Vat Name) → On s t → On t u → On s u
  on_then s t u g i = record { told = told_then script honest w v head ⊥ s t u g.told i.told; grown = grown_then script honest w v s t u g.grown i.grown }

  -- ---- a note is put

  module _ (s : Vat Name) (x : Delivery Name) (n : Name) (verb : List ℕ) (ys : Passeds Name) (ready : Ready script honest w v s) where
    abbrev Then : Vat Name
    Then = record s { outbox = s.outbox ++ record { to = h; note = Deliver x n verb ys } ∷ [] }

    abbrev X : World
    X = middle w v head s

    abbrev Y : World
    Y = middle w v head Then

    same_links : world.push_all v Then.outbox w.links ≡ world.push_all v s.outbox w.links
    same_links = push_last v s.outbox (record { to = h; note = Deliver x n verb ys }) w.links ∙ no_link v h (world.pushed (Deliver x n verb ys)) (world.push_all v s.outbox w.links) (none_pushed v h s.outbox w.links (none.none v))

    stand_same : (l : Lane) → (ways script honest Y).stands l ≡ (ways script honest X).stands l
    unfolding ways ways_of stands_at
    stand_same (Queue u) = at_vat (λ q. queued q.queue) [] v u s Then w.vats (λ e. refl)
    stand_same (Held u m) = at_vat (λ q. held_in m (entry_of (names script u) q.known m)) [] v u s Then w.vats (λ e. refl)
    stand_same (Way a b) = ap (λ ls. elim (world.link_at a b ls) [ Some l ↦ elim (is_honest script honest l) [ true ↦ delivered l.notes | false ↦ [] ] | None ↦ [] ]) same_links

    brought : (u z : ℕ) (front : List (Note Name)) (d : Delivery Name) (m : Name) (zs : Passeds Name) → Brings Y u z front d m zs → WasBrought script honest X Y u z front d m zs
    brought u z front d m zs i = record { before = front; brings = record { link = i.link; found = sym (ap (world.link_at u z) same_links) ∙ i.found; verb = i.verb; rest = i.rest; notes = i.notes }; behind = refl }

    stay : StaysReady script honest w v s Then
    stay = stays_quiet script honest w v s Then (adds_note K s (record { to = h; note = Deliver x n verb ys }) tt, refl, refl, refl)

    rests : Rests script honest X Y
    unfolding ways amid leads
    rests = let g : Grown script honest w v s Then = (stay ready).1 in rests_by script honest X Y
        (record { told = []; lines = sym (append-nil X.history); quiet = tt; stands = stand_same; brought = brought })
        (λ u m. inl (g.leading u (Ref m)))
        (λ u m a i. subst (λ c. Ahead (ways_of script honest Y.vats Y.links) a c) (sym (g.leading u (Ref m))) ((growing_keeps (ways_of script honest X.vats X.links) (ways_of script honest Y.vats Y.links) g.grows _).1 a i))
        (λ l b m a i. (growing_keeps (ways_of script honest X.vats X.links) (ways_of script honest Y.vats Y.links) g.grows (Mid l b m)).1 a i)

    put_on : On s Then
    put_on = record {
      told = record {
        tale = then_on (resting script honest X Y rests) over;
        later = later_grown script honest w v head ⊥ s Then [] (sym (append-nil s.happened)) tt ready stay (same_states script v s Then refl refl refl) (frame_same K s Then refl refl refl);
      };
      grown = (stay ready).1;
    }

  -- ---- a message is delivered

  stays_all : (xs : List (Value Name)) → Keeps (StaysReady script honest w v) (refs.pass_all K h xs)
  unfolding refs.pass_all
  stays_all [] = keeps_give (StaysReady script honest w v) (stays script honest w v) NoMore
  stays_all (x ∷ xs) = keeps_bind (StaysReady script honest w v) (stays script honest w v) (stays_pass script honest w v h x) (λ y. keeps_bind (StaysReady script honest w v) (stays script honest w v) (stays_all xs) (λ ys. keeps_give (StaysReady script honest w v) (stays script honest w v) (More y ys)))

  still_all : (xs : List (Value Name)) → Leads Any (MovesNone K) (refs.pass_all K h xs)
  unfolding refs.pass_all
  still_all [] = leads_give Any (MovesNone K) (base K) NoMore
  still_all (x ∷ xs) = leads_bind Any (MovesNone K) (base K) (still_pass K h x) (λ y. leads_bind Any (MovesNone K) (base K) (still_all xs) (λ ys. leads_give Any (MovesNone K) (base K) (More y ys)))

  passed_on : (xs : List (Value Name)) (s : Vat Name) → Ready script honest w v s → IfGives (λ t. On s t) (refs.pass_all K h xs s)
  passed_on xs s ready = all_four s (StaysReady script honest w v) (Same script v) (Frame K) (MovesNone K) (λ t. On s t) (refs.pass_all K h xs s)
      ((stays_all xs).after s) ((same_pass_all script v h xs).after s) (frame_pass_all K h xs s) ((still_all xs).after s)
      (λ t a b c d. record { told = grown_told script honest w v head ⊥ s t ready a b c d; grown = (a ready).1 })

  line_on : (s : Vat Name) (m : Name) → Ready script honest w v s → On s (with_line s (Posted h m))
  line_on s m ready = record {
    told = line_told script honest w v head ⊥ s (Posted h m) tt ready;
    grown = ((stays_quiet script honest w v s (with_line s (Posted h m)) (adds_nothing K s (with_line s (Posted h m)) refl refl refl refl refl refl, refl, refl, refl)) ready).1;
  }

  pub delivered_on : (m : Message Name) (n : Name) (s : Vat Name) → Ready script honest w v s → IfGives (λ t. On s t) (refs.deliver K m h n s)
  unfolding refs.deliver ◌>>=◌ ◌>>◌ and_then tell send_out
  delivered_on m n s ready = bind_if (λ t. On s t) (λ t. On s t) (refs.pass_all K h m.args s) (λ ys. tell (Posted h m.id) >> send_out h (Deliver (refs.delivery_of K m) n m.verb ys)) (passed_on m.args s ready)
      (λ ys t i. let u = with_line t (Posted h m.id) in let e = i.told.later.ready ready in let l = line_on t m.id e in
      on_then s u (record u { outbox = u.outbox ++ record { to = h; note = Deliver (refs.delivery_of K m) n m.verb ys } ∷ [] }) (on_then s t u i l) (put_on u (refs.delivery_of K m) n m.verb ys (l.told.later.ready e)))

  -- ---- with a new answer

  module _ (n b : Name) (object : IsObject n) (m : Message Name) (s : Vat Name) (ready : Ready script honest w v s) (leads_there : LeadsAmid script honest w v s v (Ref n) ≡ End (Way v h) n) (g : AnswersAnew script honest w v h n b m s)
      (leads_new : LeadsAmid script honest w v s v (Ref (Answer h g.message)) ≡ End (Way v h) (Answer h g.message)) where
    abbrev A : Name
    A = Answer h g.message

    abbrev Came : Vat Name
    Came = record s { known = s.known ++ begun A h ∷ [] }

    ready_came : Ready script honest w v Came
    ready_came = answer_ready script honest w v h n b m s g ready

    grown_came : Grown script honest w v s Came
    unfolding host_of
    grown_came = come_grown script honest w v s A (λ i. i) ready

    moves : MovesNone K s Came
    unfolding come
    moves = subst (λ a. MovesNone K s (record s { known = s.known ++ begun a h ∷ [] })) (answer_named script honest w v h n b m s g) ((still_come K (IsAnswer h m.id) h).after s)

    came_on : On s Came
    came_on = record { told = told_small script honest w v head ⊥ s Came grown_came moves (came_later script honest w v h head ⊥ s ready A n object ready_came grown_came leads_new leads_there); grown = grown_came }

    abbrev IsOpenAt : Vat Name → Type 0
    IsOpenAt t = (k : Known Name) × (entry_of K t.known b ≡ Some k) × (k.standing ≡ Unsettled) × IsLoose script honest w v b t

    waits_on : (t : Vat Name) → On Came t → IsOpenAt t → IfGives (λ u. On s u) (refs.wait_on K b A t)
    unfolding refs.wait_on ◌>>◌ and_then tell alter
    waits_on t i o = let e = i.told.later.ready ready_came in
        on_then s t (waits_at.Waited script honest w v head ⊥ t b A o.0 o.1 o.2 o.3 e) (on_then s Came t came_on i)
        (record { told = waits_at.waited_told script honest w v head ⊥ t b A o.0 o.1 o.2 o.3 e; grown = waits_grown script honest w v t b A o.0 o.1 o.2 o.3 })

    pub asked_on : IfGives (λ u. On s u) (and_then (refs.deliver K (record m { answer = Some A }) h n Came) (λ z. refs.wait_on K b A))
    asked_on = let d = refs.deliver K (record m { answer = Some A }) h n Came in chain (λ t. On Came t × IsOpenAt t) (λ u. On s u) d (refs.wait_on K b A)
        (if_both (λ t. On Came t) IsOpenAt d (delivered_on (record m { answer = Some A }) n Came ready_came) g.waits) (λ t i. waits_on t i.0 i.1)
