-- What is ahead of a reference, or of what the note that arrives brings for it, is ahead of what passes for it as the message goes out.
-- The world is read as though the message went on before all else that the vat does in the step: what the vat puts on that link besides lets nothing go.
use Rattle.std.proofs.Common.{◌≡◌, ℕ, Bool, true, false, List, [], ◌∷◌, ◌++◌, Some, None, refl, sym, ap, subst, ◌∙◌, inl}
use Rattle.std.specs.Prelude.{slice_get}
use Rattle.def_machine.specs.Values.{Words, Value, Ref, Name, Answer, Naming}
use Rattle.def_machine.specs.State.{Message, Passeds, Delivery, Note, Deliver, Put, Vat, Done, Gives}
use Rattle.def_machine.specs.Refs as refs
use Rattle.def_machine.specs.Refs.{Away}
use Rattle.def_run.specs.World as world
use Rattle.def_run.specs.World.{Script, Event, Link, World, names, push_all, with_link, pushed}
use Rattle.law_fate.specs.Name.Names.{IsAmong, AllOf}
use Rattle.law_order.specs.Ordering.Ways.{Lane, Way, Item, Place, End, Mid, Ways, IsIn, Doom, by_mid, Ahead, doomed_there, in_mid, past_mid}
use Rattle.law_order.specs.Ordering.Changes.{Grows, GoesOn, stays, nearer}
use Rattle.law_order.specs.Ordering.Turns.{Within}
use Rattle.law_order.specs.Ordering.Places.{item, queued, delivered, aimed, leads_in, leads_at, leads, stands_at, ways_of, ways, amid}
use Rattle.law_order.specs.Ordering.Worlds.{IsObject}
use Rattle.law_order.specs.Ordering.Steps.{LeadsAmid, Ready, Grown}
use Rattle.law_order.specs.Ordering.Arrivals.{keeping, IsOpenWay}
use Rattle.law_order.specs.Ordering.Order.{all_pass_as}
use Rattle.law_order.proofs.Ordering.Adding.{RefersSame, refers_same}
use Rattle.law_order.proofs.Ordering.Adds.{alike_same}
use Rattle.law_order.proofs.Ordering.Amid as amiding
use Rattle.law_order.proofs.Ordering.Arrived.{went, all_there, outbox_refers, learnt_names_are_behind}
use Rattle.law_order.proofs.Ordering.Changes.{growing_keeps, going_on_keeps}
use Rattle.law_order.proofs.Ordering.Comings.{note_open}
use Rattle.law_order.specs.Ordering.Growing.{AllGrow}
use Rattle.law_order.proofs.Ordering.Pushing.{all_same, push_append}
use Rattle.law_order.proofs.Ordering.Sends.{get_put}
use Rattle.law_order.proofs.Ordering.Sent.{leads_there}
use Rattle.law_order.proofs.Ordering.Standing.{Row}
use Rattle.law_order.proofs.Ordering.Waiting.{waits_grown}
use Rattle.law_order.proofs.Carries.Moved.{last_in}
use Rattle.law_order.specs.History.Passings.{OnGives, CanPass, CameAs, AllCame}
use Rattle.law_order.proofs.History.Links.{on_link}
use Rattle.law_order.proofs.History.Passed.{AllPass, passed_all}
use Rattle.law_order.specs.MessageTales.Reorder.{IsAside}
use Rattle.law_order.proofs.MessageTales.Reorder.{late_puts_grow}
use Rattle.law_order.proofs.MessageTales.Broken.{loose_answer}
use Rattle.law_order.proofs.MessageTales.Arrival.{Waited, no_wait, waits_for, put_out, GoesOut}

on_gives : {A : Type 0} (P : A → Vat Name → Type 0) (d : Done Name A) (x : A) (t : Vat Name) → d ≡ Gives x t → OnGives P d → P x t
on_gives P d x t e h = subst (OnGives P) e h

-- what is ahead of a thing in a lane is ahead of it where more stands in front of that
doom_within : (w : Ways) (l : Lane) (b c : List Item) (n : Name) → Doom w (Mid l b n) → Doom w (Mid l c n)
doom_within w l b c n (by_mid d) = by_mid d

mid_within : (w : Ways) (a : Name) (l : Lane) (b c : List Item) (n : Name) → Within b c → Ahead w a (Mid l b n) → Ahead w a (Mid l c n)
mid_within w a l b c n f (doomed_there d) = doomed_there (doom_within w l b c n d)
mid_within w a l b c n f (in_mid {m = m} i g) = in_mid (f (record { mail = a; aim = m }) i) g
mid_within w a l b c n f (past_mid h) = past_mid h

-- the ways with one vat and the links for another and others, that are read the same
module _ (script : Script) (honest : ℕ → Bool) (vs : List (Vat Name)) (Links Links' : List Link) (grow : AllGrow Links Links') (v : ℕ) (s t : Vat Name) (known : t.known ≡ s.known) (number : t.number ≡ s.number) (gifts : t.gifts ≡ s.gifts) (noticed : t.noticed ≡ s.noticed) (queue : t.queue ≡ s.queue) where
  same_refers : RefersSame script honest v s t
  same_refers = refers_same script honest v s t (alike_same (names script v) s t known number gifts noticed)

  pub read_same : Grows (ways_of script honest (world.put_at v s vs) Links) (ways_of script honest (world.put_at v t vs) Links')
  unfolding ways_of
  read_same = record {
    stands = λ l i j. amiding.stands_grow script honest vs Links Links' grow v s t same_refers (λ i j. subst (λ q. IsIn i (queued q)) (sym queue) j) l i j;
    onward = λ l n. inl (amiding.onward_same script honest vs Links Links' grow v s t same_refers l n);
  }

module _ (script : Script) (honest : ℕ → Bool) (everyone : (u : ℕ) → honest u ≡ true) (w : World) (a b : ℕ) (r : Vat Name) (there : slice_get w.vats b ≡ Some r) (way : IsOpenWay honest a b w) (d : Delivery Name) (n : Name) (verb : Words) (ys : Passeds Name)
    (R M : Vat Name → Vat Name → Type 0) (AllHad : List (List (Value Name)) → Passeds Name → List (Value Name) → Type 0)
    (s u : Vat Name) (empty : s.outbox ≡ []) (out : GoesOut script honest b d n ys R M AllHad s u) (on : IsOpenWay honest b out.host w) (aside : AllOf (IsAside out.host) out.came_to.outbox) (other : out.host ≡ b → ⊥)
    (own : s.number ≡ b) where
  abbrev K : Naming Name Name
  K = names script b

  abbrev h : ℕ
  h = out.host

  -- the note that it puts
  abbrev pub Noted : Note Name
  Noted = Deliver (refs.delivery_of K out.mail) out.aim out.mail.verb out.passed

  -- with that note on its link at once
  abbrev pub Star : World
  Star = record w { links = with_link (pushed Noted) b h w.links }

  abbrev Full : World
  Full = keeping a b (Deliver d n verb ys) w

  abbrev Wf : Vat Name → Ways
  Wf t = ways script honest (amid b t Full)

  abbrev Ws : Vat Name → Ways
  Ws t = ways script honest (amid b t Star)

  abbrev Wb : Vat Name → Ways
  Wb t = ways script honest (amid b t w)

  abbrev Led : Vat Name → Value Name → Place
  Led t x = LeadsAmid script honest Full b t b x

  star_led : (t : Vat Name) (x : Value Name) → LeadsAmid script honest Star b t b x ≡ Led t x
  unfolding leads amid keeping
  star_led t x = refl

  module _ (full_ready : Ready script honest Full b s) (ready : Ready script honest Star b s) where
    now_star : Ready script honest Star b out.now × Grown script honest Star b s out.now
    now_star = out.stays Star ready

    now_full : Ready script honest Full b out.now × Grown script honest Full b s out.now
    now_full = out.stays Full full_ready

    -- ---- the message goes on at once

    abbrev P : Put Name
    P = record { to = h; note = Noted }

    abbrev T : Vat Name
    T = record s { outbox = s.outbox ++ P ∷ [] }

    away_end : (y : Value Name) → aimed b y (Away h out.aim out.known) ≡ End (Way b h) out.aim
    unfolding aimed
    away_end y = refl

    there_full : slice_get Full.vats b ≡ Some r
    unfolding keeping
    there_full = there

    lead : leads_in script honest b s (Ref n) ≡ End (Way b h) out.aim
    unfolding leads leads_at amid keeping
    lead = ap (λ o. leads_at script honest b o (Ref n)) (sym (get_put w.vats b r s there)) ∙ sym (now_full.1.leading b (Ref n)) ∙ leads_there script honest Full b r out.now there_full (Ref n) (out.target Full) ∙ ap (λ p. aimed b (refs.follow K out.now (Ref n)) p) out.place ∙ away_end (refs.follow K out.now (Ref n))

    put_last : (Wb T).stands (Way b h) ≡ (Wb s).stands (Way b h) ++ item out.mail.id out.aim ∷ []
    put_last = note_open script honest w b h on.sender on.receiver (refs.delivery_of K out.mail) out.aim out.mail.verb out.passed s T refl (on.link, on.found, on.uncut)

    comes_there : IsIn (item d.message out.aim) ((Wb T).stands (Way b h))
    comes_there = subst (λ m. IsIn (item m out.aim) ((Wb T).stands (Way b h))) out.id (subst (λ js. IsIn (item out.mail.id out.aim) js) (sym put_last) (last_in ((Wb s).stands (Way b h)) (item out.mail.id out.aim)))

    abbrev Old : Message Name
    Old = record { id = d.message; target = Ref n; verb = verb; args = []; answer = None }

    goes : GoesOn (Wf s) (Wb T) (Way a b) (item d.message n) (Way b h) out.aim
    unfolding ways ways_of amid
    goes = went script honest w a b r s Old d.asks d.answer n verb ys there way T (Way b h) out.aim (outbox_refers K s (s.outbox ++ P ∷ [])) (λ i j. j) (P ∷ []) refl (tt, tt) lead comes_there

    star_links : push_all b T.outbox w.links ≡ push_all b s.outbox Star.links
    unfolding push_all
    star_links = ap (λ ps. push_all b (ps ++ P ∷ []) w.links) empty ∙ sym (ap (λ ps. push_all b ps Star.links) empty)

    to_star : Grows (Wb T) (Ws s)
    unfolding ways ways_of amid
    to_star = read_same script honest w.vats (push_all b T.outbox w.links) (push_all b s.outbox Star.links) (subst (λ ls. AllGrow (push_all b T.outbox w.links) ls) star_links (all_same (push_all b T.outbox w.links))) b T s refl refl refl refl refl

    went_on : (m : Name) (c e : Place) → Rattle.law_order.specs.Ordering.Changes.Beheads (Way a b) (item d.message n) c e → Ahead (Wf s) m c → Ahead (Ws s) m e
    went_on m c e k i = (growing_keeps (Wb T) (Ws s) to_star e).1 m ((going_on_keeps (Wf s) (Wb T) (Way a b) (Way b h) (item d.message n) out.aim goes tt c e k).1 m i)

    -- ---- where references lead then

    star_way : IsOpenWay honest a b (amid b s Star)
    unfolding amid push_all
    star_way = let x = all_there false a b b (P ∷ []) w.links (way.link, way.found, way.uncut) in let y = all_there false a b b s.outbox Star.links (more x) in record { link = y.0; found = y.1; uncut = y.2; sender = way.sender; receiver = way.receiver }
      where
        more : (l : Link) × (world.link_at a b (push_all b (P ∷ []) w.links) ≡ Some l) × (l.cut ≡ false) → (l : Link) × (world.link_at a b Star.links ≡ Some l) × (l.cut ≡ false)
        more x = x

    at_once : (m : Name) (e : Name) → Ahead (Ws s) m (Led s (Ref e)) → Ahead (Ws out.now) m (Led out.now (Ref e))
    at_once m e i = subst (λ c. Ahead (Ws out.now) m c) (sym (now_full.1.leading b (Ref e))) ((growing_keeps (Ws s) (Ws out.now) now_star.1.grows (Led s (Ref e))).1 m i)

    pub held_before : (m e : Name) → Ahead (Wf s) m (Led s (Ref e)) → Ahead (Ws out.now) m (Led out.now (Ref e))
    held_before m e i = at_once m e (went_on m (Led s (Ref e)) (Led s (Ref e)) stays i)

    pub learnt_before : (m e : Name) → Ahead (Wf s) m (Mid (Way a b) (item d.message n ∷ []) e) → Ahead (Ws out.now) m (Led out.now (Ref e))
    unfolding leads amid keeping
    learnt_before m e i = at_once m e ((learnt_names_are_behind script honest (amid b s Star) a b e star_way).1 m (went_on m (Mid (Way a b) (item d.message n ∷ []) e) (Mid (Way a b) [] e) nearer i))

    -- ---- what passes

    abbrev Put0 : Vat Name
    Put0 = put_out K out.mail h out.aim out.passed out.came_to

    module _ (rh : Vat Name) (there_h : slice_get w.vats h ≡ Some rh) (number : rh.number ≡ h) (plain : (o : Name) → IsObject o → refs.entry_of (names script h) rh.known o ≡ None) (can : CanPass script honest Star b h rh out.now)
        (done : List Event) (came : (k : ℕ) → AllCame (λ z x. CameAs script honest Star b h k out.now done z x) ys out.mail.args) where
      passed : AllPass script honest Star b h r rh everyone there there_h number other plain done out.now ys out.passed out.came_to
      passed = on_gives (AllPass script honest Star b h r rh everyone there there_h number other plain done out.now ys) (refs.pass_all K h out.mail.args out.now) out.passed out.came_to out.run
          (passed_all script honest Star b h r rh everyone there there_h number other plain done ys out.mail.args out.now can came)

      in_star : (m e p : Name) → IsAmong p (all_pass_as b done e out.passed ys) → Ahead (Ws out.now) m (Led out.now (Ref e)) → Ahead (Ws out.came_to) m (Mid (Way b h) ((Ws out.came_to).stands (Way b h)) p)
      in_star m e p i k = passed.behind e p i m (subst (λ c. Ahead (Ws out.now) m c) (sym (star_led out.now (Ref e))) k) ((Ws out.came_to).stands (Way b h)) (λ j q. q)

      -- ---- in the world as it is

      late_links : AllGrow (push_all b out.came_to.outbox Star.links) (push_all b Put0.outbox w.links)
      unfolding push_all
      late_links = subst (λ ls. AllGrow (push_all b out.came_to.outbox Star.links) ls) (sym (push_append b out.came_to.outbox (P ∷ []) w.links)) (late_puts_grow b h Noted out.came_to.outbox w.links tt aside)

      from_star : Grows (Ws out.came_to) (Wb Put0)
      unfolding ways ways_of amid
      from_star = read_same script honest w.vats (push_all b out.came_to.outbox Star.links) (push_all b Put0.outbox w.links) late_links b out.came_to Put0 refl refl refl refl refl

      waited : (t v : Vat Name) → Waited K t v → (m : Name) (c : Place) → Ahead (Wb t) m c → Ahead (Wb v) m c
      waited t v no_wait m c i = i
      waited t v (waits_for g x z k e f) m c i = (growing_keeps (Wb t) (Wb v) (waits_grown script honest w b t (Answer g x) z k e f (loose_answer script honest w b r there t g x k e f)).grows c).1 m i

      -- what was ahead of e is ahead of what passes for it
      brought_there : (m e p : Name) → IsAmong p (all_pass_as b done e out.passed ys) → Ahead (Ws out.now) m (Led out.now (Ref e)) → Ahead (Wb u) m (Mid (Way b h) ((Ws out.came_to).stands (Way b h)) p)
      brought_there m e p i k = waited Put0 u out.waited m (Mid (Way b h) ((Ws out.came_to).stands (Way b h)) p) ((growing_keeps (Ws out.came_to) (Wb Put0) from_star (Mid (Way b h) ((Ws out.came_to).stands (Way b h)) p)).1 m (in_star m e p i k))

      -- behind all that stands on the link in front of the note, and the note's own message
      out_row : (Wb Put0).stands (Way b h) ≡ (Wb out.came_to).stands (Way b h) ++ item out.mail.id out.aim ∷ []
      out_row = note_open script honest w b h on.sender on.receiver (refs.delivery_of K out.mail) out.aim out.mail.verb out.passed out.came_to Put0 refl (on.link, on.found, on.uncut)

      row_before : (l : Link) → world.link_at b h (push_all b out.came_to.outbox w.links) ≡ Some l → (Wb out.came_to).stands (Way b h) ≡ delivered l.notes
      unfolding ways ways_of stands_at amid
      row_before l e = ap (λ o. Row script honest o) e ∙ on_link script honest everyone l

      pub brought : (m e p : Name) (l : Link) → world.link_at b h (push_all b out.came_to.outbox w.links) ≡ Some l → IsAmong p (all_pass_as b done e out.passed ys) → Ahead (Ws out.now) m (Led out.now (Ref e)) → Ahead (Wb u) m (Mid (Way b h) (delivered l.notes ++ item out.mail.id out.aim ∷ []) p)
      brought m e p l f i k = mid_within (Wb u) m (Way b h) ((Ws out.came_to).stands (Way b h)) (delivered l.notes ++ item out.mail.id out.aim ∷ []) p
          (λ j g. subst (IsIn j) (out_row ∙ ap (λ js. js ++ item out.mail.id out.aim ∷ []) (row_before l f)) (from_star.stands (Way b h) j g)) (brought_there m e p i k)
