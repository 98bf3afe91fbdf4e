-- What a vat learnt from a note can pass on, by facts of the world before the step and of what the vat came to in it.
use Rattle.std.proofs.Common.{◌≡◌, ℕ, Bool, true, false, List, [], ◌∷◌, Option, Some, None, refl, sym, ap, subst, ◌∙◌, ◌⊎◌, inl, inr}
use Rattle.std.specs.Prelude.{slice_get}
use Rattle.def_machine.specs.Values.{Words, Value, Null, Flag, Number, Letter, Text, Prim, Broken, Items, Ref, Name, Answer, Naming}
use Rattle.def_machine.specs.State.{Known, Standing, Unsettled, Viewed, Settled, Wait, WaitOn, Passeds, NoMore, Delivery, Note, Deliver, Put, Vat, Done, Gives}
use Rattle.def_machine.specs.State as state
use Rattle.def_machine.specs.Refs as refs
use Rattle.def_run.specs.World as world
use Rattle.def_run.specs.World.{Script, Event, Link, World, names, link_at, with_link, pushed, push_all}
use Rattle.law_fate.specs.Name.Names.{AllOf}
use Rattle.law_fate.proofs.Name.Run.{Stands}
use Rattle.law_fate.specs.Fates.Lasting.{NoPromise}
use Rattle.law_order.specs.Ordering.Places.{leads, amid}
use Rattle.law_order.specs.Ordering.Worlds.{IsObject, IsKnown, StandsAlike}
use Rattle.law_order.specs.Ordering.Steps.{LeadsAmid, Ready, IsHeld}
use Rattle.law_order.specs.Ordering.Arrivals.{in_front, keeping, IsOpenWay}
use Rattle.law_order.proofs.Ordering.Adding.{refers_same}
use Rattle.law_order.proofs.Ordering.Arrived.{kept_there, all_there}
use Rattle.law_order.proofs.Ordering.Sends.{pushed_ends}
use Rattle.law_order.proofs.Ordering.Entries.{Differs, as_it_was, changes, differs}
use Rattle.law_order.specs.History.Passings.{OnGives, IsThere, IsNoVat, IsCutFrom, IsOpenOrLost, CanPass, CameAs, AllCame}
use Rattle.law_order.specs.History.Told.{IsTold}
use Rattle.law_order.proofs.History.Passed.{AllPass, passed_all}
use Rattle.law_order.specs.Tales.Middle.{MovesNone}
use Rattle.law_order.proofs.Tales.Links.{Found, as_it_was as link_as_it_was, changed as link_changed, found}
use Rattle.law_order.specs.Sending.Came.{AreHadAs, Agrees, HoldsMembers}
use Rattle.law_order.proofs.Sending.Came.{what_is_had_came}
use Rattle.law_order.proofs.Sending.Passing.{AllMeet, FarNamesRest}
use Rattle.law_order.proofs.Sending.Views.{ViewsRest, views_no_list}
use Rattle.law_order.proofs.MessageTales.Arrival.{Waited, no_wait, waits_for, put_out, GoesOut}
use Rattle.law_order.proofs.MessageTales.Calm.{Calm, StandsOr, settled_kept}

module _ (script : Script) (b : ℕ) where
  abbrev N : Naming Name Name
  N = names script b

  standing_entry : (ks : List (Known Name)) (m : Name) {q : Standing Name} → refs.standing_of N ks m ≡ q → refs.standing_in (refs.entry_of N ks m) ≡ q
  unfolding refs.standing_of
  standing_entry ks m e = e

  entry_standing : (ks : List (Known Name)) (m : Name) (k : Known Name) → refs.entry_of N ks m ≡ Some k → refs.standing_of N ks m ≡ k.standing
  unfolding refs.standing_of refs.standing_in
  entry_standing ks m k e = ap (λ o. refs.standing_in o) e

  unknown_unsettled : (ks : List (Known Name)) (m : Name) → refs.entry_of N ks m ≡ None → refs.standing_of N ks m ≡ Unsettled
  unfolding refs.standing_of refs.standing_in
  unknown_unsettled ks m e = ap (λ o. refs.standing_in o) e

  changed_back : (c : state.Change Name) (p : Name) (ks : List (Known Name)) (n : Name) → (k : Known Name) × (refs.entry_of N (state.with_change N c p ks) n ≡ Some k) → (k : Known Name) × (refs.entry_of N ks n ≡ Some k)
  changed_back c p ks n i = go (differs script b c p n ks) i
    where
      go : {d e : Option (Known Name)} → Differs script b c p n d e → (k : Known Name) × (e ≡ Some k) → (k : Known Name) × (d ≡ Some k)
      go (as_it_was f) j = (j.0, sym f ∙ j.1)
      go (changes k f g h) j = (k, g)

-- What is used of a world of the run: names of other vats stand as they do at their hosts, or are broken or unsettled; no view settled to a list; and each vat has in hand what its lists hold, and agrees with all that the history tells by any time.
pub record IsAtRest (script : Script) (honest : ℕ → Bool) (w : World) : Type 0 where
  pub stands : Stands script w
  pub meet : AllMeet w
  pub far : FarNamesRest script w
  pub views : (v : ℕ) (s : Vat Name) → slice_get w.vats v ≡ Some s → ViewsRest script v s.known
  pub agrees : (v : ℕ) (s : Vat Name) → slice_get w.vats v ≡ Some s → Agrees script v s
  pub members : (v : ℕ) (s : Vat Name) → slice_get w.vats v ≡ Some s → HoldsMembers script honest w v s

-- the vat agrees with what the history tells by any time, and has the members of its lists in hand
pub record IsTrue (script : Script) (honest : ℕ → Bool) (w : World) (v : ℕ) (s : Vat Name) : Type 0 where
  pub agrees : Agrees script v s
  pub members : HoldsMembers script honest w v s

on_gives : {A : Type 0} (P : A → Vat Name → Type 0) (d : Done Name A) (y : A) (t : Vat Name) → d ≡ Gives y t → OnGives P d → P y t
on_gives P d y t e h = subst (OnGives P) e h

module _ (script : Script) (honest : ℕ → Bool) (everyone : (u : ℕ) → honest u ≡ true) (bare : World) (a b : ℕ) (first : Note Name) (r : Vat Name) (there : slice_get bare.vats b ≡ Some r) (d : Delivery Name) (n : Name) (ys : Passeds Name) (s u : Vat Name)
    (o : GoesOut script honest b d n ys (λ q t. Calm script b q t) (λ q t. MovesNone (names script b) q t) AreHadAs s u) where
  abbrev K : Naming Name Name
  K = names script b

  abbrev Full : World
  Full = keeping a b first bare

  abbrev Noted : Note Name
  Noted = Deliver (refs.delivery_of K o.mail) o.aim o.mail.verb o.passed

  abbrev Star : World
  Star = record bare { links = with_link (pushed Noted) b o.host bare.links }

  -- ---- the same can pass where the note is on its link at once

  ends_front : (c e : ℕ) (l : Link) → world.is_link c e (in_front first l) ≡ world.is_link c e l
  unfolding world.is_link in_front
  ends_front c e l = refl

  cut_front : (l : Link) → (in_front first l).cut ≡ l.cut
  unfolding in_front
  cut_front l = refl

  full_links : Full.links ≡ with_link (in_front first) a b bare.links
  unfolding keeping
  full_links = refl

  none_some : {A : Type 0} (l : Link) → ◌≡◌ {A = Option Link} None (Some l) → A
  none_some l e = absurd (cc)

  some_is : (l m : Link) → Some l ≡ Some m → l ≡ m
  some_is l m e = cc

  -- a link that is there with the note in front is there
  there_bare : (c g : ℕ) (l : Link) → link_at c g Full.links ≡ Some l → (m : Link) × (link_at c g bare.links ≡ Some m)
  unfolding keeping
  there_bare c g l e = go (found (in_front first) (λ x y m. ends_front x y m) a b c g bare.links)
    where
      go : Found (in_front first) (link_at c g bare.links) (link_at c g (with_link (in_front first) a b bare.links)) → (m : Link) × (link_at c g bare.links ≡ Some m)
      go (link_as_it_was i) = (l, sym i ∙ e)
      go (link_changed m i j) = (m, i)

  none_bare : (c g : ℕ) → link_at c g Full.links ≡ None → link_at c g bare.links ≡ None
  unfolding keeping
  none_bare c g e = go (found (in_front first) (λ x y m. ends_front x y m) a b c g bare.links)
    where
      go : Found (in_front first) (link_at c g bare.links) (link_at c g (with_link (in_front first) a b bare.links)) → link_at c g bare.links ≡ None
      go (link_as_it_was i) = sym i ∙ e
      go (link_changed m i j) = none_some (in_front first m) (sym e ∙ j)

  ends_pushed : (c e : ℕ) (l : Link) → world.is_link c e (pushed Noted l) ≡ world.is_link c e l
  ends_pushed c e l = pushed_ends l.cut Noted l c e refl

  none_star : (c g : ℕ) → link_at c g bare.links ≡ None → link_at c g Star.links ≡ None
  none_star c g e = go (found (pushed Noted) (λ x y m. ends_pushed x y m) b o.host c g bare.links)
    where
      go : Found (pushed Noted) (link_at c g bare.links) (link_at c g (with_link (pushed Noted) b o.host bare.links)) → link_at c g Star.links ≡ None
      go (link_as_it_was i) = i ∙ e
      go (link_changed m i j) = none_some m (sym e ∙ i)

  there_star : (g : ℕ) (m : Link) → link_at b g bare.links ≡ Some m → (ps : List (Put Name)) → (l : Link) × (link_at b g (push_all b ps Star.links) ≡ Some l)
  unfolding push_all
  there_star g m e ps = let t = all_there m.cut b g b (record { to = o.host; note = Noted } ∷ ps) bare.links (m, e, refl) in (t.0, t.1)

  module _ (on : IsOpenWay honest b o.host bare) (rh : Vat Name) (can : CanPass script honest Full b o.host rh o.now) (ready : Ready script honest Star b o.now) where
    uncut_full : (l : Link) → link_at b o.host Full.links ≡ Some l → l.cut ≡ false
    unfolding keeping
    uncut_full l e = let t = kept_there (in_front first) false b o.host a b (λ m. ends_front b o.host m) cut_front bare.links (on.link, on.found, on.uncut) in ap (λ (z : Link). z.cut) (some_is l t.0 (sym e ∙ t.1)) ∙ t.2

    true_false : true ≡ false → ⊥
    true_false e = cc

    not_cut : IsCutFrom Full b o.host → ⊥
    not_cut c = true_false (sym c.cut ∙ uncut_full c.link c.found)

    opens_on : (m : Name) → IsOpenOrLost script Full b o.host rh m → IsOpenOrLost script Star b o.host rh m
    opens_on m (inl i) = inl i
    opens_on m (inr (inl i)) = inr (inl i)
    opens_on m (inr (inr i)) = absurd (not_cut i)

    vats_on : (g : ℕ) → IsThere Full b g ⊎ IsNoVat Full g → IsThere Star b g ⊎ IsNoVat Star g
    unfolding keeping push_all
    vats_on g (inl i) = let m = there_bare b g (i.link []).0 (i.link []).1 in inl (record { vat = i.vat; found = i.found; link = λ ps. there_star g m.0 m.1 ps })
    vats_on g (inr i) = inr (record { none = λ c. none_star c g (none_bare c g (i.none c)) })

    same_held : (x : Value Name) → IsHeld script honest Star b o.now x → IsHeld script honest Full b o.now x
    same_held (Ref m) i = i
    same_held Null i = tt
    same_held (Flag c) i = tt
    same_held (Number z) i = tt
    same_held (Letter c) i = tt
    same_held (Text p) i = tt
    same_held (Prim k) i = tt
    same_held (Broken p) i = tt
    same_held (Items k) i = tt

    led_full : (x : Value Name) → LeadsAmid script honest Star b o.now b x ≡ LeadsAmid script honest Full b o.now b x
    unfolding leads amid keeping
    led_full x = refl

    full_vats : Full.vats ≡ bare.vats
    unfolding keeping
    full_vats = refl

    pub can_star : CanPass script honest Star b o.host rh o.now
    can_star = record {
      ready = ready;
      opens = λ x m i e. let p = can.opens x m (same_held x i) (sym (led_full x) ∙ e) in (p.0, opens_on m p.1);
      vats = λ x g m i e. vats_on g (can.vats x g m (same_held x i) (sym (led_full x) ∙ e));
      gifts = λ x e v g t f. can.gifts x e v g t (ap (λ vs. slice_get vs v) full_vats ∙ f);
    }

    -- ---- what was learnt came so

    module _ (rh_there : slice_get bare.vats o.host ≡ Some rh) (number : rh.number ≡ o.host) (other : o.host ≡ b → ⊥) (plain : (m : Name) → IsObject m → refs.entry_of (names script o.host) rh.known m ≡ None) where
      lists_same : o.came_to.lists ≡ o.now.lists
      lists_same = (on_gives (AllPass script honest Star b o.host r rh everyone there rh_there number other plain [] o.now NoMore) (refs.pass_all K o.host o.mail.args o.now) o.passed o.came_to o.run
          (passed_all script honest Star b o.host r rh everyone there rh_there number other plain [] NoMore o.mail.args o.now can_star (λ k. tt))).step.lists

      waited_lists : (t v : Vat Name) → Waited K t v → v.lists ≡ t.lists
      waited_lists t v no_wait = refl
      waited_lists t v (waits_for g m z k e f) = refl

      lists_then : u.lists ≡ o.now.lists
      lists_then = waited_lists (put_out K o.mail o.host o.aim o.passed o.came_to) u o.waited ∙ lists_same

      -- what settled stays, and what is known was
      entry_settled : (q : Option (Known Name)) (y : Value Name) → refs.standing_in q ≡ Settled y → (k : Known Name) × (q ≡ Some k) × (k.standing ≡ Settled y)
      unfolding refs.standing_in
      entry_settled (Some k) y e = (k, refl, e)
      entry_settled None y e = absurd (cc)

      waited_settled : (t v : Vat Name) → Waited K t v → (m : Name) (y : Value Name) → refs.standing_of K t.known m ≡ Settled y → refs.standing_of K v.known m ≡ Settled y
      waited_settled t v no_wait m y e = e
      waited_settled t v (waits_for g i z k e f) m y q = settled_at (entry_settled (refs.entry_of K t.known m) y (standing_entry script b t.known m q))
        where
          settled_at : (j : Known Name) × (refs.entry_of K t.known m ≡ Some j) × (j.standing ≡ Settled y) → refs.standing_of K (state.with_change K (Wait (Answer g i)) z (state.with_change K (WaitOn z) (Answer g i) t.known)) m ≡ Settled y
          settled_at j = entry_standing script b (state.with_change K (Wait (Answer g i)) z (state.with_change K (WaitOn z) (Answer g i) t.known)) m j.0
              (settled_kept script b (Wait (Answer g i)) z (state.with_change K (WaitOn z) (Answer g i) t.known) m j.0 y (settled_kept script b (WaitOn z) (Answer g i) t.known m j.0 y j.1 j.2) j.2) ∙ j.2

      settled_then : (m : Name) (y : Value Name) → refs.standing_of K o.now.known m ≡ Settled y → refs.standing_of K u.known m ≡ Settled y
      settled_then m y e = waited_settled (put_out K o.mail o.host o.aim o.passed o.came_to) u o.waited m y ((refers_same script honest b o.now (put_out K o.mail o.host o.aim o.passed o.came_to) o.alike).standing m ∙ e)

      known_back : (t v : Vat Name) → Waited K t v → (m : Name) → IsKnown K v m → IsKnown K t m
      known_back t v no_wait m i = i
      known_back t v (waits_for g j z k e f) m i = changed_back script b (WaitOn z) (Answer g j) t.known m (changed_back script b (Wait (Answer g j)) z (state.with_change K (WaitOn z) (Answer g j) t.known) m i)

      alike_back : (m : Name) (c e : Option (Known Name)) → StandsAlike m c e → (k : Known Name) × (e ≡ Some k) → (k : Known Name) × (c ≡ Some k)
      alike_back m (Some j) e h i = (j, refl)
      alike_back m None (Some j) h i = absurd h
      alike_back m None None h i = absurd (let f : ◌≡◌ {A = Option (Known Name)} None (Some i.0) = i.1 in cc)

      held_back : (z w : World) (x : Value Name) → IsHeld script honest z b u x → IsHeld script honest w b o.now x
      held_back z w (Ref m) (inl i) = inl i
      held_back z w (Ref m) (inr i) = inr (alike_back m (refs.entry_of K o.now.known m) (refs.entry_of K (put_out K o.mail o.host o.aim o.passed o.came_to).known m) (o.alike.entries m) (known_back (put_out K o.mail o.host o.aim o.passed o.came_to) u o.waited m i))
      held_back z w Null i = tt
      held_back z w (Flag c) i = tt
      held_back z w (Number y) i = tt
      held_back z w (Letter c) i = tt
      held_back z w (Text p) i = tt
      held_back z w (Prim k) i = tt
      held_back z w (Broken p) i = tt
      held_back z w (Items k) i = tt

      all_back : (z w : World) (xs : List (Value Name)) → AllOf (IsHeld script honest z b u) xs → AllOf (IsHeld script honest w b o.now) xs
      all_back z w [] i = tt
      all_back z w (x ∷ xs) i = (held_back z w x i.0, all_back z w xs i.1)

      module _ (views : ViewsRest script b s.known) (z : World) (then_true : IsTrue script honest z b u) where
        viewed_not : (g : Name) (p : Words) → ◌≡◌ {A = Standing Name} (Settled (Broken p)) (Viewed g) → ⊥
        viewed_not g p e = cc

        items_not : (k : ℕ) (p : Words) → ◌≡◌ {A = Standing Name} (Settled (Broken p)) (Settled (Items k)) → ⊥
        items_not k p e = cc

        broken_plain : (p : Words) (y : Value Name) → ◌≡◌ {A = Standing Name} (Settled (Broken p)) (Settled y) → Broken p ≡ y
        broken_plain p y e = cc

        now_views : ViewsRest script b o.now.known
        now_views = record {
          views = λ m g k e f. by_views m g k e f (o.rel.standing m) (o.rel.standing g);
          last = λ m y e. by_last m y e (o.rel.standing m);
          objects = λ m i. unknown_unsettled script b o.now.known m (ready.ends.objects m i);
        }
          where
            by_views : (m g : Name) (k : ℕ) → refs.standing_of K o.now.known m ≡ Viewed g → refs.standing_of K o.now.known g ≡ Settled (Items k) → StandsOr K s.known o.now.known m → StandsOr K s.known o.now.known g → ⊥
            by_views m g k e f (inl i) (inl j) = views.views m g k (sym i ∙ e) (sym j ∙ f)
            by_views m g k e f (inr i) j = viewed_not g i.0 (sym i.1 ∙ e)
            by_views m g k e f i (inr j) = items_not k j.0 (sym j.1 ∙ f)

            by_last : (m : Name) (y : Value Name) → refs.standing_of K o.now.known m ≡ Settled y → StandsOr K s.known o.now.known m → NoPromise y
            by_last m y e (inl i) = views.last m y (sym i ∙ e)
            by_last m y e (inr i) = subst NoPromise (broken_plain i.0 y (sym i.1 ∙ e)) tt

        now_agrees : Agrees script b o.now
        now_agrees = record {
          lists = λ done told k vs ws e i. then_true.agrees.lists done told k vs ws (ap (λ ls. slice_get ls k) lists_then ∙ e) i;
          settled = λ done told m k y i e. then_true.agrees.settled done told m k y i (settled_then m y e);
        }

        now_members : HoldsMembers script honest Star b o.now
        now_members k vs e = all_back z Star vs (then_true.members k vs (ap (λ ls. slice_get ls k) lists_then ∙ e))

        pub came_star : (done : List Event) → IsTold script done → (c : ℕ) → AllCame (λ y x. CameAs script honest Star b o.host c o.now done y x) ys o.mail.args
        came_star done told c = what_is_had_came script honest Star b o.host o.now now_agrees (views_no_list script b o.now now_views) now_members ys o.mail.args o.had (o.held Star) c done told
