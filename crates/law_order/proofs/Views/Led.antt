-- A name with a view was followed to what that view settled to: so nothing leads elsewhere as it settles there.
use Rattle.std.proofs.Common.{◌≡◌, ℕ, zero, suc, Bool, List, Option, Some, None, length, refl, sym, ap, subst, ◌∙◌, ◌⊎◌, inl, inr}
use Rattle.std.specs.Prelude.{slice_get}
use Rattle.def_machine.specs.Values.{Value, Ref, Name, Root, Promise, Answer, Gift, Sent, Naming}
use Rattle.def_machine.specs.State.{Standing, Unsettled, Viewed, Settled, Known, Vat}
use Rattle.def_machine.specs.Refs as refs
use Rattle.def_machine.specs.Refs.{entry_of, standing_of, standing_in, follow_at}
use Rattle.def_run.specs.World as world
use Rattle.def_run.specs.World.{Script, Link, World, names}
use Rattle.law_order.specs.Ordering.Places.{aimed, by_follow, of_name, leads_in, leads_at, leads, released, released_at}
use Rattle.law_order.specs.Ordering.Settle.{IsEnded}
use Rattle.law_order.specs.Ordering.Steps.{Ready, Grown}
use Rattle.law_order.specs.Ordering.Worlds.{IsWaiting, IsFixed, FollowsEnd}
use Rattle.law_order.specs.Views.Led.{SettlesAsItsView, ViewsSettleQuietly}
use Rattle.law_order.proofs.Views.Alike.{WasFree, grown_by}
use Rattle.law_order.proofs.Views.Quiet as quiet
use Rattle.law_order.proofs.Views.Quiet.{is_name}

unsettled_apart : (y : Value Name) → ◌≡◌ {A = Standing Name} Unsettled (Settled y) → ⊥
unsettled_apart y e = cc

module _ (script : Script) (honest : ℕ → Bool) (v : ℕ) (s t : Vat Name) (p : Name) (y : Value Name) (g : SettlesAsItsView (names script v) s t p y) (ends : FollowsEnd (names script v) s) where
  abbrev K : Naming Name Name
  K = names script v

  -- ---- what is known

  stood : standing_of K s.known p ≡ Viewed g.view
  unfolding standing_of standing_in
  stood = ap (λ o. standing_in o) g.only.found ∙ g.viewed

  stands : standing_of K t.known p ≡ Settled y
  unfolding standing_of standing_in
  stands = ap (λ o. standing_in o) g.only.found_then ∙ g.settled

  stays : (n : Name) → (n ≡ p → ⊥) → standing_of K t.known n ≡ standing_of K s.known n
  stays n f = quiet.stays script honest v s t p g.only n f

  -- ---- following

  -- the view settled, so nothing ends there
  view_leads : IsFixed K s (Ref g.view) → ⊥
  unfolding standing_of standing_in
  view_leads (inl o) = unsettled_apart y (sym (ap (λ k. standing_in k) (ends.objects g.view o)) ∙ g.leads)
  view_leads (inr h) = subst IsWaiting (sym (ap (λ o. standing_in o) h.1) ∙ g.leads) h.2

  abbrev In : ℕ → Value Name → Value Name
  In d z = follow_at K d s.known z

  abbrev Then : ℕ → Value Name → Value Name
  Then d z = follow_at K d t.known z

  at_view : (d : ℕ) → IsFixed K s (In d (Ref g.view)) → Then d y ≡ In d (Ref g.view)
  unfolding follow_at refs.led
  at_view zero h = absurd (view_leads h)
  at_view (suc d) h = g.ended_then (suc d) ∙ sym (ap (λ q. refs.led K (λ z. In d z) g.view q) g.leads ∙ g.ended d)

  at_standing : (d : ℕ) (n : Name) (q : Standing Name) → ((z : Value Name) → IsFixed K s (In d z) → Then d z ≡ In d z) → IsFixed K s (refs.led K (λ z. In d z) n q) → refs.led K (λ z. Then d z) n q ≡ refs.led K (λ z. In d z) n q
  unfolding refs.led
  at_standing d n (Viewed q) f h = f (Ref q) h
  at_standing d n (Settled z) f h = f z h
  at_standing d n other f h = refl

  at_p : (d : ℕ) → IsFixed K s (refs.led K (λ z. In d z) p (standing_of K s.known p)) → refs.led K (λ z. Then d z) p (standing_of K t.known p) ≡ refs.led K (λ z. In d z) p (standing_of K s.known p)
  unfolding refs.led
  at_p d h = ap (λ q. refs.led K (λ z. Then d z) p q) stands ∙ at_view d (subst (λ q. IsFixed K s (refs.led K (λ z. In d z) p q)) stood h) ∙ sym (ap (λ q. refs.led K (λ z. In d z) p q) stood)

  at_name : (d : ℕ) (n : Name) → ((z : Value Name) → IsFixed K s (In d z) → Then d z ≡ In d z) → IsFixed K s (refs.led K (λ z. In d z) n (standing_of K s.known n)) → refs.led K (λ z. Then d z) n (standing_of K t.known n) ≡ refs.led K (λ z. In d z) n (standing_of K s.known n)
  at_name d n f h = go (is_name n p)
    where
      go : (n ≡ p) ⊎ (n ≡ p → ⊥) → refs.led K (λ z. Then d z) n (standing_of K t.known n) ≡ refs.led K (λ z. In d z) n (standing_of K s.known n)
      go (inl e) = subst (λ m. refs.led K (λ z. Then d z) m (standing_of K t.known m) ≡ refs.led K (λ z. In d z) m (standing_of K s.known m)) (sym e) (at_p d (subst (λ m. IsFixed K s (refs.led K (λ z. In d z) m (standing_of K s.known m))) e h))
      go (inr i) = ap (λ q. refs.led K (λ z. Then d z) n q) (stays n i) ∙ at_standing d n (standing_of K s.known n) f h

  agrees : (d : ℕ) (x : Value Name) → IsFixed K s (In d x) → Then d x ≡ In d x
  unfolding follow_at
  agrees zero x h = refl
  agrees (suc d) (Ref n) h = at_name d n (λ z i. agrees d z i) h
  agrees (suc d) other h = refl

  abbrev Long : ℕ
  Long = suc (length s.known)

  unknown_stays : (n : Name) → entry_of K s.known n ≡ None → Then Long (Ref n) ≡ In Long (Ref n)
  unfolding follow_at refs.led standing_of standing_in
  unknown_stays n e = ap (λ o. refs.led K (λ z. Then (length s.known) z) n (standing_in o)) (g.only.others n (quiet.unknown_other script honest v s t p g.only n e) ∙ e) ∙ sym (ap (λ o. refs.led K (λ z. In (length s.known) z) n (standing_in o)) e)

  name_agrees : (n : Name) (o : Option (Known Name)) → entry_of K s.known n ≡ o → Then Long (Ref n) ≡ In Long (Ref n)
  name_agrees n (Some k) e = agrees Long (Ref n) (ends.fixed n (k, e))
  name_agrees n None e = unknown_stays n e

  all_agree : (x : Value Name) → Then Long x ≡ In Long x
  unfolding follow_at
  all_agree (Ref n) = name_agrees n (entry_of K s.known n) refl
  all_agree other = refl

  follows_on : (x : Value Name) → by_follow script honest v t x ≡ by_follow script honest v s x
  unfolding by_follow refs.follow
  follows_on x = ap (λ z. aimed v (refs.severed K t z) (refs.place K t (refs.severed K t z))) (ap (λ d. follow_at K (suc d) t.known x) g.only.names_known ∙ all_agree x) ∙ quiet.aims_same script honest v s t p g.only (In Long x)

  -- ---- where references lead

  leads_on : (x : Value Name) → leads_in script honest v t x ≡ leads_in script honest v s x
  leads_on x = quiet.leads_on script honest v s t p g.only follows_on x

  -- what is data or an object leads as it is followed
  of_ended : (z : Value Name) → IsEnded z → leads_in script honest v s z ≡ by_follow script honest v s z
  unfolding leads_in of_name
  of_ended (Ref (Root h)) e = absurd e
  of_ended (Ref (Promise h i)) e = absurd e
  of_ended (Ref (Answer h m)) e = absurd e
  of_ended (Ref (Gift h i)) e = absurd e
  of_ended (Ref (Sent m)) e = absurd e
  of_ended other e = refl

  view_known : (o : Option (Known Name)) → entry_of K s.known g.view ≡ o → (k : Known Name) × (entry_of K s.known g.view ≡ Some k)
  unfolding standing_of standing_in
  view_known (Some k) e = (k, e)
  view_known None e = absurd (unsettled_apart y (sym (ap (λ o. standing_in o) e) ∙ g.leads))

  view_followed : In Long (Ref g.view) ≡ y
  unfolding follow_at refs.led
  view_followed = ap (λ q. refs.led K (λ z. In (length s.known) z) g.view q) g.leads ∙ g.ended (length s.known)

  view_follow : refs.follow K s (Ref g.view) ≡ refs.follow K s y
  unfolding refs.follow
  view_follow = ap (λ z. refs.severed K s z) (view_followed ∙ sym (g.ended Long))

  -- the view leads to where y does
  view_on : leads_in script honest v s (Ref g.view) ≡ leads_in script honest v s y
  unfolding leads_in by_follow
  view_on = let k = view_known (entry_of K s.known g.view) refl in
      ap (λ o. of_name script honest v s g.view o) k.1 ∙ quiet.of_known script honest v s t p g.only s g.view k.0 ∙ ap (λ z. aimed v z (refs.place K s z)) view_follow ∙ sym (of_ended y g.plain)

  -- ---- what names hold

  module _ (vs : List (Vat Name)) (ls : List Link) where
    abbrev Before : List (Vat Name)
    Before = world.put_at v s vs

    -- where this vat is found before
    module _ (here : slice_get Before v ≡ Some s) where
      here_leads : (x : Value Name) → leads script honest Before ls v x ≡ leads_in script honest v s x
      unfolding leads leads_at
      here_leads x = ap (λ o. leads_at script honest v o x) here

      released_p : released script honest Before ls v p t.gifts (standing_of K t.known p) ≡ released script honest Before ls v p s.gifts (standing_of K s.known p)
      unfolding released
      released_p = ap (λ q. released script honest Before ls v p t.gifts q) stands ∙ here_leads y ∙ sym view_on ∙ sym (here_leads (Ref g.view)) ∙ sym (ap (λ q. released script honest Before ls v p s.gifts q) stood)

      pub released_mine : (q : Name) → released_at script honest Before ls v q (Some t) ≡ released_at script honest Before ls v q (Some s)
      unfolding released_at
      released_mine q = go (is_name q p)
        where
          go : (q ≡ p) ⊎ (q ≡ p → ⊥) → released script honest Before ls v q t.gifts (standing_of K t.known q) ≡ released script honest Before ls v q s.gifts (standing_of K s.known q)
          go (inl e) = subst (λ m. released script honest Before ls v m t.gifts (standing_of K t.known m) ≡ released script honest Before ls v m s.gifts (standing_of K s.known m)) (sym e) released_p
          go (inr f) = ap (λ z. released script honest Before ls v q t.gifts z) (stays q f) ∙ ap (λ gs. released script honest Before ls v q gs (standing_of K s.known q)) g.only.gifts

-- ---- in the middle of a step

module _ (script : Script) (honest : ℕ → Bool) (w : World) (v : ℕ) (s t : Vat Name) (p : Name) (y : Value Name) (g : SettlesAsItsView (names script v) s t p y) (r : Ready script honest w v s) where
  abbrev N : Naming Name Name
  N = names script v

  Leads : (x : Value Name) → leads_in script honest v t x ≡ leads_in script honest v s x
  Leads = leads_on script honest v s t p y g r.ends

  grown : Grown script honest w v s t
  grown = grown_by script honest w v s t (λ l. quiet.more script honest w v s t p g.only l) (λ u x. quiet.leading script honest w v s t p g.only Leads u x)
      (λ l n. quiet.onward_or script honest w v s t p g.only Leads WasFree (λ vs ls here q. inl (released_mine script honest v s t p y g r.ends vs ls here q)) l n)

  -- ---- who is ready

  known_before : (n : Name) (k : Known Name) → entry_of N t.known n ≡ Some k → (j : Known Name) × (entry_of N s.known n ≡ Some j)
  known_before n k e = go (is_name n p)
    where
      go : (n ≡ p) ⊎ (n ≡ p → ⊥) → (j : Known Name) × (entry_of N s.known n ≡ Some j)
      go (inl i) = (g.before, ap (λ m. entry_of N s.known m) i ∙ g.only.found)
      go (inr f) = (k, sym (g.only.others n f) ∙ e)

  some_same : (a b : Known Name) → Some a ≡ Some b → a ≡ b
  some_same a b e = cc

  none_some : (k : Known Name) → ◌≡◌ {A = Option (Known Name)} None (Some k) → ⊥
  none_some k e = cc

  view_apart : (q : Name) → IsWaiting (Viewed q) → ⊥
  view_apart q h = h

  -- nothing ends at p
  leads_on_from : IsFixed N s (Ref p) → ⊥
  leads_on_from (inl o) = none_some g.before (sym (r.ends.objects p o) ∙ g.only.found)
  leads_on_from (inr h) = view_apart g.view (subst IsWaiting (ap (λ (x : Known Name). x.standing) (some_same h.0 g.before (sym h.1 ∙ g.only.found)) ∙ g.viewed) h.2)

  followed_then : (n : Name) → follow_at N (suc (length t.known)) t.known (Ref n) ≡ follow_at N (suc (length s.known)) s.known (Ref n)
  followed_then n = ap (λ d. follow_at N (suc d) t.known (Ref n)) g.only.names_known ∙ all_agree script honest v s t p y g r.ends (Ref n)

  still_fixed : (n : Name) → IsFixed N s (follow_at N (suc (length s.known)) s.known (Ref n)) → IsFixed N t (follow_at N (suc (length s.known)) s.known (Ref n))
  still_fixed n h = quiet.fixed_then script honest v s t p g.only (follow_at N (suc (length s.known)) s.known (Ref n)) h (λ e. leads_on_from (subst (λ z. IsFixed N s z) e h))

  ends : FollowsEnd N t
  ends = record {
    objects = λ n o. g.only.others n (quiet.unknown_other script honest v s t p g.only n (r.ends.objects n o)) ∙ r.ends.objects n o;
    fixed = λ n h. subst (λ z. IsFixed N t z) (sym (followed_then n)) (still_fixed n (r.ends.fixed n (known_before n h.0 h.1)));
  }

pub views_settle_quietly : ViewsSettleQuietly
views_settle_quietly = λ script honest w v s t p y g r. (quiet.ready_then script honest w v s t p g.only (ends script honest w v s t p y g r) r, grown script honest w v s t p y g r)
