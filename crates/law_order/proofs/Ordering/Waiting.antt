-- As a name waits of which nothing was said the ways only grow, and the vat stays ready.
use Rattle.std.proofs.Common.{◌≡◌, ℕ, suc, Bool, Option, Some, None, length, refl, sym, ap, subst, ◌∙◌, ◌⊎◌, inl, inr}
use Rattle.def_machine.specs.Values.{Value, Ref, Name, Promise, Answer, Naming}
use Rattle.def_machine.specs.State.{Standing, Unsettled, WaitsOn, Settled, Known, Vat, Wait, WaitOn, Waits}
use Rattle.def_machine.specs.State as state
use Rattle.def_machine.specs.Refs as refs
use Rattle.def_run.specs.World.{Script, World, names}
use Rattle.law_order.specs.Ordering.Worlds.{IsWaiting, IsFixed, AddsOnly}
use Rattle.law_order.specs.Ordering.Settlings.{with_line, IsLoose}
use Rattle.law_order.specs.Ordering.Steps.{Ready, Grown}
use Rattle.law_order.specs.Ordering.Resolve.{StandsNear, OnlyWaits}
use Rattle.law_order.proofs.Ordering.Sends.{none_some, some_same}
use Rattle.law_order.proofs.Ordering.Entries.{Differs, as_it_was, changes, differs, same_length}
use Rattle.law_order.proofs.Ordering.Adds.{change_adds, adds_nothing, grown_adds, stays_quiet}
use Rattle.law_order.proofs.Ordering.News.{grown_then}
use Rattle.law_order.proofs.Ordering.Loose.{follows_alike, waiting_grown}

near_self : (p n : Name) (o : Option (Known Name)) → StandsNear p n o o
near_self p n None = tt
near_self p n (Some k) = (inl refl, refl, refl)

near_none : (p n : Name) (a b : Option (Known Name)) → StandsNear p n a b → a ≡ None → b ≡ None
near_none p n None None h e = refl
near_none p n None (Some k) h e = absurd h
near_none p n (Some j) b h e = none_some j (sym e)

near_back : (p n : Name) (a b : Option (Known Name)) → StandsNear p n a b → (k : Known Name) → b ≡ Some k → (j : Known Name) × (a ≡ Some j)
near_back p n None None h k e = none_some k e
near_back p n None (Some j) h k e = absurd h
near_back p n (Some j) b h k e = (j, refl)

-- what waits goes on waiting
still_waits : (p n : Name) (a b : Option (Known Name)) → StandsNear p n a b → (j : Known Name) → a ≡ Some j → IsWaiting j.standing → (k : Known Name) × (b ≡ Some k) × IsWaiting k.standing
still_waits p n None b h j e i = none_some j e
still_waits p n (Some x) None h j e i = absurd h
still_waits p n (Some x) (Some k) h j e i = (k, refl, go h.0)
  where
    go : (k.standing ≡ x.standing) ⊎ ((n ≡ p) × (x.standing ≡ Unsettled) × IsWaiting k.standing) → IsWaiting k.standing
    go (inl f) = subst IsWaiting (sym (f ∙ ap (λ z. z.standing) (some_same x j e))) i
    go (inr f) = f.2

on_by : (q p n : Name) (k : Known Name) (z : Standing Name) → n ≡ p → z ≡ Unsettled → k.standing ≡ Unsettled → StandsNear p n (Some k) (Some (state.unless_settled z k (record k { standing = WaitsOn q })))
unfolding state.unless_settled
on_by q p n k (Settled y) e f g = (inl refl, refl, refl)
on_by q p n k other e f g = (inr (e, g, tt), refl, refl)

on_near : (q p n : Name) (k : Known Name) → n ≡ p → k.standing ≡ Unsettled → StandsNear p n (Some k) (Some (state.changed (WaitOn q) k))
unfolding state.changed state.changed_to
on_near q p n k e g = on_by q p n k k.standing e g g

module _ (script : Script) (honest : ℕ → Bool) (w : World) (v : ℕ) (s : Vat Name) (p q : Name) (k : Known Name) (e : refs.entry_of (names script v) s.known p ≡ Some k) (u : k.standing ≡ Unsettled) (loose : IsLoose script honest w v p s) where
  abbrev N : Naming Name Name
  N = names script v

  abbrev Mid : Vat Name
  Mid = record s { known = state.with_change N (WaitOn q) p s.known }

  abbrev End : Vat Name
  End = record Mid { known = state.with_change N (Wait p) q Mid.known }

  near_by : (n : Name) (a b : Option (Known Name)) → refs.entry_of N s.known n ≡ a → Differs script v (WaitOn q) p n a b → StandsNear p n a b
  near_by n a b i (as_it_was j) = subst (λ z. StandsNear p n a z) (sym j) (near_self p n a)
  near_by n a b i (changes j f g h) =
      let same : j ≡ k = some_same j k (sym g ∙ sym i ∙ ap (λ z. refs.entry_of N s.known z) f ∙ e) in
      subst (λ z. StandsNear p n z b) (sym g) (subst (λ z. StandsNear p n (Some j) z) (sym h) (on_near q p n j f (ap (λ z. z.standing) same ∙ u)))

  only_waits : OnlyWaits N p s Mid
  only_waits = record { number = refl; gifts = refl; noticed = refl; queue = refl; outbox = refl; names_known = same_length script v (WaitOn q) p s.known; entries = λ n. near_by n (refs.entry_of N s.known n) (refs.entry_of N Mid.known n) refl (differs script v (WaitOn q) p n s.known) }

  then_adds : AddsOnly N Mid End
  then_adds = change_adds N (Wait p) q tt Mid

  entries_near : (n : Name) → StandsNear p n (refs.entry_of N s.known n) (refs.entry_of N Mid.known n)
  entries_near n = only_waits.entries n

  fixed_ref : (m : Name) → IsFixed N s (Ref m) → IsFixed N Mid (Ref m)
  fixed_ref m (inl i) = inl i
  fixed_ref m (inr h) = inr (still_waits p m (refs.entry_of N s.known m) (refs.entry_of N Mid.known m) (entries_near m) h.0 h.1 h.2)

  fixed_near : (y : Value Name) → IsFixed N s y → IsFixed N Mid y
  fixed_near (Ref m) i = fixed_ref m i
  fixed_near other i = tt

  followed_near : (x : Value Name) → refs.follow_at N (suc (length Mid.known)) Mid.known x ≡ refs.follow_at N (suc (length s.known)) s.known x
  followed_near x = follows_alike N p s Mid only_waits (suc (length Mid.known)) x ∙ ap (λ d. refs.follow_at N (suc d) s.known x) only_waits.names_known

  ready_near : Ready script honest w v s → Ready script honest w v Mid
  ready_near r = record {
    number = r.number;
    ends = record {
      objects = λ n i. near_none p n (refs.entry_of N s.known n) (refs.entry_of N Mid.known n) (entries_near n) (r.ends.objects n i);
      fixed = λ n h. let j = near_back p n (refs.entry_of N s.known n) (refs.entry_of N Mid.known n) (entries_near n) h.0 h.1 in
          subst (IsFixed N Mid) (sym (followed_near (Ref n))) (fixed_near (refs.follow_at N (suc (length s.known)) s.known (Ref n)) (r.ends.fixed n j));
    };
    draws = r.draws;
    answers = λ h i j. let n = Answer h (record { sender = v; number = i }) in near_none p n (refs.entry_of N s.known n) (refs.entry_of N Mid.known n) (entries_near n) (r.answers h i j);
    promises = λ i j. near_none p (Promise v i) (refs.entry_of N s.known (Promise v i)) (refs.entry_of N Mid.known (Promise v i)) (entries_near (Promise v i)) (r.promises i j);
  }

  pub waits_grown : Grown script honest w v s (with_line End (Waits p q))
  waits_grown = grown_then script honest w v s End (with_line End (Waits p q))
      (grown_then script honest w v s Mid End (waiting_grown script honest w v s Mid p only_waits loose) (grown_adds script honest w v Mid End then_adds))
      (grown_adds script honest w v End (with_line End (Waits p q)) (adds_nothing N End (with_line End (Waits p q)) refl refl refl refl refl refl))

  pub waits_ready : Ready script honest w v s → Ready script honest w v (with_line End (Waits p q))
  waits_ready r = (stays_quiet script honest w v End (with_line End (Waits p q)) (adds_nothing N End (with_line End (Waits p q)) refl refl refl refl refl refl, refl, refl, refl)
      (stays_quiet script honest w v Mid End (then_adds, refl, refl, refl) (ready_near r)).0).0
