-- A name breaks in the middle of the step in which it came to be: a small step, by which what led to it leads nowhere.
use Rattle.std.proofs.Common.{◌≡◌, ℕ, suc, Bool, true, false, List, [], ◌∷◌, Option, Some, None, length, refl, sym, ap, subst, ◌∙◌, ◌⊎◌, inl, inr}
use Rattle.std.proofs.lemmas.List.{append-nil}
use Rattle.std.specs.Prelude.{slice_get, ◌==◌}
use Rattle.def_machine.specs.Values.{Words, Value, Broken, Ref, Name, Object, Naming, host_of}
use Rattle.def_machine.specs.State.{Unsettled, Settled, Known, Settle, Settles, Vat, changed, is_in}
use Rattle.def_machine.specs.Refs as refs
use Rattle.def_machine.specs.Refs.{entry_of, follow_at}
use Rattle.def_run.specs.World as world
use Rattle.def_run.specs.World.{Script, Event, Link, World, names}
use Rattle.law_fate.specs.Name.Names.{IsEventual}
use Rattle.law_order.specs.Ordering.Ways.{Held, Way, Place, Nowhere, End}
use Rattle.law_order.specs.Ordering.Places.{aimed, by_follow, by_host, of_name, held_in, held_on, leads_in, leads_at, leads, ways, amid}
use Rattle.law_order.specs.Ordering.Steps.{Ready}
use Rattle.law_order.specs.Ordering.Worlds.{IsObject}
use Rattle.law_order.proofs.Ordering.Adding.{refers_same}
use Rattle.law_order.proofs.Ordering.Adds.{alike_same}
use Rattle.law_order.proofs.Ordering.Amid.{Put, put_either}
use Rattle.law_order.specs.Views.Led.{StandsOtherwise}
use Rattle.law_order.proofs.Views.Quiet as quiet
use Rattle.law_order.proofs.Views.Quiet.{is_name}
use Rattle.law_order.proofs.Views.Settling.{IsOpen, settles_alone, settled_now}
use Rattle.law_order.proofs.Views.Severed.{IsAlone, meets}
use Rattle.law_order.proofs.Carries.Breaking.{IsFresh, Line, Broke, breaks}
use Rattle.law_order.specs.History.Tells.{SmallStep}
use Rattle.law_order.specs.Tales.Middle.{middle, MovesNone}
use Rattle.law_order.specs.Tales.Resting.{Rests}
use Rattle.law_order.proofs.Tales.Middle.{moves_still}
use Rattle.law_order.proofs.Tales.Resting.{resting}
use Rattle.law_order.proofs.Tales.Still.{rests_by}

-- the same place, or nowhere
abbrev Either : Place → Place → Type 0
Either c d = (d ≡ c) ⊎ (d ≡ Nowhere)

-- ---- where references lead

module _ (script : Script) (honest : ℕ → Bool) (v : ℕ) (s t : Vat Name) (p : Name) (problem : Words) {old now : Known Name} (g : StandsOtherwise (names script v) s t p old now) (waited : old.standing ≡ Unsettled) (broken : now.standing ≡ Settled (Broken problem)) where
  abbrev K : Naming Name Name
  K = names script v

  abbrev Aimed : Vat Name → Value Name → Place
  Aimed r z = aimed v (refs.severed K r z) (refs.place K r (refs.severed K r z))

  met : (a b : Value Name) → (b ≡ a) ⊎ ((a ≡ Ref p) × (b ≡ Broken problem)) → Either (Aimed s a) (Aimed t b)
  unfolding refs.severed refs.place aimed
  met a b (inl e) = inl (ap (λ z. Aimed t z) e ∙ quiet.aims_same script honest v s t p g a)
  met a b (inr h) = inr (ap (λ z. Aimed t z) h.1)

  follows_or : (x : Value Name) → Either (by_follow script honest v s x) (by_follow script honest v t x)
  unfolding by_follow refs.follow
  follows_or x = let d = suc (length s.known) in
      subst (λ k. Either (Aimed s (follow_at K d s.known x)) (Aimed t (follow_at K (suc k) t.known x))) (sym g.names_known)
      (met (follow_at K d s.known x) (follow_at K d t.known x) (meets script honest v s t p problem g waited broken d x))

  hosts_same : (n : Name) (h : ℕ) → by_host v t n h ≡ by_host v s n h
  unfolding by_host
  hosts_same n h = ap (λ q. elim (is_in h q) [ true ↦ Nowhere | false ↦ elim (v == h) [ true ↦ End (Held v n) n | false ↦ End (Way v h) n ] ]) g.noticed

  unknown_or : (n : Name) → Either (of_name script honest v s n None) (of_name script honest v t n None)
  unfolding of_name
  unknown_or (Object h i) = follows_or (Ref (Object h i))
  unknown_or other = inl (hosts_same other (host_of other))

  known_or : (n : Name) (j k : Known Name) → entry_of K s.known n ≡ Some j → entry_of K t.known n ≡ Some k → Either (leads_in script honest v s (Ref n)) (leads_in script honest v t (Ref n))
  unfolding leads_in
  known_or n j k e f =
      subst (λ c. Either c (leads_in script honest v t (Ref n))) (sym (ap (λ o. of_name script honest v s n o) e ∙ quiet.of_known script honest v s t p g s n j))
      (subst (λ c. Either (by_follow script honest v s (Ref n)) c) (sym (ap (λ o. of_name script honest v t n o) f ∙ quiet.of_known script honest v s t p g t n k)) (follows_or (Ref n)))

  other_or : (n : Name) (o : Option (Known Name)) → entry_of K s.known n ≡ o → entry_of K t.known n ≡ o → Either (leads_in script honest v s (Ref n)) (leads_in script honest v t (Ref n))
  unfolding leads_in
  other_or n (Some k) e f = known_or n k k e f
  other_or n None e f =
      subst (λ c. Either c (leads_in script honest v t (Ref n))) (sym (ap (λ o. of_name script honest v s n o) e))
      (subst (λ c. Either (of_name script honest v s n None) c) (sym (ap (λ o. of_name script honest v t n o) f)) (unknown_or n))

  name_or : (n : Name) → (n ≡ p) ⊎ (n ≡ p → ⊥) → Either (leads_in script honest v s (Ref n)) (leads_in script honest v t (Ref n))
  name_or n (inl e) = known_or n old now (ap (λ m. entry_of K s.known m) e ∙ g.found) (ap (λ m. entry_of K t.known m) e ∙ g.found_then)
  name_or n (inr f) = other_or n (entry_of K s.known n) refl (g.others n f)

  leads_or : (x : Value Name) → Either (leads_in script honest v s x) (leads_in script honest v t x)
  unfolding leads_in
  leads_or (Ref n) = name_or n (is_name n p)
  leads_or other = follows_or other

  -- what is held stays
  holds_none : (n : Name) (k : Known Name) → k.held ≡ [] → held_in n (Some k) ≡ []
  unfolding held_in held_on
  holds_none n k e = ap (λ ms. held_on n ms) e

  held_same : (n : Name) → (n ≡ p) ⊎ (n ≡ p → ⊥) → held_in n (entry_of K t.known n) ≡ held_in n (entry_of K s.known n)
  held_same n (inl e) = ap (λ o. held_in n o) (ap (λ m. entry_of K t.known m) e ∙ g.found_then) ∙ holds_none n now g.empty_then ∙ sym (ap (λ o. held_in n o) (ap (λ m. entry_of K s.known m) e ∙ g.found) ∙ holds_none n old g.empty)
  held_same n (inr f) = ap (λ o. held_in n o) (g.others n f)

-- ---- the step

module _ (script : Script) (honest : ℕ → Bool) (w : World) (v : ℕ) (r : Vat Name) (at : slice_get w.vats v ≡ Some r) (head : List Event) (s : Vat Name) (p : Name) (problem : Words) {known : Known Name} (l : IsFresh (names script v) v s p known) (alone : IsAlone (names script v) s.known p)
    (eventual : IsEventual p) (plain : IsObject p → ⊥) (ready : Ready script honest w v s) where
  abbrev N : Naming Name Name
  N = names script v

  abbrev Told : Vat Name
  Told = Line s p problem

  abbrev T : Vat Name
  T = Broke N s p problem

  only : StandsOtherwise N Told T p known (changed (Settle (Broken problem)) known)
  only = settles_alone script v Told p (Broken problem) known l.found (subst IsOpen (sym l.unsettled) tt) l.held

  broken : (changed (Settle (Broken problem)) known).standing ≡ Settled (Broken problem)
  broken = settled_now script v Told p (Broken problem) known l.found (subst IsOpen (sym l.unsettled) tt) l.held

  told_leads : (x : Value Name) → leads_in script honest v Told x ≡ leads_in script honest v s x
  told_leads x = (refers_same script honest v s Told (alike_same N s Told refl refl refl refl)).leading x

  then_leads : (x : Value Name) → Either (leads_in script honest v s x) (leads_in script honest v T x)
  then_leads x = subst (λ c. Either c (leads_in script honest v T x)) (told_leads x) (leads_or script honest v Told T p problem only l.unsettled broken x)

  at_vat : (vs : List (Vat Name)) (u : ℕ) (x : Value Name) → Put v s T vs u → Either (leads_at script honest u (slice_get (world.put_at v s vs) u) x) (leads_at script honest u (slice_get (world.put_at v T vs) u) x)
  unfolding leads_at
  at_vat vs u x (inl h) = subst (λ o. Either (leads_at script honest u o x) (leads_at script honest u (slice_get (world.put_at v T vs) u) x)) (sym h.1)
      (subst (λ o. Either (leads_in script honest u s x) (leads_at script honest u o x)) (sym h.2) (subst (λ z. Either (leads_in script honest z s x) (leads_in script honest z T x)) (sym h.0) (then_leads x)))
  at_vat vs u x (inr h) = inl (ap (λ o. leads_at script honest u o x) h)

  abbrev X : World
  X = middle w v head s

  abbrev Y : World
  Y = middle w v head T

  moves : MovesNone N s T
  moves = record {
    queue = refl;
    held = λ n. held_same script honest v Told T p problem only l.unsettled broken n (is_name n p);
    puts = [];
    outbox = sym (append-nil s.outbox);
    none = tt;
    lines = Settles p (Broken problem) ∷ [];
    happened = refl;
    quiet = (tt, tt);
  }

  rests : Rests script honest X Y
  unfolding ways amid leads
  rests = let firm = (breaks script honest w v r at s p problem l alone eventual plain ready).1 in rests_by script honest X Y (moves_still script honest w v head s T moves)
      (λ u n. at_vat w.vats u (Ref n) (put_either v s T w.vats u))
      (λ u n a i. (firm.references u (Ref n)).1 a i)
      (λ k b n a i. (firm.places k b n).1 a i)

  pub breaking_small : SmallStep script honest X Y
  breaking_small = resting script honest X Y rests
