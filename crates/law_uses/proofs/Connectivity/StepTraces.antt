-- In every step, what a value is followed to is told.
use Rattle.std.proofs.Common.{◌≡◌, ℕ, zero, suc, Bool, true, false, List, refl, inl, inr, ◌⊎◌, length}
use Rattle.std.specs.Prelude.{codes}
use Rattle.def_machine.specs.Values.{Value, Broken, Ref, Naming, Spot, Own, Foreign, NoObject}
use Rattle.def_machine.specs.State.{Standing, Viewed, Settled, Known, Happened, Vat, Done, Gives, Throws, Ejects, Stops, is_in}
use Rattle.def_machine.specs.Refs.{standing_of, led, follow_at, severed_by, severed_at, severed, follow, host_at}
use Rattle.law_machine.specs.Machine.Steps.{Step, Opens, Takes, Receives, Notices, does, After}
use Rattle.law_machine.specs.Natives.Natives.{IsPlain}
use Rattle.law_uses.specs.Connectivity.Known.{settled, viewed, Reaches, itself, onward}
use Rattle.law_uses.specs.Connectivity.Following.{FollowsTold, StepsFollow}
use Rattle.law_uses.proofs.Connectivity.Traces.{TracesBy, traces_whole, IsTold, AllTold, Told, Ends, Traces}
use Rattle.law_machine.proofs.Machine.Whole.{whole_opening, whole_taking, whole_arrive, whole_notice}

module _ {N W : Type 0} (K : Naming N W) (before : List (Known N)) where
  step_traces : (step : Step N W) → Traces K before (does K step)
  unfolding does
  step_traces (Opens tree depth root given) = whole_opening (TracesBy K before) K (traces_whole K before) tree depth root given
  step_traces (Takes tree depth m) = whole_taking (TracesBy K before) K (traces_whole K before) tree depth m
  step_traces (Receives from n) = whole_arrive (TracesBy K before) K (traces_whole K before) from n
  step_traces (Notices w) = whole_notice (TracesBy K before) K (traces_whole K before) w

  at_first : (so : List (Happened N)) (x : Standing N) (n : N) → standing_of K before n ≡ x → IsTold K before so n x
  at_first so (Settled y) n e = settled e
  at_first so (Viewed q) n e = viewed e
  at_first so other n e = tt

  module _ (so : List (Happened N)) (ks : List (Known N)) (all : AllTold K before so ks) where
    led_reaches : (on : Value N → Value N) → ((y : Value N) → Reaches K before so y (on y)) → (n : N) (x : Standing N) → IsTold K before so n x → Reaches K before so (Ref n) (led K on n x)
    unfolding led
    led_reaches on f n (Settled y) h = onward y h (f y)
    led_reaches on f n (Viewed q) h = onward (Ref q) h (f (Ref q))
    led_reaches on f n other h = itself

    pub follow_reaches : (d : ℕ) (x : Value N) → Reaches K before so x (follow_at K d ks x)
    unfolding follow_at
    follow_reaches zero x = itself
    follow_reaches (suc d) (Ref n) = led_reaches (λ y. follow_at K d ks y) (λ y. follow_reaches d y) n (standing_of K ks n) (all n)
    follow_reaches (suc d) other = itself

  by_reaches : (so : List (Happened N)) (x : Value N) (n : N) (b : Bool) → Reaches K before so x (Ref n)
      → Reaches K before so x (elim b [ true ↦ Broken (codes "partition") | false ↦ Ref n ]) ⊎ IsPlain (elim b [ true ↦ Broken (codes "partition") | false ↦ Ref n ])
  by_reaches so x n true r = inr tt
  by_reaches so x n false r = inl r

  at_reaches : (so : List (Happened N)) (s : Vat N) (x : Value N) (n : N) (p : Spot) → Reaches K before so x (Ref n) → Reaches K before so x (severed_at K s n p) ⊎ IsPlain (severed_at K s n p)
  unfolding severed_at severed_by
  at_reaches so s x n (Own i) r = inl r
  at_reaches so s x n (Foreign w) r = by_reaches so x n (is_in w s.noticed) r
  at_reaches so s x n NoObject r = by_reaches so x n (is_in (host_at K s.number s.known n) s.noticed) r

  severed_reaches : (so : List (Happened N)) (s : Vat N) (x y : Value N) → Reaches K before so x y → Reaches K before so x (severed K s y) ⊎ IsPlain (severed K s y)
  unfolding severed
  severed_reaches so s x (Ref n) r = at_reaches so s x n (K.spot n) r
  severed_reaches so s x other r = inl r

  pub told_follows : (t : Vat N) → Told K before t → FollowsTold K before t
  unfolding follow
  told_follows t h x = severed_reaches t.happened t x (follow_at K (suc (length t.known)) t.known x) (follow_reaches t.happened t.known h (suc (length t.known)) x)

  ends_follow : {A : Type 0} (s : Vat N) (d : Done N A) → Ends K before d → After (λ s t. FollowsTold K before t) s d
  ends_follow s (Gives a t) h = told_follows t h
  ends_follow s (Throws p t) h = told_follows t h
  ends_follow s (Ejects n v t) h = told_follows t h
  ends_follow s (Stops c t) h = told_follows t h

module _ {N W : Type 0} (K : Naming N W) where
  ends_known : {A : Type 0} (s : Vat N) (d : Done N A) → After (λ r t. FollowsTold K s.known t) s d → After (λ s t. FollowsTold K s.known t) s d
  ends_known s (Gives a t) h = h
  ends_known s other h = h

  pub steps_follow : StepsFollow K
  steps_follow step s = ends_known s (does K step s) (ends_follow K s.known s (does K step s) ((step_traces K s.known step).after s (λ n. at_first K s.known s.happened (standing_of K s.known n) n refl)))
