-- How a step of a vat begins and ends: its world, and the world in the middle of the step.
use Rattle.std.proofs.Common.{◌≡◌, ℕ, zero, suc, Bool, List, [], ◌∷◌, ◌++◌, Some, refl, sym, ap, subst, ◌∙◌, inl}
use Rattle.std.proofs.lemmas.List.{append-nil}
use Rattle.std.specs.Prelude.{slice_get}
use Rattle.def_machine.specs.Values.{Value, Name, Ref}
use Rattle.def_machine.specs.State.{Vat}
use Rattle.def_machine.specs.Refs.{entry_of}
use Rattle.def_run.specs.World as world
use Rattle.def_run.specs.World.{Script, Event, World, names, put_at, readied, connections_after, events_of}
use Rattle.law_order.specs.Ordering.Ways.{Lane, Queue, Held, Way, Mid, Ways, Ahead}
use Rattle.law_order.specs.Ordering.Changes.{Grows}
use Rattle.law_order.specs.Ordering.Worlds.{SameWays}
use Rattle.law_order.specs.Ordering.Places.{queued, held_in, leads, stands_at, ways_of, ways, amid}
use Rattle.law_order.proofs.Ordering.Adding.{refers_same}
use Rattle.law_order.proofs.Ordering.Adds.{alike_same}
use Rattle.law_order.proofs.Ordering.Amid.{leads_same, beginning_changes_no_way}
use Rattle.law_order.proofs.Ordering.Changes.{growing_keeps}
use Rattle.law_order.proofs.Ordering.Pushing.{all_same}
use Rattle.law_order.specs.History.Lines.{AllQuiet}
use Rattle.law_order.specs.History.Tells.{SmallStep, Tale, over, then_on}
use Rattle.law_order.proofs.History.Same.{same_step}
use Rattle.law_order.specs.Tales.Middle.{middle, BeginningIsSmall, EndingIsSmall}
use Rattle.law_order.specs.Tales.Resting.{Rests}
use Rattle.law_order.proofs.Tales.Middle.{at_vat}
use Rattle.law_order.proofs.Tales.Resting.{resting}
use Rattle.law_order.proofs.Tales.Still.{IsStill, rests_by}

pub same_grow : (w u : Ways) → SameWays w u → Grows w u
same_grow w u h = record { stands = λ l i j. (h.0 l).0 i j; onward = λ l o. inl (h.1 l o) }

-- the vat that is found is in its place
in_place : (v : ℕ) (s : Vat Name) (vs : List (Vat Name)) → slice_get vs v ≡ Some s → put_at v s vs ≡ vs
unfolding put_at
in_place v s [] e = refl
in_place zero s (r ∷ vs) e = let same : r ≡ s = cc in ap (λ q. q ∷ vs) (sym same)
in_place (suc v) s (r ∷ vs) e = ap (λ qs. r ∷ qs) (in_place v s vs e)

-- ---- as it begins

module _ (script : Script) (honest : ℕ → Bool) (w : World) (v : ℕ) (head : List Event) (s : Vat Name) (there : slice_get w.vats v ≡ Some s) where
  abbrev Start : Vat Name
  Start = readied w s

  abbrev Y : World
  Y = middle w v head Start

  pub leads_begin : (u : ℕ) (x : Value Name) → leads script honest Y.vats Y.links u x ≡ leads script honest w.vats w.links u x
  unfolding readied world.push_all
  leads_begin u x = leads_same script honest w.vats w.links w.links (all_same w.links) v s Start (refers_same script honest v s Start (alike_same (names script v) s Start refl refl refl refl)) u x
      ∙ ap (λ vs. leads script honest vs w.links u x) (in_place v s w.vats there)

  begins : Grows (ways script honest w) (ways script honest Y)
  unfolding ways amid
  begins = same_grow (ways script honest w) (ways script honest (amid v Start w)) (beginning_changes_no_way script honest w v s there)

  -- what stands there stands there
  stand_same : (l : Lane) → (ways script honest Y).stands l ≡ (ways script honest w).stands l
  unfolding ways ways_of stands_at readied world.push_all
  stand_same (Queue u) = at_vat (λ r. queued r.queue) [] v u s Start w.vats (λ e. refl) ∙ ap (λ vs. stands_at script honest vs w.links (Queue u)) (in_place v s w.vats there)
  stand_same (Held u n) = at_vat (λ r. held_in n (entry_of (names script u) r.known n)) [] v u s Start w.vats (λ e. refl) ∙ ap (λ vs. stands_at script honest vs w.links (Held u n)) (in_place v s w.vats there)
  stand_same (Way a b) = refl

  pub begin_still : AllQuiet head → IsStill script honest w Y
  unfolding readied world.push_all events_of
  begin_still quiet = record {
    told = head;
    lines = append-nil (w.history ++ head);
    quiet = quiet;
    stands = stand_same;
    brought = λ u x front d n ys b. record { before = front; brings = record { link = b.link; found = b.found; verb = b.verb; rest = b.rest; notes = b.notes }; behind = refl };
  }

  begin_rests : AllQuiet head → Rests script honest w Y
  begin_rests quiet = rests_by script honest w Y (begin_still quiet)
      (λ u n. inl (leads_begin u (Ref n)))
      (λ u n a i. subst (λ c. Ahead (ways script honest Y) a c) (sym (leads_begin u (Ref n))) ((growing_keeps (ways script honest w) (ways script honest Y) begins (leads script honest w.vats w.links u (Ref n))).1 a i))
      (λ l b n a i. (growing_keeps (ways script honest w) (ways script honest Y) begins (Mid l b n)).1 a i)

  pub begin_small : AllQuiet head → SmallStep script honest w Y
  begin_small quiet = resting script honest w Y (begin_rests quiet)

-- ---- as it ends

-- the world in which it ended
abbrev pub ended : World → ℕ → List Event → Vat Name → World
ended w v head t = record {
  fuel = t.fuel;
  drawn = t.drawn;
  vats = put_at v t w.vats;
  links = world.push_all v t.outbox w.links;
  connections = connections_after v t head w.connections;
  history = w.history ++ head ++ events_of w.links v t.happened;
}

pub end_still : (script : Script) (honest : ℕ → Bool) (w : World) (v : ℕ) (head : List Event) (t : Vat Name) → IsStill script honest (middle w v head t) (ended w v head t)
unfolding ways
end_still script honest w v head t = record {
  told = [];
  lines = sym (append-nil (w.history ++ head ++ events_of w.links v t.happened));
  quiet = tt;
  stands = λ l. refl;
  brought = λ u x front d n ys b. record { before = front; brings = record { link = b.link; found = b.found; verb = b.verb; rest = b.rest; notes = b.notes }; behind = refl };
}

pub end_small : (script : Script) (honest : ℕ → Bool) (w : World) (v : ℕ) (head : List Event) (t : Vat Name) → SmallStep script honest (middle w v head t) (ended w v head t)
end_small script honest w v head t = let x = middle w v head t in let y = ended w v head t in
    subst (λ es. SmallStep script honest x (record { fuel = y.fuel; drawn = y.drawn; vats = y.vats; links = y.links; connections = y.connections; history = es })) (append-nil x.history) (same_step script honest x y.fuel y.drawn y.connections [] tt)

pub tale_both : (script : Script) (honest : ℕ → Bool) (x y z : World) → Tale script honest x y → Tale script honest y z → Tale script honest x z
tale_both script honest x y z over h = h
tale_both script honest x y z (then_on {y = u} s t) h = then_on {y = u} s (tale_both script honest u y z t h)

pub beginning_is_small : BeginningIsSmall
beginning_is_small script honest w v head s there quiet = begin_small script honest w v head s there quiet

pub ending_is_small : EndingIsSmall
ending_is_small script honest w v head t = end_small script honest w v head t
