-- A note is carried in a run: where the step comes to, and what is to be shown of its receiver.
use Rattle.std.proofs.Common.{◌≡◌, ℕ, zero, Bool, List, [], ◌∷◌, ◌++◌, Some, ap, ◌∙◌}
use Rattle.std.specs.Prelude.{slice_get}
use Rattle.def_machine.specs.Values.{Name, Naming}
use Rattle.def_machine.specs.State.{Note, Vat, Done, Gives}
use Rattle.def_run.specs.World.{Script, Carry, Entry, Event, World, Goes, begins, open_from, steps_from, step, names, readied}
use Rattle.law_fate.specs.Name.Runs.{KnowsOnce}
use Rattle.law_order.specs.Ordering.Places.{delivered}
use Rattle.law_order.specs.Ordering.Worlds.{FollowsEnd}
use Rattle.law_order.specs.Ordering.Arrivals.{IsSilent}
use Rattle.law_order.proofs.Ordering.Sends.{get_put}
use Rattle.law_order.proofs.Runs.Beginnings.{vats_are_ready}
use Rattle.law_order.proofs.Runs.CarryRuns.{next_step}
use Rattle.law_order.specs.Asks.Asks.{Bears}
use Rattle.law_order.proofs.Asks.Steps as steps

module _ (script : Script) (once : KnowsOnce script) (w x y : World) (es : List Entry) (k a b : ℕ) (m : Note Name) (h : Bears x a b m) (silent : IsSilent m) (bare : (ns : List (Note Name)) → delivered (m ∷ ns) ≡ delivered ns)
    (o : open_from script zero script.vats (begins script) ≡ Goes w) (e : steps_from script es k w ≡ Goes x) (f : steps_from script (es ++ Carry a b ∷ []) k w ≡ Goes y) (honest : ℕ → Bool) where
  abbrev K : Naming Name Name
  K = names script b

  abbrev Arrival : Done Name (Unit {0})
  Arrival = steps.Arrival script honest x a b m h

  -- the next step comes to that state
  next : (j : ℕ) × (step script (Carry a b) j x ≡ Goes y)
  next = next_step script (Carry a b) x y es k w e f

  pub came : (t : Vat Name) × (head : List Event) × (Arrival ≡ Gives tt t) × (y ≡ steps.Then script honest x a b m h head t)
  came = steps.came script honest x a b m h next.0 y next.1

  abbrev T : Vat Name
  T = came.0

  -- the vat ends ready, so it follows all to an end
  pub ended : FollowsEnd K T
  unfolding readied
  ended = let at : slice_get y.vats b ≡ Some T = ap (λ z. slice_get z.vats b) came.3 ∙ get_put x.vats b h.vat T h.there in
      let r = (vats_are_ready script once).1 w y (es ++ Carry a b ∷ []) k o f honest b T T.queue at in record { objects = r.ends.objects; fixed = r.ends.fixed }
