-- Each vat goes through a run that stops in its own numbers.
use Rattle.std.proofs.Common.{◌≡◌, ℕ, suc, ◌+◌, List, [], ◌∷◌, refl, ap, subst, ◌∙◌, length, arith}
use Rattle.def_machine.specs.State.{Stop}
use Rattle.def_run.specs.World as world
use Rattle.def_run.specs.World.{Script, Entry, World, Run, Goes as Going, Stopped}
use Rattle.law_reference.specs.Reference.Cuts.{NoticesFollowCuts}
use Rattle.law_reference.proofs.Reference.AskHolds.{notices_front}
use Rattle.law_frame.proofs.Frame.Runs.{runs_stand}
use Rattle.law_frame.specs.Stopping.Stops.{StopsAt, StoppedRunsByNumbers}
use Rattle.law_frame.proofs.Stopping.Entries.{entries_stop}

module _ (script : Script) (c : Stop) (n : ℕ) (y : World) where
  goes_then : (r : Run) (z x : World) (f : World → Run) → r ≡ Going z → f z ≡ Going x → world.then_goes r f ≡ Going x
  unfolding world.then_goes
  goes_then r z x f e g = rw e g

  is_here : (d : Stop) (m : ℕ) (x z : World) (o : Run) → o ≡ Stopped d m x → Stopped d m x ≡ Stopped c n z → o ≡ Stopped c n z
  is_here d m x z o e f = e ∙ f

  stops_or : (e : Entry) (es : List Entry) (k : ℕ) (w : World) (r : Run) → world.step script e k w ≡ r → world.then_goes r (world.steps_from script es (suc k)) ≡ Stopped c n y
      → ((x : World) → world.steps_from script es (suc k) x ≡ Stopped c n y → StopsAt script es (suc k) x c n y) → StopsAt script (e ∷ es) k w c n y
  unfolding world.then_goes world.steps_from
  stops_or e es k w (Stopped d m x) i f g = let j : k + 0 ≡ k = omega arith in record {
    front = [];
    entry = e;
    rest = es;
    before = w;
    split = refl;
    goes = refl;
    stops = ap (λ l. world.step script e l w) j ∙ is_here d m x y (world.step script e k w) i f;
  }
  stops_or e es k w (Going x) i f g = let a = g x f in let j : k + suc (length a.front) ≡ suc k + length a.front = omega arith in record {
    front = e ∷ a.front;
    entry = a.entry;
    rest = a.rest;
    before = a.before;
    split = ap (λ zs. e ∷ zs) a.split;
    goes = goes_then (world.step script e k w) x a.before (world.steps_from script a.front (suc k)) i a.goes;
    stops = ap (λ l. world.step script a.entry l a.before) j ∙ a.stops;
  }

  stops_at : (es : List Entry) (k : ℕ) (w : World) → world.steps_from script es k w ≡ Stopped c n y → StopsAt script es k w c n y
  unfolding world.steps_from
  stops_at [] k w e = cc
  stops_at (e ∷ es) k w f = stops_or e es k w (world.step script e k w) refl f (λ x g. stops_at es (suc k) x g)

pub stopped_runs : StoppedRunsByNumbers
stopped_runs script once w y es k n c follow opened stops =
    let a = stops_at script c n y es k w stops in let front = notices_front script [] a.front (a.entry ∷ a.rest) (subst (λ zs. NoticesFollowCuts zs) a.split follow) in (
      a,
      λ u s r there after q stands. let p = runs_stand script once w a.before a.front k front opened a.goes u s r there after q stands in
          (p.0, p.1, entries_stop script once w a.before y a.front a.entry k n c front opened a.goes a.stops u r after p.0 p.2),
    )
