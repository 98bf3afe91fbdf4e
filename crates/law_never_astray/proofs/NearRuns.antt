-- In the runs of accepted programs what each vat is to take is on data or on an object of its own.
use Rattle.std.proofs.Common.{◌≡◌, ℕ, zero, suc, List, [], ◌∷◌, ◌++◌, refl, sym, subst, length, ◌+◌, arith, append-nil}
use Rattle.def_run.specs.World as world
use Rattle.def_run.specs.World.{Script, Entry, World, Goes}
use Rattle.law_fate.specs.Name.Runs.{KnowsOnce}
use Rattle.law_never_astray.specs.CoveredRuns.{IsAccepted}
use Rattle.law_never_astray.specs.Near.{TargetsAreNearInRuns}
use Rattle.law_never_astray.proofs.Steps.{Lasts, entry_lasts}
use Rattle.law_never_astray.proofs.Final.{begun, opens_held, facts, steps_append, end_length, then_held, goes_is}

module _ (script : Script) (once : KnowsOnce script) (accepted : IsAccepted script) (w0 : World) (opened : world.open_from script zero script.vats (world.begins script) ≡ Goes w0) (k0 : ℕ) where
  lasting : (es front : List Entry) (k : ℕ) (w x : World) → k ≡ k0 + length front → world.steps_from script front k0 w0 ≡ Goes w → Lasts script accepted w → world.steps_from script es k w ≡ Goes x → Lasts script accepted x
  unfolding world.steps_from
  lasting [] front k w x m e h g = subst (Lasts script accepted) (goes_is w x g) h
  lasting (entry ∷ es) front k w x m e h g = then_held (Lasts script accepted) (world.step script entry k w) (world.steps_from script es (suc k)) x
      (λ z a b. lasting es (front ++ entry ∷ []) (suc k) z x (let l = end_length entry front in omega arith) (steps_append script once accepted w0 opened front k0 w0 w z entry k m e a) (entry_lasts script accepted w (facts script once accepted w0 opened front k0 w e) h entry k z a) b) g

pub targets_are_near_in_runs : TargetsAreNearInRuns
unfolding world.steps_from world.open_from
targets_are_near_in_runs script once accepted = let begins = begun script once accepted in (
  λ ps rest w i e. (opens_held script once accepted ps [] rest (world.begins script) w i refl begins e).lasts.near,
  λ w x es k e g. (lasting script once accepted w e k es [] k w x (omega arith) refl (opens_held script once accepted script.vats [] [] (world.begins script) w (sym (append-nil script.vats)) refl begins e).lasts g).near,
)
