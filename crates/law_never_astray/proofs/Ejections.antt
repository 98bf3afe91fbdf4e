-- No turn is left by an ejector.
use Rattle.std.proofs.Common.{◌≡◌, ℕ, zero, suc, true, false, List, [], ◌∷◌, Some, sym, ap, ◌∙◌}
use Rattle.std.specs.Prelude.{slice_get}
use Rattle.def_machine.specs.Values.{Naming, naming, numbering}
use Rattle.def_machine.specs.State.{Thing, Ejector, Done, Ejects, Stops}
use Rattle.def_run.specs.World.{Script, World, names, readied}
use Rattle.law_fate.proofs.Name.SameNames.{false_true}
use Rattle.law_uses.specs.Connectivity.Liveness.{is_live, live_at}
use Rattle.law_uses.specs.Connectivity.Runs.{NothingLive}
use Rattle.law_uses.proofs.Connectivity.RunDies.{opened_still, run_still}
use Rattle.law_never_astray.specs.Ejections.{NoneIsLive, IsAwaited, EndsAwaited, EjectionsAreAwaited, EndsAwaitedIn, EjectionsAreAwaitedInRuns}
use Rattle.law_never_astray.proofs.Awaits as awaits
use Rattle.law_never_astray.proofs.AwaitsEval.{await_turn_value, good_evaluator}

awaited : {N A : Type 0} (d : Done N A) → awaits.EndsAwaited [] d → IsAwaited d
awaited (Ejects n v t) h = absurd h.1
awaited (Stops c t) h = tt
awaited other h = h

ends_awaited : {N W : Type 0} (K : Naming N W) → EndsAwaited K
ends_awaited K tree depth s h = let good = good_evaluator K tree depth in (
  λ id here. awaited _ ((good.expression [] id here).after s h),
  λ act target verb args. awaited _ ((await_turn_value K tree [] _ good act target verb args).after s h),
)

pub ejections_awaited : EjectionsAreAwaited
ejections_awaited = (λ word v. ends_awaited (naming word v), λ word. ends_awaited (numbering word))

-- ---- in runs

live_is : {N : Type 0} (ts : List (Thing N)) (i : ℕ) → slice_get ts i ≡ Some (Ejector true) → live_at ts i ≡ true
unfolding live_at is_live
live_is [] i e = cc
live_is (t ∷ ts) zero e = let same : t ≡ Ejector true = cc in ap is_live same
live_is (t ∷ ts) (suc i) e = live_is ts i e

pub none_live : {N : Type 0} (ts : List (Thing N)) → ((i : ℕ) → live_at ts i ≡ false) → NoneIsLive ts
none_live ts h i e = false_true (sym (h i) ∙ live_is ts i e)

in_world : (script : Script) (w : World) → NothingLive w → EndsAwaitedIn script w
unfolding readied
in_world script w h v s e tree depth = ends_awaited (names script v) tree depth (readied w s) (none_live s.things (h v s e))

pub ejections_awaited_in_runs : EjectionsAreAwaitedInRuns
ejections_awaited_in_runs script = (λ ps rest w e i. in_world script w (opened_still script ps w i), λ w x es k e i. in_world script x (run_still script w x es k e i))
