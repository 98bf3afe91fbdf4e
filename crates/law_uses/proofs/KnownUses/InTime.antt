-- Each line of a run is connected by what was there when it was told.
use Rattle.std.proofs.Common.{◌≡◌, ℕ, false, List, [], ◌∷◌, ◌++◌, sym, ap, subst, append_assoc, append-nil}
use Rattle.def_machine.specs.Values.{Name}
use Rattle.def_machine.specs.State.{Happened, Vat, Done, Gives}
use Rattle.law_machine.specs.Machine.Steps.{does, After}
use Rattle.def_run.specs.World.{Script, Event, World, names, readied}
use Rattle.law_uses.specs.Connectivity.Known.{Holdings}
use Rattle.law_uses.specs.Connectivity.Connected.{held_from}
use Rattle.law_uses.specs.Connectivity.InTime.{InTime, AllInTime}
use Rattle.law_uses.specs.Connectivity.Liveness.{live_at}
use Rattle.law_uses.specs.Connectivity.Runs.{NothingLive}
use Rattle.law_uses.proofs.Connectivity.FineSteps.{named_in_time}
use Rattle.law_uses.proofs.Connectivity.RunDies.{opened_still, run_still}
use Rattle.law_uses.specs.KnownUses.Told.{IsPassed, first_of}
use Rattle.law_uses.proofs.KnownUses.Stood.{in_run, is_run, Stood}

after_gives : (P : Vat Name → Vat Name → Type 0) (r t : Vat Name) (d : Done Name (Unit {0})) → After P r d → d ≡ Gives tt t → P r t
after_gives P r t (Gives u x) h q = let same : x ≡ t = cc in subst (P r) same h
after_gives P r t other h q = cc

still_at : (script : Script) (w : World) → IsPassed script w → NothingLive w
still_at script w r = in_run (λ s x. NothingLive x) (λ s. (λ ps rest x e i. opened_still s ps x i, λ y x es k e i. run_still s y x es k e i)) script w r

module _ (script : Script) (v : ℕ) (e : Happened Name) (h : List Event) (s : Stood script v e h) where
  abbrev pub first : Holdings Name Name
  first = first_of s.line

  in_time_from : (f : Happened Name) (so more rest : List (Happened Name)) → AllInTime (names script v) first so (more ++ f ∷ rest) → InTime (names script v) first (so ++ more) f
  in_time_from f so [] rest c = subst (λ xs. InTime (names script v) first xs f) (sym (append-nil so)) c.0
  in_time_from f so (x ∷ more) rest c = subst (λ xs. InTime (names script v) first xs f) (append_assoc so (x ∷ []) more) (in_time_from f (so ++ x ∷ []) more rest c.1)

  pub began : s.line.before.happened ≡ []
  unfolding readied
  began = ap (λ (z : Vat Name). z.happened) s.line.ready

  still : (i : ℕ) → live_at s.line.before.things i ≡ false
  unfolding readied
  still = subst (λ (z : Vat Name). (i : ℕ) → live_at z.things i ≡ false) (sym s.line.ready) (still_at script s.line.from (is_run script s.line.from s.begun) v s.line.vat s.line.here)

  step_in_time : AllInTime (names script v) first [] s.line.after.happened
  unfolding names held_from
  step_in_time = after_gives (λ r t. AllInTime (names script v) (held_from s.line.step r r) [] t.happened) s.line.before s.line.after (does (names script v) s.line.step s.line.before) (named_in_time _ v s.line.step s.line.before began still) s.line.stepped

  -- each line of its step is connected by what was there when it was told
  pub each_in_time : (so rest : List (Happened Name)) (f : Happened Name) → s.line.after.happened ≡ so ++ f ∷ rest → InTime (names script v) first so f
  each_in_time so rest f q = in_time_from f [] so rest (subst (AllInTime (names script v) first []) q step_in_time)

  pub line_in_time : InTime (names script v) first s.line.so e
  line_in_time = each_in_time s.line.so s.line.rest e s.line.told
