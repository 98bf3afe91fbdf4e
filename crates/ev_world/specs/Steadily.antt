-- What is asked of one step of a run.
use Rattle.std.specs.Prelude.{◌≡◌, ℕ, zero, Some, slice_get}
use Rattle.def_run.specs.Numbers.{Runs, Vats, given, numbers, open_member, step}
use Rattle.def_run.specs.Vats.{Member}
use Rattle.def_machine.specs.Eval.{opening}
use Rattle.def_machine.specs.Values.{Prom}
use Rattle.def_run.specs.World.{Entry, Program, Script}
use Rattle.def_run.specs.Steady.{ActIsSteady, EntryIsSteady, ShownAlike}

-- the opening turn of vat u, of program p
pub record OpensSteadily (S : Script) (u : ℕ) (p : Program) (w : Vats) : Type 0 where
  pub steady : (m : Member) → slice_get w.members u ≡ Some m → ActIsSteady w m (opening (numbers S) p.tree S.depth (Prom zero) (given S.vats 1 p.knows))
  pub shown : (y : Vats) → open_member S u p w (slice_get w.members u) ≡ Runs y → ShownAlike w.drawn y.drawn w

-- entry k of the schedule
pub record StepsSteadily (S : Script) (e : Entry) (k : ℕ) (w : Vats) : Type 0 where
  pub steady : EntryIsSteady S w e
  pub shown : (y : Vats) → step S e k w ≡ Runs y → ShownAlike w.drawn y.drawn w
