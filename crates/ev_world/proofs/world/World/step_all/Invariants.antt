-- So many entries were gone through, and the others are left.
use Rattle.std.proofs.Common.{◌≡◌, length, map, zero}
use Rattle.def_run.specs.Numbers.{Runs, Vats, begins, open_from}
use Rattle.def_run.specs.World.{Script}
use Rattle.def_run.specs.Steady.{RunsSteadily}
use Rattle.law_schedule.specs.Scripts.{machine_entry}
use Rattle.ev_world.specs.Standing.{AreReady, Comes, IsWorld}
use Rattle.ev_world.proofs.Loops.{SteppedBy}
use Rattle.ev_world.proofs.world.World.step_all.Given as goal

abbrev pub invariant-loop-index : goal.invariant-loop-index
invariant-loop-index l = ((S : Script) (w : Vats) → length S.vats ≡ l.vats → S.schedule ≡ map machine_entry l.schedule → RunsSteadily S → open_from S zero S.vats (begins S) ≡ Runs w → IsWorld S w l.fn.self
    → SteppedBy S w (Comes (λ (y : Vats). IsWorld S y l.self)) l.index)
    × ((AreReady l.self.residents.items) × (l.self.wire ≡ l.fn.self.wire))
