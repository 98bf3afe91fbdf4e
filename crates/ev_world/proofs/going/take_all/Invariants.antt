-- So many entries were gone through, what they told is written, and the others are left.
use Rattle.std.proofs.Common.{◌≡◌, ◌≤◌, ℕ, List, length, map, zero}
use Rattle.std.specs.declared.option.Option.{Option}
use Rattle.def_run.specs.Numbers.{Runs, Vats, begins, open_from}
use Rattle.def_run.specs.World.{Script}
use Rattle.def_run.specs.Steady.{RunsSteadily}
use Rattle.law_schedule.specs.Scripts.{machine_entry}
use Rattle.def_run.specs.Text.{vat_names}
use Rattle.ev_world.specs.Standing.{AreReady, Comes}
use Rattle.ev_world.specs.Writing.{IsWritten}
use Rattle.ev_world.proofs.Loops.{SteppedBy}
use Rattle.ev_world.proofs.going.take_all.Given as goal

abbrev pub invariant-loop-index : goal.invariant-loop-index
invariant-loop-index g l = ((S : Script) (w : Vats) (held : Option (List ℕ)) → length S.vats ≡ l.vats → S.schedule ≡ map machine_entry l.schedule → RunsSteadily S → open_from S zero S.vats (begins S) ≡ Runs w
    → IsWritten S (vat_names S) l.fn.world.wire held (g.K.Sink.written l.fn.out) w l.fn.world
    → SteppedBy S w (Comes (λ (y : Vats). IsWritten S (vat_names S) l.fn.world.wire held (g.K.Sink.written l.out) y l.world)) l.index)
    × (AreReady l.world.residents.items) × (l.world.wire ≡ l.fn.world.wire) × (g.K.Sink.faults l.fn.out ≤ g.K.Sink.faults l.out)
