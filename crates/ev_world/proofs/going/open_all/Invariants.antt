-- So many vats have opened, what they told is written, and the others are left.
use Rattle.std.proofs.Common.{◌≡◌, ◌≤◌, length}
use Rattle.def_run.specs.Numbers.{Vats, begins}
use Rattle.def_run.specs.World.{Script}
use Rattle.def_run.specs.Steady.{RunsSteadily}
use Rattle.def_run.specs.Text.{vat_names}
use Rattle.ev_world.specs.Standing.{AreReady, Comes, IsWorld}
use Rattle.ev_world.specs.Writing.{IsWritten}
use Rattle.ev_world.proofs.Loops.{OpenedBy}
use Rattle.ev_world.proofs.going.open_all.Given as goal

abbrev pub invariant-loop-vat : goal.invariant-loop-vat
invariant-loop-vat g l = ((S : Script) → length S.vats ≡ l.vats → RunsSteadily S → IsWorld S (begins S) l.fn.world
    → OpenedBy S (Comes (λ (w : Vats). IsWritten S (vat_names S) l.fn.world.wire (g.K.Sink.written l.fn.out) (g.K.Sink.written l.out) w l.world)) l.vat)
    × (AreReady l.world.residents.items) × (l.world.wire ≡ l.fn.world.wire) × (g.K.Sink.faults l.fn.out ≤ g.K.Sink.faults l.out)
