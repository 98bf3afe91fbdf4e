-- So many vats have opened, and the others are left.
use Rattle.std.proofs.Common.{◌≡◌, length}
use Rattle.def_run.specs.Numbers.{Vats, begins}
use Rattle.def_run.specs.World.{Script}
use Rattle.def_run.specs.Steady.{RunsSteadily}
use Rattle.ev_world.specs.Standing.{AreReady, Comes, IsWorld}
use Rattle.ev_world.proofs.Loops.{OpenedBy}
use Rattle.ev_world.proofs.world.World.open_all.Given as goal

abbrev pub invariant-loop-vat : goal.invariant-loop-vat
invariant-loop-vat l = ((S : Script) → length S.vats ≡ l.vats → RunsSteadily S → IsWorld S (begins S) l.fn.self → OpenedBy S (Comes (λ (w : Vats). IsWorld S w l.self)) l.vat)
    × ((AreReady l.self.residents.items) × (l.self.wire ≡ l.fn.self.wire))
