-- That the lines of a vat tell of each name one settling at most, and that it stands.
use Rattle.std.specs.Prelude.{◌≡◌, ℕ, Some, slice_get}
use Rattle.def_machine.specs.Values.{Value, Name}
use Rattle.def_machine.specs.State.{Settled, Settles, Vat}
use Rattle.def_machine.specs.Refs.{standing_of}
use Rattle.def_run.specs.World.{Script, Here, World, Goes, names, run}
use Rattle.law_uses.specs.Connectivity.Known.{IsAmong}
use Rattle.law_uses.specs.Connectivity.Begotten.{InEachRun}

-- to what a line of vat v says that a name settled, it is settled at the vat
abbrev pub SettlingsStand : Script → World → Type 0
SettlingsStand script w = (v : ℕ) (s : Vat Name) → slice_get w.vats v ≡ Some s → (n : Name) (y : Value Name) → IsAmong (Here v (Settles n y)) w.history → standing_of (names script v) s.known n ≡ Settled y

-- in the world after any of the opening turns, after all of them and any entries, and at the end
abbrev pub SettlingsStandInRuns : Type 0
SettlingsStandInRuns = InEachRun SettlingsStand × ((script : Script) (w : World) → run script ≡ Goes w → SettlingsStand script w)
