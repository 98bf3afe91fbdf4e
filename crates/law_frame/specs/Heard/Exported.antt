-- What a vat has of its exports to another is what it ever exported to it.
use Rattle.std.specs.Prelude.{◌≡◌, ℕ, Some, slice_get}
use Rattle.def_machine.specs.Values.{Name}
use Rattle.def_machine.specs.State.{Vat}
use Rattle.def_run.specs.Wire.{connected_at}
use Rattle.def_run.specs.World.{World}
use Rattle.law_reference.specs.Reference.ApartAsking.{InRunsBehindCuts}
use Rattle.law_reference.specs.Reference.Logs as logs

-- of any two vats, be the link between them cut or not: a note that is put on a cut link exports, as it would have if it were to arrive
abbrev pub ExportsLogged : World → Type 0
ExportsLogged w = (v u : ℕ) (r s : Vat Name) → slice_get w.vats v ≡ Some r → slice_get w.vats u ≡ Some s → (v ≡ u → ⊥) → (connected_at v u w.connections).tables.exports ≡ logs.exports (λ i. i) w.links v u

-- So in each world of a run in which each notice stands behind a cut of the same two vats.
abbrev pub ExportsAreAsLogged : Type 0
ExportsAreAsLogged = InRunsBehindCuts ExportsLogged
