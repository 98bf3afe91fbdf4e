-- Of what kinds the entries of an honest vat's table are, and that it exports its own.
use Rattle.std.proofs.Common.{◌≡◌, ℕ, Bool, true, false, List, [], Option, Some, None, refl}
use Rattle.std.specs.Prelude.{slice_get, ◌==◌}
use Rattle.def_machine.specs.Values.{Name, Own, Foreign, Spot, spot_of, host_of}
use Rattle.def_machine.specs.State.{Vat}
use Rattle.def_run.specs.Wire.{connected_at, write_all}
use Rattle.def_run.specs.World as world
use Rattle.def_run.specs.World.{World}
use Rattle.def_hostile.specs.Hostile.{Play}
use Rattle.law_machine.specs.Run.Moves.{went}
use Rattle.law_fate.specs.Name.Names.{AllOf, IsEventual, IsMessageName, names_in}
use Rattle.law_fate.proofs.Name.SameNames.{at_all, eventual_spot, message_is}
use Rattle.law_reference.specs.Reference.Exports.{object_of}
use Rattle.law_hostile_frame.specs.Tables.{had_at, table_in}
use Rattle.law_injected.specs.HostileRuns.{IsHostile}
use Rattle.law_lawful.specs.Lawful.{AnyWord}
use Rattle.law_lawful.proofs.Moved.{alone_fits}
use Rattle.law_lawful.proofs.Reached.{reached_fits, in_scenes}
use Rattle.law_lawful.proofs.Steps.{Fits}
use Rattle.law_hostile_tables.specs.Tables.{IsOfItsKinds, TablesAreOfTheirKinds, OwnStepsLeaveKinds, OwnStepsExportTheirOwn}
use Rattle.law_hostile_tables.proofs.Kept.{stands_so, alone_stands}
use Rattle.law_hostile_tables.proofs.Positions.{exports_own}
use Rattle.law_hostile_tables.proofs.Standing.{Standing}

-- an object that stands at a position of another vat's is of that vat
foreign : (b : Bool) (o : Option ℕ) (h j : ℕ) → ◌≡◌ {A = Option ℕ} (elim b [ true ↦ None | false ↦ o ]) (Some j) → ◌≡◌ {A = Spot} (elim b [ true ↦ Own j | false ↦ Foreign h ]) (Foreign h)
foreign true o h j e = cc
foreign false o h j e = refl

kinds_of : (w : World) (u : ℕ) (s : Vat Name) → Standing u s → IsOfItsKinds u (table_in w u s)
unfolding table_in had_at spot_of
kinds_of w u s h = (
  λ k n e. eventual_spot u n (at_all IsEventual (names_in s.known) k n h.eventual e),
  λ k n e. message_is n (at_all IsMessageName s.mails k n h.mails e),
  λ h p j e. foreign (u == h) (object_of (slice_get (connected_at h u w.connections).tables.exports p)) h j e,
)

pub tables_kinds : TablesAreOfTheirKinds
tables_kinds = in_scenes (λ play w. (u : ℕ) (s : Vat Name) → slice_get w.vats u ≡ Some s → (IsHostile play u → ⊥) → IsOfItsKinds u (table_in w u s))
    (λ play w r u s there honest. kinds_of w u s (stands_so play w r u s there honest))

pub own_kinds : OwnStepsLeaveKinds
own_kinds play w r u s q t what honest alone d = kinds_of w u t (alone_stands play w r u s d.there honest (stands_so play w r u s d.there honest) q t what alone d)

unheard : (cs : List _) → world.heard_by [] cs ≡ cs
unfolding world.heard_by
unheard cs = refl

own_of : (play : Play) (w : World) (u : ℕ) (t : Vat Name) → Fits play AnyWord (went u w [] t) → (v : ℕ) → AllOf (λ n. host_of n ≡ u) (connected_at u v (write_all u t.outbox w.connections)).tables.exports
unfolding went world.connections_after world.heard_by
own_of play w u t f v = exports_own (went u w [] t) u v f.connections

pub own_exported : OwnStepsExportTheirOwn
own_exported play w r u s q t what honest alone d = own_of play w u t (alone_fits play AnyWord w u s t [] d.there (reached_fits play w r) honest unheard q what alone d)
