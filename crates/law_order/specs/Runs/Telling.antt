-- What a note that tells where a name settled tells of its sender, in every world of a run.
use Rattle.std.specs.Prelude.{◌≡◌, ℕ, Some, slice_get}
use Rattle.def_machine.specs.Values.{Value, Ref, Name, host_of}
use Rattle.def_machine.specs.State.{Elsewhere, Settled, SettledTo, Passed, Vat}
use Rattle.def_machine.specs.Refs.{standing_of}
use Rattle.def_run.specs.World.{Link, link_at, names}
use Rattle.law_fate.specs.Name.Names.{IsAmong}
use Rattle.law_order.specs.Ordering.Worlds.{IsObject}
use Rattle.law_order.specs.Runs.Beginnings.{InRuns}

-- Where a note under way from vat u tells that a name settled to an object of vat c, the name settled so at u.
abbrev pub ElsewhereIsTrue : Type 0
ElsewhereIsTrue = InRuns (λ script w. (u v : ℕ) (l : Link) (n : Name) (c : ℕ) → link_at u v w.links ≡ Some l → IsAmong (Elsewhere n c) l.notes
    → (s : Vat Name) × (slice_get w.vats u ≡ Some s) × (o : Name) × (standing_of (names script u) s.known n ≡ Settled (Ref o)) × IsObject o × (host_of o ≡ c))

-- And where it tells what a name settled to, the name settled at u.
abbrev pub ToldNamesSettled : Type 0
ToldNamesSettled = InRuns (λ script w. (u v : ℕ) (l : Link) (n : Name) (y : Passed Name) → link_at u v w.links ≡ Some l → IsAmong (SettledTo n y) l.notes
    → (s : Vat Name) × (slice_get w.vats u ≡ Some s) × (z : Value Name) × (standing_of (names script u) s.known n ≡ Settled z))
