-- What a vat exported comes to stand in the tables of its peers.
use Rattle.std.specs.Prelude.{◌≡◌, ◌≤◌, ◌<◌, ℕ, zero, List, [], ◌∷◌, Some, drop, get_or, length, map, slice_get}
use Rattle.ev_base.specs.declared.values.Value.{Value}
use Rattle.ev_base.specs.declared.values.Value.TheVariants as held
use Rattle.ev_resident.specs.declared.Member.{Member}
use Rattle.ev_resident.specs.Names.{Named}
use Rattle.ev_resident.specs.declared.resident.Resident.{Resident}
use Rattle.ev_step_lines.specs.Lines.{with_import}
use Rattle.ev_wire.specs.Putting.{table_for}

-- the number of an object, and 0 of what is none
unfoldable pub object_of : Value → ℕ
object_of (held.Obj i) = i
object_of v = zero

-- the numbers of what a member exported to that peer, in order
abbrev pub objects_for : ℕ → Member → List ℕ
objects_for peer c = map object_of (table_for peer c.connections.items).exports

-- how much it exported to that peer
abbrev pub exports_for : ℕ → Member → ℕ
exports_for peer c = length (table_for peer c.connections.items).exports

-- these objects of vat h come to stand at the next positions, one after the other
unfoldable pub with_imports : ℕ → List ℕ → Named → Named
with_imports h [] n = n
with_imports h (o ∷ os) n = with_imports h os (record n { naming = with_import h o n.naming })

-- a resident at place p, once that member of number u has told it what it exported since it had exported so much to each
abbrev pub told_by : ℕ → Member → List ℕ → ℕ → Resident → Resident
told_by u c before p r = record r { names = with_imports u (drop (get_or before p zero) (objects_for p c)) r.names }

-- Those at the first places were told, and the others not yet.
pub record AreTold (u : ℕ) (c : Member) (before : List ℕ) (places : ℕ) (rs qs : List Resident) : Type 0 where
  pub same : length qs ≡ length rs
  pub told : (p : ℕ) (r : Resident) → slice_get rs p ≡ Some r → p < places → slice_get qs p ≡ Some (told_by u c before p r)
  pub left : (p : ℕ) (r : Resident) → slice_get rs p ≡ Some r → places ≤ p → slice_get qs p ≡ Some r

-- How much that member exported to each of so many.
pub record AreCounted (c : Member) (count : ℕ) (ks : List ℕ) : Type 0 where
  pub long : length ks ≡ count
  pub each : (h : ℕ) → h < count → get_or ks h zero ≡ exports_for h c
