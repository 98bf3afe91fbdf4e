-- What a vat exported to another has one position each, in every world of every run.
use Rattle.std.specs.Prelude.{◌≡◌, ℕ, zero, List, true, false, Option, Some, None, slice_get, ◌==◌, ◌&&◌}
use Rattle.def_machine.specs.Values.{Name, Root, Object, Promise, Answer, Gift, Sent, same_name, host_of, Foreign, spot_of}
use Rattle.def_run.specs.World.{Script, Program, World, Goes, Entry, Link, begins, open_from, steps_from}
use Rattle.law_reference.specs.Reference.Logs.{exports}
use Rattle.law_fate.specs.Name.Names.{AllOf, Once}

-- It holds of the world after any of the opening turns of any script, and after all of them and any entries.
abbrev pub InAllRuns : (World → Type 0) → Type 0
InAllRuns P = (script : Script)
    → ((ps : List Program) (w : World) → open_from script zero ps (begins script) ≡ Goes w → P w)
    × ((w x : World) (es : List Entry) (k : ℕ) → open_from script zero script.vats (begins script) ≡ Goes w → steps_from script es k w ≡ Goes x → P x)

-- The names that a vat exported to another, in the order of their positions, differ pairwise, and the exporter is the host of each.
abbrev pub PositionsAreOfOneName : Type 0
PositionsAreOfOneName = (word : ℕ → ℕ) → InAllRuns (λ w. (v u : ℕ) → Once (exports word w.links v u) × AllOf (λ n. host_of n ≡ v) (exports word w.links v u))

-- the number of an object
unfoldable pub object_of : Option Name → Option ℕ
object_of (Some (Object w i)) = Some i
object_of (Some (Root w)) = None
object_of (Some (Promise w i)) = None
object_of (Some (Answer w m)) = None
object_of (Some (Gift w i)) = None
object_of (Some (Sent m)) = None
object_of None = None

-- What the table of vat v has for a position among the exports of host h to it: the number of the object there, if it is one. A vat exports nothing to itself.
unfoldable pub exported_at : List Link → ℕ → ℕ → ℕ → Option ℕ
exported_at ls v h p = elim (v == h) [ true ↦ None | false ↦ object_of (slice_get (exports (λ i. i) ls h v) p) ]

-- Each object that a vat has a position for is one of another vat, and no two positions are of one object: the premises of the naming theorem on exports.
abbrev pub ExportsAreDistinct : Type 0
ExportsAreDistinct = InAllRuns (λ w. (v : ℕ)
    → ((h p j : ℕ) → exported_at w.links v h p ≡ Some j → spot_of v (Object h j) ≡ Foreign h)
    × ((h p g q i j : ℕ) → exported_at w.links v h p ≡ Some i → exported_at w.links v g q ≡ Some j → same_name (Object h i) (Object g j) ≡ ((h == g) && (p == q))))

-- opens the definitions of this file
unfoldable pub opened_exports : Unit {0}
unfolding object_of exported_at
opened_exports = tt
