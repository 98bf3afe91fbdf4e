-- The environments of the machine that have what the scopes of a tree have.
use Rattle.std.specs.Prelude.{◌≡◌, ℕ, ◌<◌, Bool, true, false, List, Option, Some, None, length, slice_get}
use Rattle.def_machine.specs.Values.{Words, Value}
use Rattle.def_machine.specs.State.{Bound, Fixed, Slot, Binding, Thing, Made, Ejector, Audition, Resolver, Vat}
use Rattle.def_machine.specs.Native.{safe_value}
use Rattle.def_machine.specs.Scopes.{bound_in, members_of}
use Rattle.def_kernel.specs.declared.node.Node.{Node}
use Rattle.def_kernel.specs.declared.shape.Kind.TheVariants.{Member}
use Rattle.def_kernel.specs.Trees.{Has}
use Rattle.ev_reader.specs.Scopes.{bound}
use Rattle.law_never_astray.specs.Scoped.{Scopes, AllScoped}
use Rattle.law_never_astray.specs.Formed.{AllOf, Formed}

-- What a noun stands for, where there are so many var slots: one of them where it may be assigned, and else a fixed
-- value or one of the safe scope.
abbrev pub Stands : {N : Type 0} → ℕ → Bool → Words → Option (Bound N) → Type 0
Stands slots true x (Some (Slot k)) = k < slots
Stands slots true x (Some (Fixed v g)) = ⊥
Stands slots true x None = ⊥
Stands slots false x (Some (Slot k)) = ⊥
Stands slots false x (Some (Fixed v g)) = Unit {0}
Stands {N} slots false x None = (v : Value N) × (safe_value x ≡ Some v)

-- each noun that the scopes have stands for something
abbrev pub Covers : {N : Type 0} → ℕ → List (Binding N) → Scopes → Type 0
Covers slots nouns s = (x : Words) (is_var : Bool) → bound x s ≡ Some is_var → Stands slots is_var x (bound_in nouns x)

-- An object's captures cover scopes in which its methods and matchers stand, and an audition is of a node of the tree.
abbrev pub ThingCarries : {N : Type 0} → List Node → ℕ → Thing N → Type 0
ThingCarries tree slots (Made node caught stamps) = (s t : Scopes) × Covers slots caught s × AllOf (Formed tree Member) (members_of (slice_get tree node)) × AllScoped tree s (members_of (slice_get tree node)) t
ThingCarries tree slots (Ejector live) = Unit {0}
ThingCarries tree slots (Audition live view) = (x : Node) × Has tree view.node x
ThingCarries tree slots (Resolver p) = Unit {0}

-- so it is of each thing of a vat
abbrev pub Carries : {N : Type 0} → List Node → Vat N → Type 0
Carries tree s = AllOf (ThingCarries tree (length s.slots)) s.things
