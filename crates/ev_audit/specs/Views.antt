-- What an auditor may know of an object, as the machine has it.
use Rattle.std.specs.Prelude.{ℕ, Bool, true, false, if◌then◌else◌, List, [], ◌∷◌, map, option_map, Some, None, codes}
use Rattle.std.specs.declared.option.Option.{Option}
use Rattle.std.specs.Str.{bytes_eq}
use Rattle.ev_base.specs.declared.values.Value.{Value as HeldValue}
use Rattle.ev_base.specs.declared.values.Value.TheVariants as held
use Rattle.ev_heap.specs.declared.kept.AuditView.{AuditView}
use Rattle.ev_heap.specs.declared.kept.Bound.{Bound}
use Rattle.ev_heap.specs.declared.kept.Bound.TheVariants.{Safe, Itself, Final, Mutable}
use Rattle.ev_heap.specs.declared.kept.Capture.{Capture}
use Rattle.ev_heap.specs.declared.kept.Capture.TheVariants as capture
use Rattle.ev_heap.specs.declared.kept.FreeName.{FreeName as Held}
use Rattle.ev_heap.specs.declared.kept.GuardKind.{GuardKind}
use Rattle.ev_heap.specs.declared.kept.GuardKind.TheVariants.{Native, User}
use Rattle.def_machine.specs.Native.{Reply, Says, Fails}
use Rattle.def_machine.specs.Scopes as scopes
use Rattle.def_machine.specs.State.{Bound as There, Fixed, Slot, Freedom, IsSafe, IsItself, IsFinal, IsVar, FreeName, View}
use Rattle.def_machine.specs.Values.{Words, Value, Null, Prim, Ref, Local, Obj}
use Rattle.ev_prims.specs.Primitives.{rule_in}
use Rattle.ev_prims.specs.Reading.{value_by}
use Rattle.ev_prims.specs.declared.primitives.Rule.{Rule}

-- a guard, as a value
abbrev pub guard_of : GuardKind → Value Local
guard_of (Native n) = Prim n
guard_of (User i) = Ref (Obj i)

abbrev pub freedom_of : Bound → Freedom Local
freedom_of Safe = IsSafe
freedom_of Itself = IsItself
freedom_of (Final g) = IsFinal (guard_of g)
freedom_of Mutable = IsVar

abbrev pub free_name : Held → FreeName Local
free_name f = record { noun = f.noun; freedom = freedom_of f.bound }

abbrev pub free_names : List Held → List (FreeName Local)
free_names fs = map free_name fs

abbrev pub view_of : AuditView → View Local
view_of v = record { node = v.node; free = free_names v.names }

-- what a name is bound to, where each text has its number
abbrev pub capture_by : (ℕ → Words) → Capture → There Local
capture_by t (capture.Fixed v g) = Fixed (value_by t v) (guard_of g)
capture_by t (capture.Slot k) = Slot k

-- how a name is bound that is not the object's own, and how any is, by the object's own name and what its scope binds it to
abbrev pub bound_so : Option Capture → Bound
bound_so None = Safe
bound_so (Some (capture.Fixed v g)) = Final g
bound_so (Some (capture.Slot k)) = Mutable

abbrev pub bound_by : Option Words → Words → Option Capture → Bound
bound_by own x found = if scopes.is_own own x then Itself else bound_so found

abbrev pub free_held : Option Words → Words → Option Capture → Held
free_held own x found = record { noun = x; bound = bound_by own x found }

-- what an auditor knows of a name, by the object's own name and what its scope binds the name to
abbrev pub freedom_by : Option Words → Words → Option (There Local) → Freedom Local
freedom_by own x bound = if scopes.is_own own x then IsItself else scopes.freedom_of_bound bound x

-- each free name is as a rule wants it
unfoldable pub all_fit : Rule → List Held → Bool
all_fit r [] = true
all_fit r (f ∷ fs) = if scopes.fits (rule_in r) (free_name f) then all_fit r fs else false

-- how a free name is bound
unfoldable pub bound_at : List Held → Words → Option Bound
bound_at [] x = None
bound_at (f ∷ fs) x = if bytes_eq x f.noun then Some f.bound else bound_at fs x

-- what an audition answers for the guard of a name that is bound so, or is not free
abbrev pub told_of : Option Bound → Reply Local
told_of None = Fails (codes "not free")
told_of (Some b) = Says (scopes.guard_told (freedom_of b))

-- a guard that was told, or none
abbrev pub told_by : (ℕ → Words) → Option HeldValue → Reply Local
told_by t None = Fails (codes "not free")
told_by t (Some v) = Says (value_by t v)

-- a guard as a value that is held
abbrev pub guard_held : GuardKind → HeldValue
guard_held (Native n) = held.Prim n
guard_held (User i) = held.Obj i

-- the guard that is told of a name that is bound so
abbrev pub bound_told : Bound → HeldValue
bound_told Safe = held.Prim 8
bound_told Itself = held.Prim 8
bound_told (Final g) = guard_held g
bound_told Mutable = held.Null

-- the guard that is told of a free name, if it is one
abbrev pub told_at : List Held → Words → Option HeldValue
told_at fs x = option_map bound_told (bound_at fs x)
