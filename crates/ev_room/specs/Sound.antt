-- What evaluation makes of values, var slots, objects and lists so far.
use Rattle.std.specs.Prelude.{◌≡◌, ℕ, nat_lt, Bool, true, false, if◌then◌else◌, List, [], ◌∷◌, ◌++◌, Some, map, length, slice_get, codes}
use Rattle.ev_base.specs.declared.values.Value.{Value}
use Rattle.ev_base.specs.declared.values.Value.TheVariants as held
use Rattle.ev_heap.specs.Contents.{Contents, listed}
use Rattle.ev_heap.specs.declared.kept.Capture.{Capture}
use Rattle.ev_heap.specs.declared.kept.Capture.TheVariants as capture
use Rattle.ev_heap.specs.declared.kept.Caught.{Caught}
use Rattle.ev_heap.specs.declared.kept.Cell.{Cell}
use Rattle.ev_heap.specs.declared.kept.GuardKind.{GuardKind}
use Rattle.ev_heap.specs.declared.kept.GuardKind.TheVariants.{Native}
use Rattle.ev_heap.specs.declared.kept.Listed.{Listed}
use Rattle.ev_heap.specs.declared.kept.Shape.{Shape}
use Rattle.ev_heap.specs.declared.kept.Shape.TheVariants.{Made, Ejector, Resolver, Audition}
use Rattle.ev_heap.specs.declared.kept.Thing.{Thing}
use Rattle.ev_pass.specs.declared.interior.Interior.{Interior}
use Rattle.ev_room.specs.Holding.{ReferencesOf}
use Rattle.ev_room.specs.declared.object.Object.{Object}
use Rattle.ev_room.specs.declared.scope.Binding.{Binding}
use Rattle.ev_room.specs.declared.scope.Bound.{Bound}
use Rattle.ev_room.specs.declared.scope.Bound.TheVariants.{Fixed, Slot}

-- ---- what is kept

-- the guard of a name that has none
abbrev pub any_guard : ℕ
any_guard = 8

abbrev pub no_guard : GuardKind
no_guard = Native any_guard

-- what an object holds of a name that is bound so
abbrev pub capture_of : Bound → Capture
capture_of (Fixed v g) = capture.Fixed v g
capture_of (Slot k) = capture.Slot k

abbrev pub caught_of : Binding → Caught
caught_of b = record { noun = b.noun; capture = capture_of b.bound }

-- an object with these stamps
abbrev pub object_thing : Object → List Value → Thing
object_thing o stamps = record { shape = Made o.node (map caught_of o.nouns) stamps; alive = true }

-- the problems that evaluation throws, and those of references, the first texts of a heap
abbrev pub problems : List (List ℕ)
problems =
    codes "integer overflow" ∷ codes "not int" ∷ codes "no method" ∷ codes "zero divisor" ∷ codes "negative power" ∷ codes "not char"
    ∷ codes "not boolean" ∷ codes "not String" ∷ codes "not List" ∷ codes "out of range" ∷ codes "bad argument" ∷ codes "not comparable"
    ∷ codes "too heavy" ∷ codes "not a text" ∷ codes "ejector is dead" ∷ codes "no match" ∷ codes "not a list" ∷ codes "not a guard" ∷ codes "not an auditor"
    ∷ codes "audition is dead" ∷ codes "not free" ∷ codes "not any" ∷ codes "not void" ∷ codes "not int" ∷ codes "not boolean" ∷ codes "not char"
    ∷ codes "not String" ∷ codes "not List" ∷ codes "not nullOk" ∷ codes "not near" ∷ codes "not DeepFrozen" ∷ codes "not nullOk:any"
    ∷ codes "not nullOk:void" ∷ codes "not nullOk:int" ∷ codes "not nullOk:boolean" ∷ codes "not nullOk:char" ∷ codes "not nullOk:String"
    ∷ codes "not nullOk:List" ∷ codes "not nullOk:nullOk" ∷ codes "not nullOk:near" ∷ codes "not nullOk:DeepFrozen" ∷ codes "partition" ∷ codes "cycle"
    ∷ codes "not settled" ∷ codes "bad message" ∷ codes "not resolved" ∷ codes "already resolved" ∷ []

-- the numbers of those that are no problems of a native method
abbrev pub no_match_id : ℕ
no_match_id = 15

abbrev pub not_a_list_id : ℕ
not_a_list_id = 16

abbrev pub not_a_guard_id : ℕ
not_a_guard_id = 17

abbrev pub not_an_auditor_id : ℕ
not_an_auditor_id = 18

abbrev pub dead_audition_id : ℕ
dead_audition_id = 19

abbrev pub not_free_id : ℕ
not_free_id = 20

-- the problem of a value that the first native guard does not take, and that of the same guard with null: those of the others come behind them
abbrev pub not_taken_id : ℕ
not_taken_id = 21

abbrev pub not_taken_or_null_id : ℕ
not_taken_or_null_id = 31

-- what is too heavy, and the problems of references
abbrev pub too_heavy_id : ℕ
too_heavy_id = 12

abbrev pub partition_id : ℕ
partition_id = 41

abbrev pub cycle_id : ℕ
cycle_id = 42

-- what is no object of this vat, where one is called or asked to react: the problem of the guard of that name
abbrev pub not_near_id : ℕ
not_near_id = 29

-- what two values throw of which a part is unsettled, where they are compared
abbrev pub not_settled_id : ℕ
not_settled_id = 43

-- a send or a call whose verb is no text, whose arguments are no list, or which has more than 255 of them
abbrev pub bad_message_id : ℕ
bad_message_id = 44

abbrev pub not_resolved_id : ℕ
not_resolved_id = 45

abbrev pub already_resolved_id : ℕ
already_resolved_id = 46

-- the texts that references put in place of values have the numbers that they have among the problems
pub record KnowsProblems (i : Interior) : Type 0 where
  pub partition : i.refs.partition ≡ partition_id
  pub cycle : i.refs.cycle ≡ cycle_id
  pub heavy : i.too_heavy ≡ too_heavy_id

-- ---- what stands in a heap

-- A value that a vat may have: where it is a text, a broken reference or a list, the heap has that text or list.
abbrev pub is_there : Contents → Value → Bool
is_there h (held.Text id) = nat_lt id (length h.texts)
is_there h (held.Broken id) = nat_lt id (length h.texts)
is_there h (held.List id) = nat_lt id (length h.lists)
is_there h _ = true

abbrev pub are_there : Contents → List Value → Bool
are_there h [] = true
are_there h (v ∷ vs) = if is_there h v then are_there h vs else false

abbrev pub is_bound : Contents → Bound → Bool
is_bound h (Fixed v g) = is_there h v
is_bound h (Slot k) = true

-- the values of names stand there
abbrev pub are_bound : Contents → List Binding → Bool
are_bound h [] = true
are_bound h (b ∷ bs) = if is_bound h b.bound then are_bound h bs else false

-- each member of a list is so
abbrev pub Each : {A : Type 0} → (A → Type 0) → List A → Type 0
Each {A = A} P xs = (k : ℕ) (x : A) → slice_get xs k ≡ Some x → P x

-- a var slot whose value stands there
abbrev pub IsPlainCell : Contents → Cell → Type 0
IsPlainCell h c = is_there h c.value ≡ true

-- an object whose captures and stamps stand there, an ejector, a resolver or an audition
abbrev pub IsPlainShape : Contents → Shape → Type 0
IsPlainShape h (Made node caught stamps) = (bs : List Binding) × ((caught ≡ map caught_of bs) × ((are_there h stamps ≡ true) × (are_bound h bs ≡ true)))
IsPlainShape h Ejector = Unit {0}
IsPlainShape h (Resolver p) = Unit {0}
IsPlainShape h (Audition view) = Unit {0}

-- that, alive or dead
abbrev pub IsPlainThing : Contents → Thing → Type 0
IsPlainThing h t = IsPlainShape h t.shape

-- a list with its weight and height, whose members stand there
abbrev pub IsListed : Contents → Listed → Type 0
IsListed h l = (l ≡ listed h l.members) × (are_there h l.members ≡ true)

-- What turns leave behind: the problems stand first among the texts, each var slot, object and list holds values that
-- stand there, and so do the references.
pub record IsSound (i : Interior) : Type 0 where
  pub slots : Each (IsPlainCell i.heap) i.heap.slots
  pub things : Each (IsPlainThing i.heap) i.heap.things
  pub lists : Each (IsListed i.heap) i.heap.lists
  pub problems_first : (more : List (List ℕ)) × (i.heap.texts ≡ problems ++ more)
  pub refs : ReferencesOf (is_there i.heap) i.refs
  pub knows : KnowsProblems i

-- texts and lists come behind those that were there
pub record Grown (before after : Contents) : Type 0 where
  pub texts : (more : List (List ℕ)) × (after.texts ≡ before.texts ++ more)
  pub lists : (more : List Listed) × (after.lists ≡ before.lists ++ more)

-- words are drawn under the same key
abbrev pub Stays : Interior → Interior → Type 0
Stays before after = after.words.key ≡ before.words.key
