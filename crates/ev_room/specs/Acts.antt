-- What single acts of evaluation do to the state of the code: fuel, lines, var slots, nouns, texts, lists and objects.
use Rattle.std.specs.Prelude.{◌≡◌, ◌==◌, ℕ, ◌-◌, Bool, true, false, if◌then◌else◌, nat_le, List, [], ◌∷◌, ◌++◌, Some, None, Result, Ok, Err, map, length, take, slice_get, slice_set, option_map, codes}
use Rattle.std.specs.declared.option.Option.{Option}
use Rattle.std.specs.Str.{bytes_eq}
use Rattle.ev_base.specs.declared.values.Value.{Value}
use Rattle.ev_base.specs.declared.values.Value.TheVariants as held
use Rattle.ev_base.specs.SafeScope.{safe_value}
use Rattle.ev_heap.specs.declared.happened.Happened.{Happened as Event}
use Rattle.ev_heap.specs.declared.happened.Happened.TheVariants as event
use Rattle.def_kernel.specs.declared.node.Node.{Node}
use Rattle.def_kernel.specs.declared.node.Node.TheVariants.{Method, Final}
use Rattle.def_machine.specs.Values.{Words}
use Rattle.ev_heap.specs.declared.kept.Capture.{Capture}
use Rattle.ev_heap.specs.declared.kept.Capture.TheVariants as capture
use Rattle.ev_heap.specs.declared.kept.Caught.{Caught}
use Rattle.ev_heap.specs.declared.kept.Shape.{Shape}
use Rattle.ev_heap.specs.declared.kept.Shape.TheVariants as shape
use Rattle.ev_heap.specs.declared.kept.Thing.{Thing}
use Rattle.ev_kernel_printer.specs.FreeNames.{free_names}
use Rattle.def_machine.specs.Scopes.{name_of, own_noun, is_auditor, approves}
use Rattle.def_machine.specs.Native.{primitive}
use Rattle.ev_audit.specs.Frozen.{stamps_at}
use Rattle.ev_audit.specs.Stamps.{bears}
use Rattle.ev_audit.specs.Views.{free_held, told_at}
use Rattle.ev_audit.specs.Views.{view_of as seen_of}
use Rattle.ev_heap.specs.declared.kept.AuditView.{AuditView}
use Rattle.ev_heap.specs.declared.kept.FreeName.{FreeName}
use Rattle.ev_prims.specs.Reading.{text_in}
use Rattle.ev_integer.specs.declared.arithmetic.NumFault.TheVariants.{Overflow, ZeroDivisor, NegativePower}
use Rattle.ev_heap.specs.Contents.{Contents, listed, is_light}
use Rattle.ev_prims.specs.declared.problem.Problem.{Problem}
use Rattle.ev_prims.specs.declared.problem.Problem.TheVariants.{NoMethod, Arithmetic, NotInt, NotChar, NotBoolean, NotText, NotList, OutOfRange, BadArgument, NotComparable, TooHeavy, Unthrowable, DeadEjector}
use Rattle.ev_room.specs.Sound.{not_an_auditor_id, not_free_id, is_there, are_there, no_guard, capture_of, object_thing}
use Rattle.ev_room.specs.declared.object.Code.{Code}
use Rattle.ev_room.specs.declared.object.Code.TheVariants.{Runs, Leaves, Resolves, Audits}
use Rattle.ev_room.specs.declared.exit.Exit.{Exit}
use Rattle.ev_room.specs.declared.exit.Exit.TheVariants.{Thrown, Ejected, Fuel, Deep, Repeated, Astray, Memory}
use Rattle.ev_room.specs.declared.exit.Came.{Came}
use Rattle.ev_room.specs.declared.exit.Came.TheVariants.{Gave, Threw, Left}
use Rattle.ev_heap.specs.declared.kept.Cell.{Cell}
use Rattle.ev_heap.specs.declared.kept.GuardKind.{GuardKind}
use Rattle.ev_pass.specs.declared.interior.Interior.{Interior as Room}
use Rattle.ev_room.specs.declared.scope.Binding.{Binding}
use Rattle.ev_room.specs.declared.scope.Bound.{Bound}
use Rattle.ev_room.specs.declared.scope.Bound.TheVariants.{Fixed, Slot}
use Rattle.ev_room.specs.declared.scope.Scope.{Scope}
use Rattle.ev_room.specs.Held.{binding_back}

-- what something gives, or how it ends without a value, and the state after
abbrev pub Out : Type 0 → Type 0
Out A = Result A Exit × Room

abbrev pub Act : Type 0 → Type 0
Act A = Room → Out A

-- a fact, unless memory ran out
abbrev pub Unless : Exit → Type 0 → Type 0
Unless Memory fact = Unit {0}
Unless (Thrown id) fact = fact
Unless (Ejected n v) fact = fact
Unless Fuel fact = fact
Unless Deep fact = fact
Unless (Repeated i j) fact = fact
Unless Astray fact = fact

-- what a function of the code returned and left is what the definition gives, unless memory ran out
abbrev pub Gives : {A : Type 0} → Result A Exit → Room → Out A → Type 0
Gives (Ok a) room out = out ≡ (Ok a, room)
Gives (Err e) room out = Unless e (out ≡ (Err e, room))

-- a fact of what came to an end, with a value or without one
abbrev pub OfRun : {A : Type 0} → Result A Exit → Type 0 → Type 0
OfRun (Ok a) fact = fact
OfRun (Err e) fact = Unless e fact

-- the same of what has a scope after it
abbrev pub GivesIn : {A : Type 0} → Result A Exit → Scope → Room → Out (A × Scope) → Type 0
GivesIn (Ok a) here room out = out ≡ (Ok (a, here), room)
GivesIn (Err e) here room out = Unless e (out ≡ (Err e, room))

-- the same of what gives the scope after it
abbrev pub Binds : Result (Unit {0}) Exit → Scope → Room → Out Scope → Type 0
Binds (Ok u) here room out = out ≡ (Ok here, room)
Binds (Err e) here room out = Unless e (out ≡ (Err e, room))

-- the same of what leaves the state as it is
abbrev pub Answers : {A : Type 0} → Result A Exit → Result A Exit → Type 0
Answers (Ok a) due = due ≡ Ok a
Answers (Err e) due = Unless e (due ≡ Err e)

unfoldable pub and_then : {A B : Type 0} → Out A → (A → Act B) → Out B
and_then (Ok a, s) f = f a s
and_then (Err e, s) f = (Err e, s)

infixl 10 ◌>>=◌
unfoldable pub ◌>>=◌ : {A B : Type 0} → Act A → (A → Act B) → Act B
m >>= f = λ s. and_then (m s) f

infixl 10 ◌>>◌
unfoldable pub ◌>>◌ : {A B : Type 0} → Act A → Act B → Act B
m >> n = λ s. and_then (m s) (λ _. n)

-- what follows by how something ended: with a value, by a problem or by an ejector; all else ends all that would follow
unfoldable pub ended_by : {A B : Type 0} → (A → Act B) → (ℕ → Act B) → (ℕ → Value → Act B) → Out A → Out B
ended_by f g h (Ok a, s) = f a s
ended_by f g h (Err (Thrown id), s) = g id s
ended_by f g h (Err (Ejected n v), s) = h n v s
ended_by f g h (Err Fuel, s) = (Err Fuel, s)
ended_by f g h (Err Deep, s) = (Err Deep, s)
ended_by f g h (Err (Repeated i j), s) = (Err (Repeated i j), s)
ended_by f g h (Err Astray, s) = (Err Astray, s)
ended_by f g h (Err Memory, s) = (Err Memory, s)

-- how something came to an end, unless it stopped
unfoldable pub unless_stopped : Result Value Exit → Result Came Exit
unless_stopped (Ok v) = Ok (Gave v)
unless_stopped (Err (Thrown id)) = Ok (Threw id)
unless_stopped (Err (Ejected n v)) = Ok (Left n v)
unless_stopped (Err Fuel) = Err Fuel
unless_stopped (Err Deep) = Err Deep
unless_stopped (Err (Repeated i j)) = Err (Repeated i j)
unless_stopped (Err Astray) = Err Astray
unless_stopped (Err Memory) = Err Memory

unfoldable pub give : {A : Type 0} → A → Act A
give a = λ s. (Ok a, s)

unfoldable pub fail : {A : Type 0} → Exit → Act A
fail e = λ s. (Err e, s)

unfoldable pub answer : {A : Type 0} → Result A Exit → Act A
answer r = λ s. (r, s)

unfoldable pub tell : Event → Act (Unit {0})
tell e = λ s. (Ok tt, record s { micro = record s.micro { events = s.micro.events ++ e ∷ [] } })

unfoldable pub spent : ℕ → Bool → Act (Unit {0})
spent n true = λ s. (Ok tt, record s { micro = record s.micro { fuel = s.micro.fuel - n } })
spent n false = λ s. (Err Fuel, s)

-- so many units of fuel, all or none
unfoldable pub spend : ℕ → Act (Unit {0})
spend n = λ s. spent n (nat_le n s.micro.fuel) s

-- an activation that runs the code of that receiver
unfoldable pub new_activation : Value → Act ℕ
new_activation x = λ s. (Ok (length s.heap.codes), record s { heap = record s.heap { codes = s.heap.codes ++ x ∷ [] } })

-- ---- var slots

unfoldable pub new_slot : GuardKind → Value → Act ℕ
new_slot g v = λ s. (Ok (length s.heap.slots), record s { heap = record s.heap { slots = s.heap.slots ++ record { guard = g; value = v } ∷ [] } })

unfoldable pub write_told : ℕ → ℕ → Value → Act Value
write_told act k v = do
  tell (event.Wrote act k v)
  give v

unfoldable pub slot_read : ℕ → ℕ → Value → Act Value
slot_read act k v = do
  tell (event.Read act k v)
  give v

unfoldable pub slot_found : ℕ → ℕ → Option Cell → Act Value
slot_found act k None = fail Astray
slot_found act k (Some c) = slot_read act k c.value

-- the value of a slot, which is told
unfoldable pub read_slot : ℕ → ℕ → Act Value
read_slot act k = λ s. slot_found act k (slice_get s.heap.slots k) s

unfoldable pub slot_written : ℕ → ℕ → Value → Option Cell → Act Value
slot_written act k v None = write_told act k v
slot_written act k v (Some c) = λ s. write_told act k v (record s { heap = record s.heap { slots = slice_set s.heap.slots k (record c { value = v }) } })

-- A slot is written, whatever its guard, which is told. Where there is none, it is told alone.
unfoldable pub write_slot : ℕ → ℕ → Value → Act Value
write_slot act k v = λ s. slot_written act k v (slice_get s.heap.slots k) s

-- ---- nouns

-- what the last binding of a noun binds it to, or that one
unfoldable pub found_from : Option Bound → List Binding → Words → Option Bound
found_from found [] x = found
found_from found (b ∷ bs) x = found_from (if bytes_eq b.noun x then Some b.bound else found) bs x

unfoldable pub safe_found : Option Value → Result Value Exit
safe_found None = Err Astray
safe_found (Some v) = Ok v

unfoldable pub read_held : ℕ → Bound → Act Value
read_held act (Fixed v g) = give v
read_held act (Slot k) = read_slot act k

-- the value of a noun, by what it is bound to
unfoldable pub read_bound : ℕ → Option Bound → Words → Act Value
read_bound act (Some b) x = read_held act b
read_bound act None x = answer (safe_found (safe_value x))

unfoldable pub with_bound : List Binding → Words → Option Bound → List Binding
with_bound bs x (Some b) = bs ++ record { noun = x; bound = b } ∷ []
with_bound bs x None = bs

-- the first so many bindings
abbrev pub cut : ℕ → Scope → Scope
cut mark here = record here { nouns = take mark here.nouns }

-- the bindings of a scope stand in front of those of another, of the same activation
unfoldable pub Extends : Scope → Scope → Type 0
Extends before after = cut (length before.nouns) after ≡ before

abbrev pub with_noun : Words → Bound → Scope → Scope
with_noun x b here = record here { nouns = here.nouns ++ record { noun = x; bound = b } ∷ [] }

-- ---- texts and lists

abbrev pub problem_id : Problem → ℕ
problem_id (Arithmetic Overflow) = 0
problem_id NotInt = 1
problem_id NoMethod = 2
problem_id (Arithmetic ZeroDivisor) = 3
problem_id (Arithmetic NegativePower) = 4
problem_id NotChar = 5
problem_id NotBoolean = 6
problem_id NotText = 7
problem_id NotList = 8
problem_id OutOfRange = 9
problem_id BadArgument = 10
problem_id NotComparable = 11
problem_id TooHeavy = 12
problem_id Unthrowable = 13
problem_id DeadEjector = 14

unfoldable pub fails : {A : Type 0} → Problem → Act A
fails p = fail (Thrown (problem_id p))

unfoldable pub new_text : Words → Act ℕ
new_text u = λ s. (Ok (length s.heap.texts), record s { heap = record s.heap { texts = s.heap.texts ++ u ∷ [] } })

unfoldable pub text_value : Words → Act Value
text_value u = do
  id ← new_text u
  give (held.Text id)

unfoldable pub spell : Words → Act Value
spell u = do
  spend (length u)
  text_value u

unfoldable pub spelled : Words → Bool → Act Value
spelled u true = spell u
spelled u false = fails TooHeavy

-- a text that a text answers: a unit for each byte
unfoldable pub write_text : Words → Act Value
write_text u = spelled u (nat_le (length u) 65535)

unfoldable pub new_list : List Value → Act ℕ
new_list vs = λ s. (Ok (length s.heap.lists), record s { heap = record s.heap { lists = s.heap.lists ++ listed s.heap vs ∷ [] } })

unfoldable pub list_told : ℕ → List Value → ℕ → Act Value
list_told act vs k = do
  tell (event.List act k vs)
  give (held.List k)

unfoldable pub keep_list : ℕ → List Value → Act Value
keep_list act vs = do
  k ← new_list vs
  list_told act vs k

unfoldable pub store : ℕ → List Value → Act Value
store act vs = do
  spend (length vs)
  keep_list act vs

unfoldable pub stored : ℕ → List Value → Bool → Act Value
stored act vs true = store act vs
stored act vs false = fails TooHeavy

unfoldable pub listed_there : ℕ → List Value → Bool → Act Value
listed_there act vs true = λ s. stored act vs (is_light s.heap vs) s
listed_there act vs false = fail Astray

-- a list that an activation makes: its limits are tested, then a unit for each member is spent
unfoldable pub make_list : ℕ → List Value → Act Value
make_list act vs = λ s. listed_there act vs (are_there s.heap vs) s

-- ---- calls

-- with the last line of a call, by how it ended
unfoldable pub closed_by : ℕ → Out Value → Out Value
closed_by act o = ended_by (λ v. tell (event.Back act v) >> give v) (λ id. tell (event.Thrown act (held.Text id)) >> fail (Thrown id)) (λ n v. tell (event.Gone act) >> fail (Ejected n v)) o

unfoldable pub closed : ℕ → Act Value → Act Value
closed act m = λ s. closed_by act (m s)

-- the problem that is thrown where a value is to be thrown
abbrev pub thrown_id : Value → ℕ
thrown_id (held.Text id) = id
thrown_id _ = problem_id Unthrowable

-- receiver and arguments stand in the heap
unfoldable pub call_there : Contents → Value → List Value → Bool
call_there h x args = if is_there h x then are_there h args else false

-- ---- objects

-- the bindings of these names, of those that are bound, behind others
unfoldable pub captures : List Binding → List Binding → List Words → List Binding
captures so_far bs [] = so_far
captures so_far bs (x ∷ xs) = captures (with_bound so_far x (found_from None bs x)) bs xs

unfoldable pub new_object : ℕ → List Binding → List Value → Act ℕ
new_object node bs stamps = λ s. (Ok (length s.heap.things), record s { heap = record s.heap { things = s.heap.things ++ object_thing (record { node = node; nouns = bs }) stamps ∷ [] } })

-- the scope in which an object's name is bound to it
unfoldable pub named : Option Node → ℕ → Scope → Scope
named (Some (Final x g)) me here = with_noun x (Fixed (held.Obj me) no_guard) here
named _ me here = here

unfoldable pub object_made : ℕ → Words → List Binding → List Value → ℕ → Scope → Act (Value × Scope)
object_made node x bs stamps me here = do
  i ← new_object node bs stamps
  tell (event.Made here.act (held.Obj me) x (map (λ b. capture_of b.bound) bs) stamps)
  give (held.Obj me, here)

unfoldable pub object_in : ℕ → Words → List Words → List Value → ℕ → Scope → Act (Value × Scope)
object_in node x free stamps me here = object_made node x (captures [] here.nouns free) stamps me here

unfoldable pub object_as : ℕ → Option Node → List Words → List Value → Scope → Act (Value × Scope)
object_as node p free stamps here = λ s. object_in node (name_of p) free stamps (length s.heap.things) (named p (length s.heap.things) here) s

-- an object of the expression at a node comes to be, with these stamps
unfoldable pub object_at : List Node → ℕ → ℕ → List Value → Scope → Act (Value × Scope)
object_at tree id p stamps here = object_as id (slice_get tree p) (free_names tree id) stamps here

-- what an auditor may know of a name of an object that is being made in that scope
abbrev pub name_seen : Option Words → List Binding → Words → FreeName
name_seen own bs x = free_held own x (option_map capture_of (found_from None bs x))

abbrev pub view_of : ℕ → Option Node → List Words → List Binding → AuditView
view_of node p free bs = record { node = node; names = map (name_seen (own_noun p) bs) free }

-- the view of an object of the expression at a node, in a scope
unfoldable pub view_at : List Node → ℕ → ℕ → Scope → AuditView
view_at tree id p here = view_of id (slice_get tree p) (free_names tree id) here.nouns

unfoldable pub suits : Words → ℕ → Option Node → Bool
suits verb n (Some (Method v ps b)) = if bytes_eq v verb then length ps == n else false
suits verb n _ = false

-- the first method of that verb and that many patterns
unfoldable pub first_method : List Node → List ℕ → Words → ℕ → Option Node
first_method tree [] verb n = None
first_method tree (m ∷ ms) verb n = if suits verb n (slice_get tree m) then slice_get tree m else first_method tree ms verb n

-- the code of what is called: of an object with its captures, of an ejector that is alive or dead, of a resolver, or of an audition
-- that is alive or dead
unfoldable pub code_of : Shape → Bool → Result Code Exit
code_of (shape.Made node caught stamps) live = Ok (Runs (record { node = node; nouns = map binding_back caught }))
code_of shape.Ejector live = Ok (Leaves live)
code_of (shape.Resolver p) live = Ok (Resolves p)
code_of (shape.Audition view) live = Ok (Audits live view)

unfoldable pub code_in : Option Thing → Result Code Exit
code_in None = Err Astray
code_in (Some t) = code_of t.shape t.alive

-- the code of what bears a number
unfoldable pub look_code : ℕ → Act Code
look_code i = λ s. (code_in (slice_get s.heap.things i), s)

-- ---- ejectors

unfoldable pub keep_ejector : Act ℕ
keep_ejector = λ s. (Ok (length s.heap.things), record s { heap = record s.heap { things = s.heap.things ++ record { shape = shape.Ejector; alive = true } ∷ [] } })

-- an ejector that is alive
unfoldable pub new_ejector : ℕ → Act ℕ
new_ejector act = do
  j ← keep_ejector
  tell (event.Ejector act (held.Obj j))
  give j

unfoldable pub killed : ℕ → Option Thing → Act (Unit {0})
killed j None = give tt
killed j (Some t) = λ s. (Ok tt, record s { heap = record s.heap { things = slice_set s.heap.things j (record t { alive = false }) } })

-- it is dead from here on
unfoldable pub kill : ℕ → Act (Unit {0})
kill j = λ s. killed j (slice_get s.heap.things j) s

-- the ejector is dead, and then
unfoldable pub leave : {A : Type 0} → ℕ → Act A → Act A
leave j m = kill j >> m

-- the value with which a call leaves by an ejector
unfoldable pub ejected : Words → List Value → Option Value
ejected verb [] = if bytes_eq verb (codes "run") then Some held.Null else None
ejected verb (v ∷ []) = if bytes_eq verb (codes "run") then Some v else None
ejected verb _ = None

-- verb and number of arguments are tested first, then whether it is alive
unfoldable pub ejector_answer : ℕ → Bool → Option Value → Result Value Exit
ejector_answer i live None = Err (Thrown (problem_id NoMethod))
ejector_answer i true (Some v) = Err (Ejected i v)
ejector_answer i false (Some v) = Err (Thrown (problem_id DeadEjector))

-- a call on an ejector, held as x
unfoldable pub call_ejector : ℕ → Value → ℕ → Bool → Words → List Value → Act Value
call_ejector act x i live verb args = do
  tell (event.Call act x verb args None)
  closed act (answer (ejector_answer i live (ejected verb args)))

-- ---- auditions

unfoldable pub keep_audition : AuditView → Act ℕ
keep_audition view = λ s. (Ok (length s.heap.things), record s { heap = record s.heap { things = s.heap.things ++ record { shape = shape.Audition view; alive = true } ∷ [] } })

-- an audition that is alive
unfoldable pub new_audition : ℕ → AuditView → Act ℕ
new_audition act view = do
  j ← keep_audition view
  tell (event.Audition act (held.Obj j))
  give j

-- what an audition tells of the guard of a name
abbrev pub told_as : Option Value → Result Value Exit
told_as (Some v) = Ok v
told_as None = Err (Thrown not_free_id)

-- at a value as it is followed
unfoldable pub guard_asked : Contents → AuditView → Value → Result Value Exit
guard_asked h view (held.Text id) = told_as (told_at view.names (text_in h id))
guard_asked h view _ = Err (Thrown (problem_id BadArgument))

-- whether a followed value is an object that bears the stamp of a followed auditor
unfoldable pub is_stamped : Contents → Value → Value → Bool
is_stamped h a (held.Obj i) = bears a (stamps_at h i)
is_stamped h a _ = false

-- the verdict of a primitive on an object of that view
unfoldable pub prim_verdict : ℕ → AuditView → Result Value Exit
prim_verdict n view = if is_auditor (primitive n) then Ok (held.Bool (approves (primitive n) (seen_of view).free)) else Err (Thrown not_an_auditor_id)

-- opens the acts, and not the recursions
unfoldable pub opened_acts : Unit {0}
unfolding and_then ◌>>=◌ ◌>>◌ give fail answer tell spent spend new_activation new_slot write_told slot_read slot_found read_slot slot_written write_slot safe_found read_held read_bound fails new_text text_value spell spelled write_text new_list list_told keep_list store stored listed_there make_list ended_by closed_by closed call_there with_bound new_object named object_made object_in object_as object_at view_at suits code_of code_in look_code keep_ejector new_ejector killed kill leave ejected ejector_answer call_ejector keep_audition new_audition guard_asked is_stamped prim_verdict
opened_acts = tt
