-- How a frame comes in at an honest vat that goes by its own numbers, whoever sent it: what it is judged by, what it sees, what it has then, and, for the lines alone, what names the note has.
use Rattle.std.specs.Prelude.{ℕ, Bool, true, false, ◌||◌, List, [], ◌∷◌, ◌++◌, Option, Some, None, drop, is_some, length, map, slice_get, slice_set}
use Rattle.def_machine.specs.Values.{Value, Null, Flag, Number, Letter, Text, Prim, Broken, Items, Ref, Name, Gift, Local, Far, Naming}
use Rattle.def_machine.specs.State.{Standing, Unsettled, WaitsOn, Viewed, Settled, Note, Deliver, Open, Ask, SettledTo, Elsewhere, Shorten, Put, Vat}
use Rattle.def_machine.specs.Arrive.{Incoming, Old, New}
use Rattle.def_machine.specs.Receive.{Sight, tells_nothing}
use Rattle.def_machine.specs.Refs.{standing_of}
use Rattle.def_run.specs.Connections.{Connection, Learnt, Heard, learnt_at}
use Rattle.def_run.specs.Marks.{placed, rekeyed}
use Rattle.def_run.specs.Names.{Told}
use Rattle.def_run.specs.Numbers.{Frame, Brought, name_at_vat, name_exported, told_imports, told_learnt, carried_in, told_answer, nothing_brought}
use Rattle.def_run.specs.Seeing.{among}
use Rattle.def_run.specs.Vats.{Member, connection_for, is_object, heard_on}
use Rattle.def_hostile.specs.Judge.{Counts}
use Rattle.def_hostile.specs.Hostile.{answer_if}
use Rattle.def_run.specs.Entered.{entered}
use Rattle.def_hostile.specs.Hostile.{opened_hostile}
use Rattle.def_run.specs.Numbers.{opened_numbers}

-- ---- by the vat's own tables

-- what a vat has in numbers for a peer, as far as a judge looks at it
unfoldable pub counts_in : Connection Local → Counts
counts_in c = record { exports = length c.exports; answers = length c.answers; questions = length c.questions; imports = map is_object c.imports }

-- what the tables of vat m tell of a note from that peer
unfoldable pub sees : ℕ → Member → Sight Local
sees peer m = record {
  knows = λ h p i. is_some (learnt_at h i m.learnt);
  numbers = λ n. among (connection_for peer m).exports n || among (connection_for peer m).answers n;
}

-- a gift that is asked for of its host is known as a gift from then on
unfoldable pub learnt_by : Note Local → ℕ → List (Learnt Local) → List (Learnt Local)
learnt_by (Ask p i n) to gs = elim (is_some (learnt_at to i gs)) [ true ↦ gs | false ↦ gs ++ record { host = to; number = i; name = n } ∷ [] ]
learnt_by (Deliver d n verb ys) to gs = gs
learnt_by (Open i n) to gs = gs
learnt_by (SettledTo n y) to gs = gs
learnt_by (Elsewhere n c) to gs = gs
learnt_by (Shorten n c i) to gs = gs

unfoldable pub all_learnt : List (Put Local) → List (Learnt Local) → List (Learnt Local)
all_learnt [] gs = gs
all_learnt (p ∷ ps) gs = all_learnt ps (learnt_by p.note p.to gs)

-- What is asked for once a name settled elsewhere is learnt as a gift too. Alone says that no vat is hostile: then no frame tells of such a gift again, and it is not kept.
unfoldable pub learnt_after : Bool → List (Put Local) → List (Learnt Local) → List (Learnt Local)
learnt_after true ps gs = gs
learnt_after false ps gs = all_learnt ps gs

unfoldable pub is_question : {W : Type 0} → Note W → Bool
is_question (Deliver d x verb ys) = d.asks
is_question (Ask p i x) = true
is_question (Open i x) = false
is_question (SettledTo x y) = false
is_question (Elsewhere x c) = false
is_question (Shorten x c i) = false

-- A note that tells nothing brings nothing: nothing new in it takes a position or comes to be known. A question is answered in any case.
unfoldable pub brings_nothing : Naming Local Local → ℕ → Member → Note (Incoming Local Local) → Bool
brings_nothing K from m n = elim (is_question n) [ true ↦ false | false ↦ tells_nothing K (sees from m) from n m.vat ]

-- ---- names, for the lines

-- where a vat is hostile, a promise that came by a position is another entry than a gift that is known as one
unfoldable pub import_name : Bool → Name → Name
import_name true n = n
import_name false n = rekeyed placed n

-- what vat u, which is m, is told in this frame of vat v by what it hears; alone says that no vat is hostile
unfoldable pub told_by : Bool → List Member → ℕ → ℕ → Note Name → Heard Local (Note (Incoming Local Local)) → Member → List Told
told_by alone ms v u n h m =
    let old = connection_for v m in
    told_imports (λ p. import_name alone (name_exported ms v u p)) (length old.imports) (drop (length old.imports) h.after.imports)
    ++ told_learnt (drop (length m.learnt) h.after.learnt) ++ told_answer u h.after.known n

-- what vat v, which is m, exported to vat u, in names
unfoldable pub exports_named : List Member → ℕ → ℕ → Option Member → List Name
exports_named ms v u (Some m) = map (name_at_vat ms v m.names) (connection_for u m).exports
exports_named ms v u None = []

-- a note that vat v put, by the entries of vat u, which is m
unfoldable pub entered_note : Bool → List Member → ℕ → ℕ → Member → Note Name → Note Name
entered_note true ms v u m n = n
entered_note false ms v u m n = entered u v (exports_named ms v u (slice_get ms v)) m.names.known n

-- what vat u, which is m, has in numbers for a peer, in names
unfoldable pub named_for : List Member → ℕ → ℕ → Member → Connection Name
named_for ms peer u m =
    let c = connection_for peer m in
    let f : Local → Name = name_at_vat ms u m.names in
    record { exports = map f c.exports; imports = map f c.imports; questions = map f c.questions; answers = map f c.answers }

-- the vat of the object that a value is, or else that vat
unfoldable pub object_host : ℕ → Value Local → ℕ
object_host u (Ref (Far h p)) = h
object_host u (Ref n) = u
object_host u Null = u
object_host u (Flag b) = u
object_host u (Number z) = u
object_host u (Letter x) = u
object_host u (Text t) = u
object_host u (Prim n) = u
object_host u (Broken p) = u
object_host u (Items k) = u

unfoldable pub shortened_host : ℕ → Standing Local → ℕ
shortened_host u (Settled y) = object_host u y
shortened_host u Unsettled = u
shortened_host u (WaitsOn q) = u
shortened_host u (Viewed q) = u

-- how what a note speaks of stands at the vat
unfoldable pub standing_in : Naming Local Local → Vat Local → Incoming Local Local → Standing Local
standing_in K s (Old n) = standing_of K s.known n
standing_in K s (New x h) = Unsettled

unfoldable pub subject_in : {W : Type 0} → Note W → W
subject_in (Deliver d x verb ys) = x
subject_in (Open i x) = x
subject_in (Ask p i x) = x
subject_in (SettledTo x y) = x
subject_in (Elsewhere x c) = x
subject_in (Shorten x c i) = x

-- a note that is said to vat u, once it is known which gifts and which answer it names: its subject stands there so
unfoldable pub completed : ℕ → Standing Local → Note Name → Note Name
completed u t (Deliver d n verb ys) = Deliver (record d { answer = answer_if u d.message d.asks }) n verb ys
completed u t (Ask p i n) = Ask p i (Gift u i)
completed u t (Shorten n c i) = Shorten n (shortened_host u t) i
completed u t (Open i n) = Open i n
completed u t (SettledTo n y) = SettledTo n y
completed u t (Elsewhere n c) = Elsewhere n c

-- ---- what a note leaves

-- what is had once a note of vat v that was heard was received
unfoldable pub brings : Bool → List Member → ℕ → ℕ → Frame → Heard Local (Note (Incoming Local Local)) → Member → Vat Local → Brought
brings alone ms v u x h m s = record {
  carried = carried_in x.note;
  told = told_by alone ms v u x.note h m;
  connections = slice_set m.connections v (heard_on h s (connection_for v m));
  learnt = learnt_after alone s.outbox h.after.learnt;
}

unfoldable pub brings_if : Bool → Member → (Vat Local → Brought) → Vat Local → Brought
brings_if true m b s = nothing_brought m
brings_if false m b s = b s

-- opens each definition of this file, and of those below
unfoldable pub opened_arrivals : Unit {0}
unfolding counts_in sees learnt_by all_learnt learnt_after is_question brings_nothing import_name told_by exports_named entered_note named_for object_host shortened_host standing_in subject_in completed brings brings_if among opened_hostile opened_numbers
opened_arrivals = tt
