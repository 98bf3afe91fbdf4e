-- What the inside of a vat stands for: a vat of the machine, in local numbers.
use Rattle.std.specs.Prelude.{ℕ, suc, Bool, List, [], ◌∷◌, ◌++◌, Some, codes, map, length, option_map}
use Rattle.std.specs.declared.option.Option.{Option}
use Rattle.ev_base.specs.declared.values.Value.{Value as Held}
use Rattle.ev_base.specs.declared.values.Value.TheVariants as held
use Rattle.ev_heap.specs.declared.happened.Happened.{Happened as Event}
use Rattle.ev_heap.specs.declared.happened.Happened.TheVariants as event
use Rattle.def_machine.specs.Values.{Words, Value, Ref, Naming, Local, Obj, Prom, Mess}
use Rattle.def_machine.specs.Scopes.{any_guard}
use Rattle.ev_heap.specs.declared.kept.Cell.{Cell as HeldCell}
use Rattle.ev_heap.specs.declared.kept.Capture.{Capture}
use Rattle.ev_heap.specs.declared.kept.Capture.TheVariants as capture
use Rattle.ev_heap.specs.declared.kept.Caught.{Caught}
use Rattle.ev_heap.specs.declared.kept.Listed.{Listed}
use Rattle.ev_heap.specs.declared.kept.Shape.{Shape}
use Rattle.ev_heap.specs.declared.kept.Shape.TheVariants as shape
use Rattle.ev_heap.specs.declared.kept.Thing.{Thing as HeldThing}
use Rattle.ev_audit.specs.Views.{guard_of, view_of}
use Rattle.ev_refs.specs.Reading as refs
use Rattle.ev_pass.specs.Reading as inside
use Rattle.ev_pass.specs.Reading.{names_under, vat_at}
use Rattle.ev_pass.specs.declared.interior.Interior.{Interior}
use Rattle.ev_room.specs.Sound.{problems}
use Rattle.def_machine.specs.State.{Thing, Made, Ejector, Audition, Resolver, Bound, Fixed, Slot, Binding, Cell, Happened, Called, Back, Thrown, Left, Got, SlotMade, SlotRead, SlotWrote, ListMade, EjectorMade, AuditionMade, PromiseMade, ObjectMade, ListCame, Took, Message, Sends, Reacts, Finished, Threw, Settles, Waits, Views, Lost, Posted, Vat}

-- What a turn leaves as it is and the inside does not tell: the gifts, and what was put and happened before; and the texts that values
-- stand for, those of the end of the turn, so that a value stands for one thing while the heap grows.
pub record World : Type 0 where
  -- a vat with these gifts, and with what was put and happened before
  pub before : Vat Local
  -- the texts of the heap at the end of the turn, behind the problems
  pub texts : List Words
  -- the key under which words are drawn
  pub key : List ℕ

abbrev pub texts_of : World → List Words
texts_of w = problems ++ w.texts

abbrev pub text_of : World → ℕ → Words
text_of w id = refs.text_by (texts_of w) id

abbrev pub value_of : World → Held → Value Local
value_of w v = refs.value_by (texts_of w) v

abbrev pub values_of : World → List Held → List (Value Local)
values_of w vs = map (value_of w) vs

abbrev pub members_of : World → Listed → List (Value Local)
members_of w l = values_of w l.members

-- a problem, which is a text
abbrev pub problem_of : World → Held → Words
problem_of w (held.Text id) = text_of w id
problem_of w _ = []

abbrev pub cell_of : World → HeldCell → Cell Local
cell_of w c = record { guard = guard_of c.guard; value = value_of w c.value }

abbrev pub capture_in : World → Capture → Bound Local
capture_in w (capture.Fixed v g) = Fixed (value_of w v) (guard_of g)
capture_in w (capture.Slot k) = Slot k

abbrev pub caught_in : World → Caught → Binding Local
caught_in w c = record { noun = c.noun; bound = capture_in w c.capture }

abbrev pub shape_in : World → Bool → Shape → Thing Local
shape_in w alive (shape.Made node caught stamps) = Made node (map (caught_in w) caught) (map (value_of w) stamps)
shape_in w alive shape.Ejector = Ejector alive
shape_in w alive (shape.Resolver p) = Resolver (Prom p)
shape_in w alive (shape.Audition view) = Audition alive (view_of view)

abbrev pub thing_of : World → HeldThing → Thing Local
thing_of w t = shape_in w t.alive t.shape

-- the line of an object, which is no other value
abbrev pub made_line : World → ℕ → Held → Words → List Capture → List Held → List (Happened Local)
made_line w act (held.Obj i) x caps stamps = ObjectMade act (Obj i) x (map (capture_in w) caps) (map (value_of w) stamps) ∷ []
made_line w act _ x caps stamps = []

-- the line of an ejector, which is no other value
abbrev pub ejector_line : ℕ → Held → List (Happened Local)
ejector_line act (held.Obj i) = EjectorMade act (Obj i) ∷ []
ejector_line act _ = []

-- the line of an audition, and of a promise with its resolver, which are no other value
abbrev pub audition_line : ℕ → Held → List (Happened Local)
audition_line act (held.Obj i) = AuditionMade act (Obj i) ∷ []
audition_line act _ = []

abbrev pub promise_line : ℕ → ℕ → Held → List (Happened Local)
promise_line act p (held.Obj i) = PromiseMade act (Prom p) (Obj i) ∷ []
promise_line act p _ = []

abbrev pub message_of : World → ℕ → Held → Words → List Held → Option ℕ → Message Local
message_of w m x verb args answer = record { id = Mess m; target = value_of w x; verb = verb; args = values_of w args; answer = option_map Prom answer }

-- the line of what references do
unfoldable pub referred_line : World → Event → List (Happened Local)
referred_line w (event.Take act m x verb args answer) = Took act (message_of w m x verb args answer) ∷ []
referred_line w (event.Arrived k vs) = ListCame k (values_of w vs) ∷ []
referred_line w (event.Promise act p v) = promise_line act p v
referred_line w (event.Send act m x verb args answer) = Sends act (message_of w m x verb args answer) ∷ []
referred_line w (event.When act m x o near answer) = Reacts act (value_of w x) (value_of w o) (message_of w m near (codes "run") (x ∷ []) (Some answer)) ∷ []
referred_line w (event.Done act v) = Finished act (value_of w v) ∷ []
referred_line w (event.Threw act p) = Threw act (problem_of w p) ∷ []
referred_line w (event.Settle p v) = Settles (Prom p) (value_of w v) ∷ []
referred_line w (event.Wait p q) = Waits (Prom p) (Prom q) ∷ []
referred_line w (event.View p q) = Views (Prom p) (Prom q) ∷ []
referred_line w (event.LostBroken m) = Lost (Mess m) ∷ []
referred_line w (event.Posted h m) = Posted h (Mess m) ∷ []
referred_line w _ = []

-- the line of an event; what comes to be known has none
unfoldable pub line_of : World → Event → List (Happened Local)
line_of w (event.Call act target verb args begun) = Called act (value_of w target) verb (map (value_of w) args) begun ∷ []
line_of w (event.Back act v) = Back act (value_of w v) ∷ []
line_of w (event.Thrown act p) = Thrown act (problem_of w p) ∷ []
line_of w (event.Gone act) = Left act ∷ []
line_of w (event.Got act v) = Got act (value_of w v) ∷ []
line_of w (event.Slot act k v) = SlotMade act k (value_of w v) ∷ []
line_of w (event.Read act k v) = SlotRead act k (value_of w v) ∷ []
line_of w (event.Wrote act k v) = SlotWrote act k (value_of w v) ∷ []
line_of w (event.List act k vs) = ListMade act k (values_of w vs) ∷ []
line_of w (event.Ejector act v) = ejector_line act v
line_of w (event.Audition act v) = audition_line act v
line_of w (event.Made act object x caps stamps) = made_line w act object x caps stamps
line_of w e = referred_line w e

-- the lines of what happened
abbrev pub lines_of : World → List Event → List (Happened Local)
lines_of w es = inside.lines_of (line_of w) es

-- the objects, slots and activations of the inside, and what the world has
abbrev pub beside : World → Interior → Vat Local
beside w i = record w.before {
  things = map (thing_of w) i.heap.things;
  slots = map (cell_of w) i.heap.slots;
  activations = length i.heap.codes;
}

unfoldable pub vat_of : World → Interior → Vat Local
vat_of w i = vat_at (texts_of w) (line_of w) i (beside w i)

abbrev pub names : World → Naming Local Local
names w = names_under w.key

-- each noun is bound finally to a name that is known, to that number and those behind it
abbrev pub roots_from : ℕ → List Words → List (Binding Local)
roots_from n [] = []
roots_from n (x ∷ xs) = record { noun = x; bound = Fixed (Ref (Prom n)) any_guard } ∷ roots_from (suc n) xs
