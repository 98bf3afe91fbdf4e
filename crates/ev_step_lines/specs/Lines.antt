-- The lines of what happened in a vat, where its numbers stand for these names.
use Rattle.std.specs.Prelude.{ℕ, Bool, true, false, List, [], ◌∷◌, ◌++◌, Option, Some, None, flat_map, get_or, map, slice_get, slice_set, unwrap_or}
use Rattle.ev_base.specs.declared.names.Msg.{Msg}
use Rattle.ev_base.specs.declared.names.Name.{Name}
use Rattle.ev_base.specs.declared.names.Name.TheVariants as name
use Rattle.ev_base.specs.declared.values.Value.{Value as Held}
use Rattle.ev_base.specs.declared.values.Value.TheVariants as held
use Rattle.def_event.specs.declared.event.Event.{Event}
use Rattle.def_event.specs.declared.event.Event.TheVariants as line
use Rattle.def_event.specs.declared.shown.Shown.{Shown}
use Rattle.def_event.specs.declared.shown.Shown as shown
use Rattle.ev_heap.specs.declared.kept.Capture.{Capture}
use Rattle.ev_heap.specs.declared.kept.Capture.TheVariants as capture
use Rattle.ev_heap.specs.declared.happened.Happened.{Happened}
use Rattle.ev_heap.specs.declared.happened.Happened.TheVariants as event

-- The names and messages of a vat by their numbers, and, of each vat by its number, which of its objects stands at each position among what it
-- exported to this one; at the position of a promise stands any number.
pub record Naming : Type 0 where
  pub vat : ℕ
  pub names : List Name
  pub mails : List Msg
  pub objects : List (List ℕ)

abbrev pub no_names : ℕ → Naming
no_names v = record { vat = v; names = []; mails = []; objects = [] }

abbrev pub name_at : Naming → ℕ → Name
name_at t n = unwrap_or (slice_get t.names n) (name.Root t.vat)

abbrev pub mail_at : Naming → ℕ → Msg
mail_at t m = unwrap_or (slice_get t.mails m) (record { sender = t.vat; number = m })

abbrev pub object_at : Naming → ℕ → ℕ → ℕ
object_at t h p = get_or (get_or t.objects h []) p p

-- what that vat exported comes to stand at the next position
abbrev pub with_import : ℕ → ℕ → Naming → Naming
with_import h object t = record t { objects = slice_set t.objects h (get_or t.objects h [] ++ object ∷ []) }

-- a vat whose lines are told: how it names things, the texts of its heap, and of each vat by its number whether the link to it is cut
pub record Telling : Type 0 where
  pub naming : Naming
  pub texts : List (List ℕ)
  pub cut : List Bool

abbrev pub text_at : Telling → ℕ → List ℕ
text_at t id = unwrap_or (slice_get t.texts id) []

abbrev pub shown_held : Telling → Held → Shown
shown_held t held.Null = shown.Null
shown_held t (held.Bool b) = shown.Bool b
shown_held t (held.Int z) = shown.Int z
shown_held t (held.Char c) = shown.Char c
shown_held t (held.Text id) = shown.Text (text_at t id)
shown_held t (held.Broken id) = shown.Broken (text_at t id)
shown_held t (held.List id) = shown.List t.naming.vat id
shown_held t (held.Prim n) = shown.Prim n
shown_held t (held.Obj i) = shown.Name (name.Object t.naming.vat i)
shown_held t (held.Prom k) = shown.Name (name_at t.naming k)
shown_held t (held.Far h p) = shown.Name (name.Object h (object_at t.naming h p))

abbrev pub all_held : Telling → List Held → List Shown
all_held t vs = map (shown_held t) vs

-- a problem, which is a text
abbrev pub problem_at : Telling → Held → List ℕ
problem_at t (held.Text id) = text_at t id
problem_at t _ = []

-- what an object holds of a name
abbrev pub shown_capture : Telling → Capture → Shown
shown_capture t (capture.Fixed v g) = shown_held t v
shown_capture t (capture.Slot k) = shown.Slot t.naming.vat k

-- the line of an object, an ejector, an audition, a promise with its resolver: of no other value
abbrev pub made_lines : Telling → ℕ → Held → List ℕ → List Capture → List Held → List Event
made_lines t act (held.Obj i) x caps stamps =
    line.Made (record { activation = act; object = shown.Name (name.Object t.naming.vat i); name = x; caps = map (shown_capture t) caps; stamps = all_held t stamps }) ∷ []
made_lines t act _ x caps stamps = []

abbrev pub ejector_lines : Telling → ℕ → Held → List Event
ejector_lines t act (held.Obj i) = line.Ejector act (shown.Name (name.Object t.naming.vat i)) ∷ []
ejector_lines t act _ = []

abbrev pub audition_lines : Telling → ℕ → Held → List Event
audition_lines t act (held.Obj i) = line.Audition act (shown.Name (name.Object t.naming.vat i)) ∷ []
audition_lines t act _ = []

abbrev pub promise_lines : Telling → ℕ → ℕ → Held → List Event
promise_lines t act p (held.Obj i) = line.Promise act (name_at t.naming p) (shown.Name (name.Object t.naming.vat i)) ∷ []
promise_lines t act p _ = []

-- a send, by the answer that it asks for
abbrev pub sent_line : Telling → ℕ → ℕ → Held → List ℕ → List Held → Option ℕ → Event
sent_line t act m x verb args (Some a) =
    line.Send (record { activation = act; message = mail_at t.naming m; target = shown_held t x; verb = verb; args = all_held t args; answer = name_at t.naming a })
sent_line t act m x verb args None =
    line.SendOnly (record { activation = act; message = mail_at t.naming m; target = shown_held t x; verb = verb; args = all_held t args })

-- A message that was put is lost where the link is cut. One that goes out has no line.
abbrev pub lost_if : Bool → Telling → ℕ → List Event
lost_if true t m = line.LostCut (mail_at t.naming m) ∷ []
lost_if false t m = []

abbrev pub posted_lines : Telling → ℕ → ℕ → List Event
posted_lines t h m = lost_if (get_or t.cut h false) t m

-- the line of what references do; what comes to be known has none
abbrev pub referred : Telling → Happened → List Event
referred t (event.Take act m x verb args answer) =
    line.Take (record { activation = act; message = mail_at t.naming m; target = shown_held t x; verb = verb; args = all_held t args }) ∷ []
referred t (event.Arrived k vs) = line.Arrived (t.naming.vat, k) (all_held t vs) ∷ []
referred t (event.Promise act p v) = promise_lines t act p v
referred t (event.Send act m x verb args answer) = sent_line t act m x verb args answer ∷ []
referred t (event.When act m x o near a) =
    line.When (record { activation = act; message = mail_at t.naming m; value = shown_held t x; reaction = shown_held t o; answer = name_at t.naming a }) ∷ []
referred t (event.Done act v) = line.Done act (shown_held t v) ∷ []
referred t (event.Threw act p) = line.Threw act (shown.Text (problem_at t p)) ∷ []
referred t (event.Settle p v) = line.Settle (name_at t.naming p) (shown_held t v) ∷ []
referred t (event.Wait p q) = line.Wait (name_at t.naming p) (name_at t.naming q) ∷ []
referred t (event.View p q) = line.View (name_at t.naming p) (name_at t.naming q) ∷ []
referred t (event.LostBroken m) = line.LostBroken (mail_at t.naming m) ∷ []
referred t (event.Posted h m) = posted_lines t h m
referred t _ = []

-- the line of what happened
abbrev pub lines : Telling → Happened → List Event
lines t (event.Call act target verb args begun) =
    line.Call (record { activation = act; target = shown_held t target; verb = verb; args = all_held t args; begun = begun }) ∷ []
lines t (event.Back act v) = line.Back act (shown_held t v) ∷ []
lines t (event.Thrown act p) = line.Thrown act (shown.Text (problem_at t p)) ∷ []
lines t (event.Gone act) = line.Gone act ∷ []
lines t (event.Got act v) = line.Got act (shown_held t v) ∷ []
lines t (event.Slot act k v) = line.Slot act (t.naming.vat, k) (shown_held t v) ∷ []
lines t (event.Read act k v) = line.Read act (t.naming.vat, k) (shown_held t v) ∷ []
lines t (event.Wrote act k v) = line.Wrote act (t.naming.vat, k) (shown_held t v) ∷ []
lines t (event.List act k vs) = line.List act (t.naming.vat, k) (all_held t vs) ∷ []
lines t (event.Ejector act v) = ejector_lines t act v
lines t (event.Audition act v) = audition_lines t act v
lines t (event.Made act object x caps stamps) = made_lines t act object x caps stamps
lines t e = referred t e

abbrev pub lines_of : Telling → List Happened → List Event
lines_of t events = flat_map (lines t) events
