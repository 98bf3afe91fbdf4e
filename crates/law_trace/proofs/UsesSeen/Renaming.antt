-- Events with other vats, names, messages and values, and what that makes of all that is said of lines.
use Rattle.std.proofs.Common.{◌≡◌, ◌+◌, ℕ, List, [], ◌∷◌, map, option_map}
use Rattle.ev_base.specs.declared.names.Msg.{Msg}
use Rattle.ev_base.specs.declared.names.Name.{Name}
use Rattle.def_event.specs.declared.shown.Shown.{Shown}
use Rattle.def_event.specs.declared.note.ShownNote.{ShownNote}
use Rattle.def_event.specs.declared.note.ShownNote.TheVariants.{Deliver, DeliverOnly, Settled as SettledAs, Elsewhere, Open as Opens, Ask, Shorten}
use Rattle.def_event.specs.declared.event.Event.{Event}
use Rattle.def_event.specs.declared.event.Called.{Called}
use Rattle.def_event.specs.declared.event.Event.TheVariants.{Open, Turn, Idle, Carry, Cut, Notice, Frame, Take, Call, Back, Thrown, Gone, Got, Slot as SlotMade, Read, Wrote, List as ListMade, Arrived, Ejector, Audition as AuditionMade, Promise, Made as ObjectMade, Send, SendOnly, When, Done, Threw, Settle, Wait, View, LostCut, LostBroken, LeftQueue, LeftHeld, LeftWait, LeftLink, End, Raw}
use Rattle.def_event.specs.declared.raw.RawLine.{RawLine}
use Rattle.def_event.specs.declared.raw.RawLine.TheVariants.{Inject, InjectCut, Malformed, Bytes, LeftBytes}
use Rattle.def_event.specs.Uses.{Thing, AName, AList, Activation, Fact, Begun, Opened, Given, Made, Captured, Audition, Anew, Way, Listed, Settled, Lead, Line, Given_for, Running, place_of, is_object, is_gift, is_root, name_of, names_of, things_of, lists_of, parts, same_message}

-- Each vat, place of a line, name, message and value has another in its place.
pub record Renaming : Type 0 where
  pub vat : ℕ → ℕ
  pub place : ℕ → ℕ
  pub name : Name → Name
  pub message : Msg → Msg
  pub value : Shown → Shown

module _ (r : Renaming) where
  -- ---- events

  abbrev pub values : List Shown → List Shown
  values xs = map r.value xs

  abbrev pub numbered : ℕ × ℕ → ℕ × ℕ
  numbered s = (r.vat s.0, s.1)

  abbrev pub called : Called → Called
  called c = record { activation = c.activation; target = r.value c.target; verb = c.verb; args = values c.args; begun = c.begun }

  abbrev pub note : ShownNote → ShownNote
  note (Deliver m target verb args) = Deliver (r.message m) (r.name target) verb (values args)
  note (DeliverOnly m target verb args) = DeliverOnly (r.message m) (r.name target) verb (values args)
  note (SettledAs n x) = SettledAs (r.name n) (r.value x)
  note (Elsewhere n v) = Elsewhere (r.name n) (r.vat v)
  note (Opens gift n) = Opens (r.name gift) (r.name n)
  note (Ask gift provider) = Ask (r.name gift) (r.vat provider)
  note (Shorten n gift) = Shorten (r.name n) (r.name gift)

  abbrev pub raw : RawLine → RawLine
  raw (Inject k v w bytes) = Inject k (r.vat v) (r.vat w) bytes
  raw (InjectCut k v w) = InjectCut k (r.vat v) (r.vat w)
  raw (Malformed k v w place) = Malformed k (r.vat v) (r.vat w) place
  raw (Bytes k v w bytes) = Bytes k (r.vat v) (r.vat w) bytes
  raw (LeftBytes v w bytes) = LeftBytes (r.vat v) (r.vat w) bytes

  abbrev pub event : Event → Event
  event (Open v) = Open (r.vat v)
  event (Turn k v) = Turn k (r.vat v)
  event (Idle k) = Idle k
  event (Carry k v w n) = Carry k (r.vat v) (r.vat w) (note n)
  event (Cut k v w) = Cut k (r.vat v) (r.vat w)
  event (Notice k v w) = Notice k (r.vat v) (r.vat w)
  event (Frame bytes) = Frame bytes
  event (Take t) = Take (record { activation = t.activation; message = r.message t.message; target = r.value t.target; verb = t.verb; args = values t.args })
  event (Call c) = Call (called c)
  event (Back a x) = Back a (r.value x)
  event (Thrown a x) = Thrown a (r.value x)
  event (Gone a) = Gone a
  event (Got a x) = Got a (r.value x)
  event (SlotMade a s x) = SlotMade a (numbered s) (r.value x)
  event (Read a s x) = Read a (numbered s) (r.value x)
  event (Wrote a s x) = Wrote a (numbered s) (r.value x)
  event (ListMade a l members) = ListMade a (numbered l) (values members)
  event (Arrived l members) = Arrived (numbered l) (values members)
  event (Ejector a o) = Ejector a (r.value o)
  event (AuditionMade a o) = AuditionMade a (r.value o)
  event (Promise a p o) = Promise a (r.name p) (r.value o)
  event (ObjectMade o) = ObjectMade (record { activation = o.activation; object = r.value o.object; name = o.name; caps = values o.caps; stamps = values o.stamps })
  event (Send m) = Send (record { activation = m.activation; message = r.message m.message; target = r.value m.target; verb = m.verb; args = values m.args; answer = r.name m.answer })
  event (SendOnly m) = SendOnly (record { activation = m.activation; message = r.message m.message; target = r.value m.target; verb = m.verb; args = values m.args })
  event (When w) = When (record { activation = w.activation; message = r.message w.message; value = r.value w.value; reaction = r.value w.reaction; answer = r.name w.answer })
  event (Done a x) = Done a (r.value x)
  event (Threw a x) = Threw a (r.value x)
  event (Settle p x) = Settle (r.name p) (r.value x)
  event (Wait p q) = Wait (r.name p) (r.name q)
  event (View p q) = View (r.name p) (r.name q)
  event (LostCut m) = LostCut (r.message m)
  event (LostBroken m) = LostBroken (r.message m)
  event (LeftQueue v m) = LeftQueue (r.vat v) (r.message m)
  event (LeftHeld v p m) = LeftHeld (r.vat v) (r.name p) (r.message m)
  event (LeftWait v x m) = LeftWait (r.vat v) (r.value x) (r.message m)
  event (LeftLink v w n) = LeftLink (r.vat v) (r.vat w) (note n)
  event End = End
  event (Raw line) = Raw (raw line)

  -- ---- what lines say

  abbrev pub line : Line → Line
  line l = record { at = r.place l.at; event = event l.event }

  abbrev pub thing : Thing → Thing
  thing (AName n) = AName (r.name n)
  thing (AList v n) = AList (r.vat v) n

  abbrev pub activation : Activation → Activation
  activation a = record { at = r.place a.at; number = a.number }

  abbrev pub fact : Fact → Fact
  fact (Begun a) = Begun (activation a)
  fact (Opened a) = Opened (activation a)
  fact (Given a t) = Given (activation a) (thing t)
  fact (Made n) = Made (r.name n)
  fact (Captured n t) = Captured (r.name n) (thing t)
  fact (Audition n) = Audition (r.name n)

  abbrev pub anew : Anew → Anew
  anew a = record { mark = fact a.mark; facts = map fact a.facts }

  abbrev pub way : Way → Way
  way Listed = Listed
  way (Settled at) = Settled (r.place at)

  abbrev pub lead : Lead → Lead
  lead d = record { way = way d.way; from = thing d.from; to = thing d.to }

  abbrev pub given_for : Given_for → Given_for
  given_for g = record { name = r.name g.name; value = option_map r.name g.value }

  abbrev pub running : Running → Running
  running u = record { activation = u.activation; target = option_map r.name u.target }

-- ---- histories

-- the line that shows a frame stands where the line before it does
abbrev pub frame : List Line → List ℕ → Line
frame past bytes = record { at = place_of past; event = Frame bytes }

-- Lines are those of before under other names, without some that show frames.
pub data AreLines (r : Renaming) : List Line → List Line → Type 0 where
  none : AreLines r [] []
  one : (past later : List Line) (l : Line) → AreLines r past later → AreLines r (l ∷ past) (line r l ∷ later)
  silent : (past later : List Line) (bytes : List ℕ) → AreLines r past later → AreLines r (frame past bytes ∷ past) later

-- and so are events
pub data AreEvents (r : Renaming) : List Event → List Event → Type 0 where
  no_event : AreEvents r [] []
  one_event : (es fs : List Event) (e : Event) → AreEvents r es fs → AreEvents r (e ∷ es) (event r e ∷ fs)
  silent_event : (es fs : List Event) (bytes : List ℕ) → AreEvents r es fs → AreEvents r (Frame bytes ∷ es) fs

-- Vats, places and names stay apart, names are of the same kinds, and values are these names and lists.
pub record IsRenaming (r : Renaming) : Type 0 where
  pub vats_apart : (v w : ℕ) → r.vat v ≡ r.vat w → v ≡ w
  pub places_apart : (v w : ℕ) → r.place v ≡ r.place w → v ≡ w
  pub names_apart : (n m : Name) → r.name n ≡ r.name m → n ≡ m
  pub messages_same : (m n : Msg) → same_message (r.message m) (r.message n) ≡ same_message m n
  pub no_place : r.place 0 ≡ 0
  pub a_place : (v : ℕ) → r.place (v + 1) ≡ r.vat v + 1
  pub objects : (n : Name) → is_object (r.name n) ≡ is_object n
  pub gifts : (n : Name) → is_gift (r.name n) ≡ is_gift n
  pub roots : (n : Name) → is_root (AName (r.name n)) ≡ is_root (AName n)
  pub as_name : (x : Shown) → name_of (r.value x) ≡ option_map r.name (name_of x)
  pub as_names : (x : Shown) → names_of (r.value x) ≡ map r.name (names_of x)
  pub as_things : (x : Shown) → things_of (r.value x) ≡ map (thing r) (things_of x)
  pub as_lists : (x : Shown) → lists_of (r.value x) ≡ map (thing r) (lists_of x)
  pub as_parts : (x : Shown) → parts (r.value x) ≡ map (thing r) (parts x)
