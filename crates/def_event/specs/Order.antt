-- Order in a trace: which messages were sent before which, as far as its lines tell, and whether each was taken after those before it.
use Rattle.std.specs.Prelude.{◌≡◌, ◌<◌, ℕ, Bool as Bools, true, false, List, [], ◌∷◌, take, Option, Some, None, slice_get}
use Rattle.ev_base.specs.declared.names.Msg.{Msg}
use Rattle.ev_base.specs.declared.names.Name.{Name}
use Rattle.ev_base.specs.declared.names.Name.TheVariants.{Object}
use Rattle.def_event.specs.declared.shown.Shown.{Shown, Name as Named}
use Rattle.def_event.specs.declared.note.ShownNote.{ShownNote}
use Rattle.def_event.specs.declared.note.ShownNote.TheVariants.{Deliver, DeliverOnly}
use Rattle.def_event.specs.declared.reference.Reference.{Reference}
use Rattle.def_event.specs.declared.event.Event.{Event}
use Rattle.def_event.specs.declared.event.Event.TheVariants.{Open, Turn, Idle, Carry, Cut, Notice, Take, Send, SendOnly, Raw}
use Rattle.def_event.specs.declared.raw.RawLine.{RawLine}
use Rattle.def_event.specs.declared.raw.RawLine.TheVariants.{Inject, InjectCut, Malformed, Bytes, LeftBytes}

-- ---- where a line stands

-- The vat of the lines behind one about a frame: that to which the frame comes, and none where it is put on a link.
abbrev pub raw_vat : Option ℕ → RawLine → Option ℕ
raw_vat here (Inject k v w bytes) = None
raw_vat here (InjectCut k v w) = None
raw_vat here (Malformed k v w place) = Some w
raw_vat here (Bytes k v w bytes) = Some w
raw_vat here (LeftBytes v w bytes) = here

-- The vat of the lines behind a line, by the vat of the line before it. Lines before the first step, and those behind an idle entry or a cut, are of no vat.
abbrev pub vat_behind : Option ℕ → Event → Option ℕ
vat_behind here (Open v) = Some v
vat_behind here (Turn k v) = Some v
vat_behind here (Carry k v w note) = Some w
vat_behind here (Notice k v w) = Some v
vat_behind here (Idle k) = None
vat_behind here (Cut k v w) = None
vat_behind here (Raw line) = raw_vat here line
vat_behind here _ = here

-- the vat behind all these lines
abbrev pub vat_after : Option ℕ → List Event → Option ℕ
vat_after here [] = here
vat_after here (e ∷ es) = vat_after (vat_behind here e) es

-- the vat of line i, which is no line that begins a step
abbrev pub vat_at : List Event → ℕ → Option ℕ
vat_at lines i = vat_after None (take i lines)

-- ---- what a line does with a message

-- a message that is sent, what it is sent on, and its arguments
pub record Sending : Type 0 where
  pub message : Msg
  pub target : Shown
  pub args : List Shown

-- a message on its way from one vat to another, with its arguments as they print there
pub record Carrying : Type 0 where
  pub message : Msg
  pub leaves : ℕ
  pub reaches : ℕ
  pub args : List Shown

-- a message that is taken, and whether an object takes it
pub record Taking : Type 0 where
  pub message : Msg
  pub by_object : Bools

abbrev pub sending : Event → Option Sending
sending (Send m) = Some (record { message = m.message; target = m.target; args = m.args })
sending (SendOnly m) = Some (record { message = m.message; target = m.target; args = m.args })
sending _ = None

abbrev pub note_carrying : ℕ → ℕ → ShownNote → Option Carrying
note_carrying v w (Deliver m n verb xs) = Some (record { message = m; leaves = v; reaches = w; args = xs })
note_carrying v w (DeliverOnly m n verb xs) = Some (record { message = m; leaves = v; reaches = w; args = xs })
note_carrying v w _ = None

abbrev pub carrying : Event → Option Carrying
carrying (Carry k v w note) = note_carrying v w note
carrying _ = None

abbrev pub is_object : Shown → Bools
is_object (Named (Object v n)) = true
is_object _ = false

abbrev pub taking : Event → Option Taking
taking (Take t) = Some (record { message = t.message; by_object = is_object t.target })
taking _ = None

-- line i does that
abbrev pub DoesAt : {A : Type 0} → (Event → Option A) → List Event → ℕ → A → Type 0
DoesAt does lines i a = (e : Event) × (slice_get lines i ≡ Some e) × (does e ≡ Some a)

-- Line i is the first that does that with the message.
pub record IsFirst {A : Type 0} (does : Event → Option A) (message : A → Msg) (lines : List Event) (i : ℕ) (a : A) : Type 0 where
  pub there : DoesAt does lines i a
  pub first : (j : ℕ) (b : A) → j < i → DoesAt does lines j b → message b ≡ message a → ⊥

-- line i is the first that sends this message
abbrev pub IsSent : List Event → ℕ → Sending → Type 0
IsSent lines i s = IsFirst sending (λ (x : Sending). x.message) lines i s

-- line i is the first that carries this message
abbrev pub IsCarried : List Event → ℕ → Carrying → Type 0
IsCarried lines i c = IsFirst carrying (λ (x : Carrying). x.message) lines i c

-- a line before line i takes the message
abbrev pub IsTakenBefore : List Event → ℕ → Msg → Type 0
IsTakenBefore lines i m = (j : ℕ) × (t : Taking) × (j < i) × DoesAt taking lines j t × (t.message ≡ m)

-- ---- before

-- A message that was sent at line `sent` and carried first at line `carried` has `from` as an argument where it was sent and `to` at the same place where it came.
pub record Passing (lines : List Event) (from to : Reference) (sent carried : ℕ) : Type 0 where
  pub send : Sending
  pub carry : Carrying
  pub is_sent : IsSent lines sent send
  pub is_carried : IsCarried lines carried carry
  pub same : carry.message ≡ send.message
  pub place : ℕ
  pub given : slice_get send.args place ≡ Some (Named from.name)
  pub received : slice_get carry.args place ≡ Some (Named to.name)
  pub giver : vat_at lines sent ≡ from.vat
  pub leaves : from.vat ≡ Some carry.leaves
  pub reaches : to.vat ≡ Some carry.reaches

-- What is sent on q behind line j comes after what line i sent on r: on the same reference, or over a chain of passings. The first passing's message was sent after line i, and each further one after the carry line of the one before.
pub data Behind (lines : List Event) (r : Reference) (i : ℕ) : Reference → ℕ → Type 0 where
  OnItself : (q : Reference) (j : ℕ) → q ≡ r → j ≡ i → Behind lines r i q j
  Passed : (p q : Reference) (j sent carried : ℕ) → Behind lines r i p j → j < sent → Passing lines p q sent carried → Behind lines r i q carried

-- Line i is the first that sends message m, and sends it on reference r.
pub record IsSentOn (lines : List Event) (m : Msg) (i : ℕ) (r : Reference) : Type 0 where
  pub send : Sending
  pub is_sent : IsSent lines i send
  pub message : send.message ≡ m
  pub vat : vat_at lines i ≡ r.vat
  pub target : send.target ≡ Named r.name

-- message m, sent by line i, is before message n
pub record Before (lines : List Event) (m : Msg) (i : ℕ) (n : Msg) : Type 0 where
  pub from : Reference
  pub to : Reference
  pub last : ℕ
  pub later : ℕ
  pub sent : IsSentOn lines m i from
  pub behind : Behind lines from i to last
  pub sent_later : IsSentOn lines n later to
  pub follows : last < later

-- ---- ordered

-- At line t an object takes message n, and m, which line i sent and which is before n, was not taken.
pub record IsOvertaken (lines : List Event) (t : ℕ) (n m : Msg) (i : ℕ) : Type 0 where
  pub took : Taking
  pub taken : DoesAt taking lines t took
  pub message : took.message ≡ n
  pub by_object : took.by_object ≡ true
  pub before : Before lines m i n
  pub waits : IsTakenBefore lines t m → ⊥

-- Each message that an object takes is taken after all that are before it.
abbrev pub IsOrdered : List Event → Type 0
IsOrdered lines = (t i : ℕ) (n m : Msg) → IsOvertaken lines t n m i → ⊥

-- The first line that takes a message too early takes n, and of those that are before n and were not taken m was sent first.
pub record IsFirstOvertaken (lines : List Event) (m n : Msg) : Type 0 where
  pub line : ℕ
  pub sent : ℕ
  pub overtaken : IsOvertaken lines line n m sent
  pub first_line : (t i : ℕ) (b a : Msg) → t < line → IsOvertaken lines t b a i → ⊥
  pub sent_first : (i : ℕ) (b a : Msg) → i < sent → IsOvertaken lines line b a i → ⊥

-- the answer on the order of a trace: none where it is ordered, and else the message that was overtaken and the one that was taken too early
abbrev pub JudgesOrder : List Event → Option (Msg × Msg) → Type 0
JudgesOrder lines None = IsOrdered lines
JudgesOrder lines (Some pair) = IsFirstOvertaken lines pair.0 pair.1
