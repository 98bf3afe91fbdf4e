-- Events whose lines are read again: their numbers are of 64 bits, those of gifts that a hostile vat claimed and integers of 128, and their texts UTF-8.
use Rattle.std.specs.Prelude.{◌≡◌, ℕ, zero, suc, ◌<◌, ◌≤◌, ◌^◌, true, ◌||◌, List, length, codes, Option, Some, None}
use Rattle.std.specs.Char.{IsScalar}
use Rattle.std.specs.Str.{IsUtf8, bytes_eq}
use Rattle.def_text.specs.Keywords.{is_identifier}
use Rattle.ev_base.specs.declared.names.Msg.{Msg}
use Rattle.ev_base.specs.declared.names.Name.{Name}
use Rattle.ev_base.specs.declared.names.Name.TheVariants.{Object, Own, Answer, Gift, Root, Claimed}
use Rattle.def_event.specs.declared.shown.Shown.{Shown, Null, Bool, Int, Char, Text, Broken, Prim, List as ListOf, Slot, Name as Named, Members', Row_of-Shown, end_of-Shown, more_of-Shown}
use Rattle.def_event.specs.declared.note.ShownNote.{ShownNote}
use Rattle.def_event.specs.declared.note.ShownNote.TheVariants.{Deliver, DeliverOnly, Settled, Elsewhere, Open as Opens, Ask, Shorten}
use Rattle.def_event.specs.declared.event.Event.{Event}
use Rattle.def_event.specs.declared.event.Event.TheVariants.{Open, Turn, Idle, Carry, Cut, Notice, Frame, Take, Call, Back, Thrown, Gone, Got, Slot as SlotMade, Read, Wrote, List as ListMade, Arrived, Ejector, Audition, Promise, Made, Send, SendOnly, When, Done, Threw, Settle, Wait, View, LostCut, LostBroken, LeftQueue, LeftHeld, LeftWait, LeftLink, End, Raw}
use Rattle.def_event.specs.declared.raw.RawLine.{RawLine}
use Rattle.def_event.specs.declared.raw.RawLine.TheVariants.{Inject, InjectCut, Malformed, Bytes, LeftBytes}
use Rattle.law_text.specs.Text.Feeds.{AllOf}
use Rattle.law_trace.specs.Trace.Laws.{IsPrimitive, IsWide}

abbrev pub IsText : List ℕ → Type 0
IsText text = IsUtf8 text × (length text < 2 ^ 64)

-- an identifier, or `_`
abbrev pub IsObjectName : List ℕ → Type 0
IsObjectName word = IsUtf8 word × ((is_identifier word || bytes_eq word (codes "_")) ≡ true)

-- bytes, at least one
abbrev pub AreBytes : List ℕ → Type 0
AreBytes bytes = (0 < length bytes) × AllOf (λ b. b < 256) bytes

-- the vat has a name
abbrev pub Below : List (List ℕ) → ℕ → Type 0
Below names v = v < length names

-- the activation that a call begins
abbrev pub MayBegin : Option ℕ → Type 0
MayBegin None = Unit {0}
MayBegin (Some a) = a < 2 ^ 64

-- each vat is such a one
module _ (IsVat : ℕ → Type 0) where
  -- a thing of a vat, by its number
  abbrev pub IsThing : ℕ → ℕ → Type 0
  IsThing v n = IsVat v × (n < 2 ^ 64)

  abbrev pub IsMessage : Msg → Type 0
  IsMessage m = IsThing m.sender m.number

  abbrev pub IsName : Name → Type 0
  IsName (Object v n) = IsThing v n
  IsName (Own v n) = IsThing v n
  IsName (Answer host m) = IsVat host × IsMessage m
  IsName (Gift host i) = IsThing host i
  IsName (Root v) = IsVat v
  IsName (Claimed host provider word) = IsVat host × IsVat provider × (word < 2 ^ 128)

  -- a value that is no list and no var slot
  abbrev pub IsSimple : Shown → Type 0
  IsSimple Null = Unit {0}
  IsSimple (Bool b) = Unit {0}
  IsSimple (Int z) = IsWide z
  IsSimple (Char c) = IsScalar c
  IsSimple (Text text) = IsText text
  IsSimple (Broken problem) = IsText problem
  IsSimple (Prim n) = IsPrimitive n
  IsSimple (Named n) = IsName n
  IsSimple (ListOf v n) = ⊥
  IsSimple (Slot v n) = ⊥
  IsSimple (Members' shape row) = ⊥

  -- a value outside notes, where a list stands by its number
  abbrev pub IsValue : Shown → Type 0
  IsValue (ListOf v n) = IsThing v n
  IsValue (Slot v n) = IsThing v n
  IsValue x = IsSimple x

  abbrev mutual
    -- a value in a note, where a list stands by its members and has at most this height
    pub IsPassed : ℕ → Shown → Type 0
    IsPassed height (Members' shape row) = AreMembers height row
    IsPassed height x = IsSimple x

    -- the members of a list that has at most this height
    pub AreMembers : ℕ → {n : _} → Row_of-Shown n → Type 0
    AreMembers zero end_of-Shown = ⊥
    AreMembers zero (more_of-Shown x rest) = ⊥
    AreMembers (suc height) end_of-Shown = Unit {0}
    AreMembers (suc height) (more_of-Shown x rest) = IsPassed height x × AreMembers (suc height) rest

  abbrev pub AreValues : List Shown → Type 0
  AreValues xs = AllOf IsValue xs

  -- no list in it is higher than 100
  abbrev pub IsNote : ShownNote → Type 0
  IsNote (Deliver m target verb args) = IsMessage m × IsName target × IsUtf8 verb × AllOf (IsPassed 100) args
  IsNote (DeliverOnly m target verb args) = IsMessage m × IsName target × IsUtf8 verb × AllOf (IsPassed 100) args
  IsNote (Settled n x) = IsName n × IsPassed 100 x
  IsNote (Elsewhere n v) = IsName n × IsVat v
  IsNote (Opens gift n) = IsName gift × IsName n
  IsNote (Ask gift provider) = IsName gift × IsVat provider
  IsNote (Shorten n gift) = IsName n × IsName gift

  -- a line that says that a frame was put on a link by hand, or that one was malformed
  abbrev pub IsByHand : RawLine → Type 0
  IsByHand (Inject k v w bytes) = (k < 2 ^ 64) × IsVat v × IsVat w × AreBytes bytes × (length bytes ≤ 4096)
  IsByHand (InjectCut k v w) = (k < 2 ^ 64) × IsVat v × IsVat w
  IsByHand (Malformed k v w place) = (k < 2 ^ 64) × IsVat v × IsVat w × (place < 2 ^ 64)
  IsByHand (Bytes k v w bytes) = ⊥
  IsByHand (LeftBytes v w bytes) = ⊥

  -- a line about a frame that no vat judged; one that says that a frame was put by hand, or was malformed, is refused
  abbrev pub IsRawRead : RawLine → Type 0
  IsRawRead (Inject k v w bytes) = ⊥
  IsRawRead (InjectCut k v w) = ⊥
  IsRawRead (Malformed k v w place) = ⊥
  IsRawRead (Bytes k v w bytes) = (k < 2 ^ 64) × IsVat v × IsVat w × AreBytes bytes
  IsRawRead (LeftBytes v w bytes) = IsVat v × IsVat w × AreBytes bytes

  -- no frame of a note
  abbrev pub IsRead : Event → Type 0
  IsRead (Open v) = IsVat v
  IsRead (Turn k v) = (k < 2 ^ 64) × IsVat v
  IsRead (Idle k) = k < 2 ^ 64
  IsRead (Carry k v w note) = (k < 2 ^ 64) × IsVat v × IsVat w × IsNote note
  IsRead (Cut k v w) = (k < 2 ^ 64) × IsVat v × IsVat w
  IsRead (Notice k v w) = (k < 2 ^ 64) × IsVat v × IsVat w
  IsRead (Frame bytes) = ⊥
  IsRead (Take t) = (t.activation < 2 ^ 64) × IsMessage t.message × IsValue t.target × IsUtf8 t.verb × AreValues t.args
  IsRead (Call c) = (c.activation < 2 ^ 64) × IsValue c.target × IsUtf8 c.verb × AreValues c.args × MayBegin c.begun
  IsRead (Back a x) = (a < 2 ^ 64) × IsValue x
  IsRead (Thrown a x) = (a < 2 ^ 64) × IsValue x
  IsRead (Gone a) = a < 2 ^ 64
  IsRead (Got a x) = (a < 2 ^ 64) × IsValue x
  IsRead (SlotMade a s x) = (a < 2 ^ 64) × IsThing s.0 s.1 × IsValue x
  IsRead (Read a s x) = (a < 2 ^ 64) × IsThing s.0 s.1 × IsValue x
  IsRead (Wrote a s x) = (a < 2 ^ 64) × IsThing s.0 s.1 × IsValue x
  IsRead (ListMade a l members) = (a < 2 ^ 64) × IsThing l.0 l.1 × AreValues members
  IsRead (Arrived l members) = IsThing l.0 l.1 × AreValues members
  IsRead (Ejector a o) = (a < 2 ^ 64) × IsValue o
  IsRead (Audition a o) = (a < 2 ^ 64) × IsValue o
  IsRead (Promise a p o) = (a < 2 ^ 64) × IsName p × IsValue o
  IsRead (Made o) = (o.activation < 2 ^ 64) × IsValue o.object × IsObjectName o.name × AreValues o.caps × AreValues o.stamps
  IsRead (Send m) = (m.activation < 2 ^ 64) × IsMessage m.message × IsValue m.target × IsUtf8 m.verb × AreValues m.args × IsName m.answer
  IsRead (SendOnly m) = (m.activation < 2 ^ 64) × IsMessage m.message × IsValue m.target × IsUtf8 m.verb × AreValues m.args
  IsRead (When w) = (w.activation < 2 ^ 64) × IsMessage w.message × IsValue w.value × IsValue w.reaction × IsName w.answer
  IsRead (Done a x) = (a < 2 ^ 64) × IsValue x
  IsRead (Threw a x) = (a < 2 ^ 64) × IsValue x
  IsRead (Settle p x) = IsName p × IsValue x
  IsRead (Wait p q) = IsName p × IsName q
  IsRead (View p q) = IsName p × IsName q
  IsRead (LostCut m) = IsMessage m
  IsRead (LostBroken m) = IsMessage m
  IsRead (LeftQueue v m) = IsVat v × IsMessage m
  IsRead (LeftHeld v p m) = IsVat v × IsName p × IsMessage m
  IsRead (LeftWait v x m) = IsVat v × IsValue x × IsMessage m
  IsRead (LeftLink v w note) = IsVat v × IsVat w × IsNote note
  IsRead End = Unit {0}
  IsRead (Raw line) = IsRawRead line
