-- What the line of an event tells, part by part, and events of which that is alike.
use Rattle.std.specs.Prelude.{◌≡◌, ℕ, ◌<◌, ◌^◌, List, [], ◌∷◌, ◌++◌, Option, Some, None, length, codes, filter}
use Rattle.std.specs.Str.{IsUtf8}
use Rattle.ev_base.specs.declared.names.Name.{Name as AName}
use Rattle.ev_base.specs.declared.names.Msg.{Msg}
use Rattle.def_event.specs.declared.shown.Shown.{Shown}
use Rattle.def_event.specs.declared.note.ShownNote.{ShownNote}
use Rattle.def_event.specs.declared.note.ShownNote.TheVariants.{Deliver, DeliverOnly, Settled, Elsewhere, Open as Opens, Ask, Shorten}
use Rattle.def_event.specs.declared.event.Event.{Event}
use Rattle.def_event.specs.declared.event.Event.TheVariants.{Open, Turn, Idle, Carry, Cut, Notice, Frame, Take, Call, Back, Thrown, Gone, Got, Slot as SlotMade, Read, Wrote, List as ListMade, Arrived, Ejector, Audition, Promise, Made, Send, SendOnly, When, Done, Threw, Settle, Wait, View, LostCut, LostBroken, LeftQueue, LeftHeld, LeftWait, LeftLink, End, Raw}
use Rattle.def_event.specs.declared.raw.RawLine.TheVariants.{Inject, InjectCut, Malformed, Bytes as RawBytes, LeftBytes}
use Rattle.def_event.specs.Lines.{is_no_frame, render, render_run}
use Rattle.law_text.specs.Text.Feeds.{AllOf}
use Rattle.law_text.specs.Text.Words.{WordsFit}
use Rattle.law_text.specs.Text.Names.{IsMessageOf, IsNameOf}
use Rattle.law_text.specs.Text.Values.{AreVats, IsValueOf, Alike, AreAlike}

-- what one word of a line tells
pub data Part : Type 0 where
  -- that word: what kind of line it is, and the name of an object that is made
  Word : List ℕ → Part
  Entry : ℕ → Part
  Activation : ℕ → Part
  Vat : ℕ → Part
  Message : Msg → Part
  Name : AName → Part
  Value : Shown → Part
  Verb : List ℕ → Part
  -- a list and a var slot, by the vat and the number there
  AList : ℕ → ℕ → Part
  ASlot : ℕ → ℕ → Part
  Bytes : List ℕ → Part

-- what the words behind those tell, of which there may be any number
pub data Rest : Type 0 where
  Nothing : Rest
  Values : List Shown → Rest
  -- arguments, and the activation that a call begins
  Begins : List Shown → Option ℕ → Rest
  -- arguments, and the answer of a send
  Answered : List Shown → AName → Rest
  -- captures and stamps
  Holds : List Shown → List Shown → Rest

pub record Told : Type 0 where
  pub parts : List Part
  pub rest : Rest

abbrev pub tells : List Part → Told
tells parts = record { parts = parts; rest = Nothing }

-- what a note tells, behind that
abbrev pub note_tells : List Part → ShownNote → Told
note_tells front (Deliver m target verb args) = record { parts = front ++ Word (codes "deliver") ∷ Message m ∷ Name target ∷ Verb verb ∷ []; rest = Values args }
note_tells front (DeliverOnly m target verb args) = record { parts = front ++ Word (codes "deliveronly") ∷ Message m ∷ Name target ∷ Verb verb ∷ []; rest = Values args }
note_tells front (Settled n x) = tells (front ++ Word (codes "settled") ∷ Name n ∷ Value x ∷ [])
note_tells front (Elsewhere n v) = tells (front ++ Word (codes "elsewhere") ∷ Name n ∷ Vat v ∷ [])
note_tells front (Opens gift n) = tells (front ++ Word (codes "open") ∷ Name gift ∷ Name n ∷ [])
note_tells front (Ask gift provider) = tells (front ++ Word (codes "ask") ∷ Name gift ∷ Vat provider ∷ [])
note_tells front (Shorten n gift) = tells (front ++ Word (codes "shorten") ∷ Name n ∷ Name gift ∷ [])

abbrev pub told : Event → Told
told (Open v) = tells (Word (codes "open") ∷ Vat v ∷ [])
told (Turn k v) = tells (Entry k ∷ Word (codes "turn") ∷ Vat v ∷ [])
told (Idle k) = tells (Entry k ∷ Word (codes "idle") ∷ [])
told (Carry k v w note) = note_tells (Entry k ∷ Word (codes "carry") ∷ Vat v ∷ Vat w ∷ []) note
told (Cut k v w) = tells (Entry k ∷ Word (codes "cut") ∷ Vat v ∷ Vat w ∷ [])
told (Notice k v w) = tells (Entry k ∷ Word (codes "notice") ∷ Vat v ∷ Vat w ∷ [])
told (Frame bytes) = tells (Word (codes "frame") ∷ Bytes bytes ∷ [])
told (Take t) = record { parts = Activation t.activation ∷ Word (codes "take") ∷ Message t.message ∷ Value t.target ∷ Verb t.verb ∷ []; rest = Values t.args }
told (Call c) = record { parts = Activation c.activation ∷ Word (codes "call") ∷ Value c.target ∷ Verb c.verb ∷ []; rest = Begins c.args c.begun }
told (Back a x) = tells (Activation a ∷ Word (codes "back") ∷ Value x ∷ [])
told (Thrown a x) = tells (Activation a ∷ Word (codes "thrown") ∷ Value x ∷ [])
told (Gone a) = tells (Activation a ∷ Word (codes "gone") ∷ [])
told (Got a x) = tells (Activation a ∷ Word (codes "got") ∷ Value x ∷ [])
told (SlotMade a s x) = tells (Activation a ∷ Word (codes "slot") ∷ ASlot s.0 s.1 ∷ Value x ∷ [])
told (Read a s x) = tells (Activation a ∷ Word (codes "read") ∷ ASlot s.0 s.1 ∷ Value x ∷ [])
told (Wrote a s x) = tells (Activation a ∷ Word (codes "wrote") ∷ ASlot s.0 s.1 ∷ Value x ∷ [])
told (ListMade a l members) = record { parts = Activation a ∷ Word (codes "list") ∷ AList l.0 l.1 ∷ []; rest = Values members }
told (Arrived l members) = record { parts = Word (codes "list") ∷ AList l.0 l.1 ∷ []; rest = Values members }
told (Ejector a o) = tells (Activation a ∷ Word (codes "ejector") ∷ Value o ∷ [])
told (Audition a o) = tells (Activation a ∷ Word (codes "audition") ∷ Value o ∷ [])
told (Promise a p o) = tells (Activation a ∷ Word (codes "promise") ∷ Name p ∷ Value o ∷ [])
told (Made o) = record { parts = Activation o.activation ∷ Word (codes "made") ∷ Value o.object ∷ Word o.name ∷ []; rest = Holds o.caps o.stamps }
told (Send m) = record { parts = Activation m.activation ∷ Word (codes "send") ∷ Message m.message ∷ Value m.target ∷ Verb m.verb ∷ []; rest = Answered m.args m.answer }
told (SendOnly m) = record { parts = Activation m.activation ∷ Word (codes "sendonly") ∷ Message m.message ∷ Value m.target ∷ Verb m.verb ∷ []; rest = Values m.args }
told (When w) = tells (Activation w.activation ∷ Word (codes "when") ∷ Message w.message ∷ Value w.value ∷ Value w.reaction ∷ Word (codes "->") ∷ Name w.answer ∷ [])
told (Done a x) = tells (Activation a ∷ Word (codes "done") ∷ Value x ∷ [])
told (Threw a x) = tells (Activation a ∷ Word (codes "threw") ∷ Value x ∷ [])
told (Settle p x) = tells (Word (codes "settle") ∷ Name p ∷ Value x ∷ [])
told (Wait p q) = tells (Word (codes "wait") ∷ Name p ∷ Name q ∷ [])
told (View p q) = tells (Word (codes "view") ∷ Name p ∷ Name q ∷ [])
told (LostCut m) = tells (Word (codes "lost") ∷ Message m ∷ Word (codes "cut") ∷ [])
told (LostBroken m) = tells (Word (codes "lost") ∷ Message m ∷ Word (codes "broken") ∷ [])
told (LeftQueue v m) = tells (Word (codes "left") ∷ Word (codes "queue") ∷ Vat v ∷ Message m ∷ [])
told (LeftHeld v p m) = tells (Word (codes "left") ∷ Word (codes "held") ∷ Vat v ∷ Name p ∷ Message m ∷ [])
told (LeftWait v x m) = tells (Word (codes "left") ∷ Word (codes "wait") ∷ Vat v ∷ Value x ∷ Message m ∷ [])
told (LeftLink v w note) = note_tells (Word (codes "left") ∷ Word (codes "link") ∷ Vat v ∷ Vat w ∷ []) note
told End = tells (Word (codes "end") ∷ [])
told (Raw (Inject k v w bytes)) = tells (Entry k ∷ Word (codes "inject") ∷ Vat v ∷ Vat w ∷ Bytes bytes ∷ [])
told (Raw (InjectCut k v w)) = tells (Entry k ∷ Word (codes "inject") ∷ Vat v ∷ Vat w ∷ Word (codes "cut") ∷ [])
told (Raw (Malformed k v w place)) = tells (Entry k ∷ Word (codes "carry") ∷ Vat v ∷ Vat w ∷ Word (codes "malformed") ∷ Entry place ∷ [])
told (Raw (RawBytes k v w bytes)) = tells (Entry k ∷ Word (codes "carry") ∷ Vat v ∷ Vat w ∷ Word (codes "bytes") ∷ Bytes bytes ∷ [])
told (Raw (LeftBytes v w bytes)) = tells (Word (codes "left") ∷ Word (codes "link") ∷ Vat v ∷ Vat w ∷ Word (codes "bytes") ∷ Bytes bytes ∷ [])

-- Nothing of an event is left out: two that tell the same are one.
abbrev pub EventsAreTold : Type 0
EventsAreTold = (e f : Event) → told e ≡ told f → e ≡ f

-- ---- what is asked of an event

module _ (vats : List (List ℕ)) where
  -- its vats are among these, its numbers of 64 bits, and its verb is a text
  abbrev pub IsPartOf : Part → Type 0
  IsPartOf (Word w) = Unit {0}
  IsPartOf (Entry k) = k < 2 ^ 64
  IsPartOf (Activation a) = a < 2 ^ 64
  IsPartOf (Vat v) = v < length vats
  IsPartOf (Message m) = IsMessageOf vats m
  IsPartOf (Name n) = IsNameOf vats n
  IsPartOf (Value x) = IsValueOf vats x
  IsPartOf (Verb verb) = IsUtf8 verb
  IsPartOf (AList v n) = (v < length vats) × (n < 2 ^ 64)
  IsPartOf (ASlot v n) = (v < length vats) × (n < 2 ^ 64)
  IsPartOf (Bytes bytes) = Unit {0}

  abbrev pub MayBegin : Option ℕ → Type 0
  MayBegin None = Unit {0}
  MayBegin (Some a) = a < 2 ^ 64

  abbrev pub IsRestOf : Rest → Type 0
  IsRestOf Nothing = Unit {0}
  IsRestOf (Values xs) = AllOf (IsValueOf vats) xs
  IsRestOf (Begins args begun) = AllOf (IsValueOf vats) args × MayBegin begun
  IsRestOf (Answered args answer) = AllOf (IsValueOf vats) args × IsNameOf vats answer
  IsRestOf (Holds caps stamps) = AllOf (IsValueOf vats) caps × AllOf (IsValueOf vats) stamps

  -- besides, the name of an object that is made is a word
  abbrev pub IsEventOf : Event → Type 0
  IsEventOf e = WordsFit e × AllOf IsPartOf (told e).parts × IsRestOf (told e).rest

-- ---- events that are alike

-- They tell the same, but for values that are alike.
pub data PartAlike : Part → Part → Type 0 where
  same : {p : Part} → PartAlike p p
  valued : {x y : Shown} → Alike x y → PartAlike (Value x) (Value y)

pub data RestAlike : Rest → Rest → Type 0 where
  nothing : RestAlike Nothing Nothing
  values : {xs ys : List Shown} → AreAlike xs ys → RestAlike (Values xs) (Values ys)
  begins : {xs ys : List Shown} {begun : Option ℕ} → AreAlike xs ys → RestAlike (Begins xs begun) (Begins ys begun)
  answered : {xs ys : List Shown} {answer : AName} → AreAlike xs ys → RestAlike (Answered xs answer) (Answered ys answer)
  holds : {xs ys zs us : List Shown} → AreAlike xs ys → AreAlike zs us → RestAlike (Holds xs zs) (Holds ys us)

abbrev pub OneForOne : {A : Type 0} → (A → A → Type 0) → List A → List A → Type 0
OneForOne R [] [] = Unit {0}
OneForOne R (x ∷ xs) (y ∷ ys) = R x y × OneForOne R xs ys
OneForOne R [] (y ∷ ys) = ⊥
OneForOne R (x ∷ xs) [] = ⊥

abbrev pub EventsAlike : Event → Event → Type 0
EventsAlike e f = OneForOne PartAlike (told e).parts (told f).parts × RestAlike (told e).rest (told f).rest

-- Two histories with one text are alike, event by event; without their frames they are so but for those.
abbrev pub TextsTellHistories : Type 0
TextsTellHistories = (vats : List (List ℕ)) → AreVats vats → (xs ys : List Event) → AllOf (IsEventOf vats) xs → AllOf (IsEventOf vats) ys
    → (render vats xs ≡ render vats ys → OneForOne EventsAlike xs ys)
    × (render_run vats xs ≡ render_run vats ys → OneForOne EventsAlike (filter is_no_frame xs) (filter is_no_frame ys))
