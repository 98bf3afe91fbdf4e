-- The lines of a history.
use Rattle.std.specs.Prelude.{ℕ, zero, suc, filter, Bool as Bools, ◌-◌, ◌/◌, ◌%◌, nat_lt, if◌then◌else◌, true, false, List, [], ◌∷◌, ◌++◌, slice_get, map, flat_map, codes, decimal, Option, Some, None, unwrap_or}
use Rattle.std.specs.Char.{digit_char}
use Rattle.std.specs.Fmt.{signed_decimal, digits}
use Rattle.std.specs.Str.{chars}
use Rattle.std.specs.Char.{encode_utf8}
use Rattle.ev_base.specs.SafeScope.{primitives}
use Rattle.ev_base.specs.declared.names.Name.{Name}
use Rattle.ev_base.specs.declared.names.Name.TheVariants.{Object, Own, Answer, Gift, Root, Claimed}
use Rattle.ev_base.specs.declared.names.Msg.{Msg}
use Rattle.def_text.specs.Quoting.{quoted_character, shortened}
use Rattle.def_text.specs.Keywords.{printed_verb}
use Rattle.def_event.specs.declared.shown.Shown.{Shown, Null, Bool, Int, Char, Text, Broken, Prim, List as ListOf, Slot, Name as Named, Members', Row_of-Shown, end_of-Shown, more_of-Shown}
use Rattle.def_event.specs.declared.shown.Shown.TheOpen.{Members}
use Rattle.def_event.specs.declared.shown.Shown.TheViews.{roll-Shown}
use Rattle.def_event.specs.declared.shown.Shown.TheBlock.{hidden-the_row-Shown-0}
use denote.Hole.Carrier.{roll, hidden}
use Rattle.def_event.specs.declared.note.ShownNote.{ShownNote}
use Rattle.def_event.specs.declared.note.ShownNote.TheVariants.{Deliver, DeliverOnly, Settled, Elsewhere, Open as Opens, Ask, Shorten}
use Rattle.def_event.specs.declared.event.Event.{Event}
use Rattle.def_event.specs.declared.event.Event.TheVariants.{Open, Turn, Idle, Carry, Cut, Notice, Frame, Take, Call, Back, Thrown, Gone, Got, Slot as SlotMade, Read, Wrote, List as ListMade, Arrived, Ejector, Audition, Promise, Made, Send, SendOnly, When, Done, Threw, Settle, Wait, View, LostCut, LostBroken, LeftQueue, LeftHeld, LeftWait, LeftLink, End, Raw}
use Rattle.def_event.specs.declared.raw.RawLine.{RawLine}
use Rattle.def_event.specs.declared.raw.RawLine.TheVariants.{Inject, InjectCut, Malformed, Bytes, LeftBytes}

-- words with one space between them
abbrev pub spaced : List (List ℕ) → List ℕ
spaced [] = []
spaced (w ∷ ws) = w ++ flat_map (λ v. 32 ∷ v) ws

-- two hexadecimal digits for each byte
abbrev pub hex : List ℕ → List ℕ
hex bytes = flat_map (λ b. digit_char (b / 16) ∷ digit_char (b % 16) ∷ []) bytes

-- so many bytes of a number, the lowest first
unfoldable pub low_first : ℕ → ℕ → List ℕ
low_first zero n = []
low_first (suc k) n = (n % 256) ∷ low_first k (n / 256)

-- the name of a primitive by its number: from 0 on those of the safe scope, and from 32 on `nullOk` with a guard of them
abbrev pub primitive_name : ℕ → List ℕ
primitive_name n =
    if nat_lt n 32 then unwrap_or (slice_get primitives n) []
    else codes "nullOk:" ++ unwrap_or (slice_get primitives (n - 32)) []

abbrev pub activation : ℕ → List ℕ
activation n = 33 ∷ decimal n

-- the activation that a call begins
abbrev pub begun_words : Option ℕ → List (List ℕ)
begun_words None = []
begun_words (Some b) = codes "as" ∷ activation b ∷ []

-- a list in a note, by its members
abbrev pub members : List Shown → Shown
members xs = roll-Shown (Members xs)

-- the event is no frame
abbrev pub is_no_frame : Event → Bools
is_no_frame (Frame bytes) = false
is_no_frame _ = true

-- the names of the vats, each at the place of its vat
module _ (vats : List (List ℕ)) where
  abbrev pub vat : ℕ → List ℕ
  vat v = unwrap_or (slice_get vats v) []

  -- a thing of a vat by a mark and its number there
  abbrev pub numbered : ℕ → ℕ → ℕ → List ℕ
  numbered v mark n = vat v ++ mark ∷ decimal n

  abbrev pub message : Msg → List ℕ
  message m = numbered m.sender 47 m.number

  abbrev pub name : Name → List ℕ
  name (Object v n) = numbered v 46 n
  name (Own v n) = numbered v 126 n
  name (Answer host m) = vat host ++ 63 ∷ message m
  name (Gift host i) = numbered host 94 i
  name (Root v) = 64 ∷ vat v
  name (Claimed host provider word) = vat host ++ 94 ∷ (vat provider ++ 58 ∷ hex (low_first 16 word))

  abbrev mutual
    -- a value
    pub value : Shown → List ℕ
    value Null = codes "null"
    value (Bool true) = codes "true"
    value (Bool false) = codes "false"
    value (Int z) = signed_decimal z
    value (Char c) = quoted_character c
    value (Text text) = shortened text
    value (Broken problem) = codes "broken:" ++ shortened problem
    value (Prim n) = 60 ∷ (primitive_name n ++ 62 ∷ [])
    value (ListOf v n) = numbered v 37 n
    value (Slot v n) = numbered v 38 n
    value (Named n) = name n
    value (Members' shape members) = 91 ∷ (spaced (member_values members) ++ 93 ∷ [])

    -- each member of a list in a note
    pub member_values : {n : _} → Row_of-Shown n → List (List ℕ)
    member_values end_of-Shown = []
    member_values (more_of-Shown x rest) = value x ∷ member_values rest

  abbrev pub values : List Shown → List (List ℕ)
  values xs = map value xs

  -- the words of a note
  abbrev pub note_words : ShownNote → List (List ℕ)
  note_words (Deliver m target verb args) = codes "deliver" ∷ message m ∷ name target ∷ printed_verb verb ∷ values args
  note_words (DeliverOnly m target verb args) = codes "deliveronly" ∷ message m ∷ name target ∷ printed_verb verb ∷ values args
  note_words (Settled n x) = codes "settled" ∷ name n ∷ value x ∷ []
  note_words (Elsewhere n v) = codes "elsewhere" ∷ name n ∷ vat v ∷ []
  note_words (Opens gift n) = codes "open" ∷ name gift ∷ name n ∷ []
  note_words (Ask gift provider) = codes "ask" ∷ name gift ∷ vat provider ∷ []
  note_words (Shorten n gift) = codes "shorten" ∷ name n ∷ name gift ∷ []

  -- a word and the values behind it, and nothing where there are none
  abbrev pub part : List ℕ → List Shown → List (List ℕ)
  part word [] = []
  part word (x ∷ xs) = word ∷ values (x ∷ xs)

  -- the words of a line about an injected frame
  abbrev pub raw_words : RawLine → List (List ℕ)
  raw_words (Inject k v w bytes) = decimal k ∷ codes "inject" ∷ vat v ∷ vat w ∷ hex bytes ∷ []
  raw_words (InjectCut k v w) = decimal k ∷ codes "inject" ∷ vat v ∷ vat w ∷ codes "cut" ∷ []
  raw_words (Malformed k v w place) = decimal k ∷ codes "carry" ∷ vat v ∷ vat w ∷ codes "malformed" ∷ decimal place ∷ []
  raw_words (Bytes k v w bytes) = decimal k ∷ codes "carry" ∷ vat v ∷ vat w ∷ codes "bytes" ∷ hex bytes ∷ []
  raw_words (LeftBytes v w bytes) = codes "left" ∷ codes "link" ∷ vat v ∷ vat w ∷ codes "bytes" ∷ hex bytes ∷ []

  -- the words of a line
  abbrev pub words : Event → List (List ℕ)
  words (Open v) = codes "open" ∷ vat v ∷ []
  words (Turn k v) = decimal k ∷ codes "turn" ∷ vat v ∷ []
  words (Idle k) = decimal k ∷ codes "idle" ∷ []
  words (Carry k v w note) = decimal k ∷ codes "carry" ∷ vat v ∷ vat w ∷ note_words note
  words (Cut k v w) = decimal k ∷ codes "cut" ∷ vat v ∷ vat w ∷ []
  words (Notice k v w) = decimal k ∷ codes "notice" ∷ vat v ∷ vat w ∷ []
  words (Frame bytes) = codes "frame" ∷ hex bytes ∷ []
  words (Take t) = activation t.activation ∷ codes "take" ∷ message t.message ∷ value t.target ∷ printed_verb t.verb ∷ values t.args
  words (Call c) =
      activation c.activation ∷ codes "call" ∷ value c.target ∷ printed_verb c.verb ∷ (values c.args ++ begun_words c.begun)
  words (Back a x) = activation a ∷ codes "back" ∷ value x ∷ []
  words (Thrown a x) = activation a ∷ codes "thrown" ∷ value x ∷ []
  words (Gone a) = activation a ∷ codes "gone" ∷ []
  words (Got a x) = activation a ∷ codes "got" ∷ value x ∷ []
  words (SlotMade a s x) = activation a ∷ codes "slot" ∷ numbered s.0 38 s.1 ∷ value x ∷ []
  words (Read a s x) = activation a ∷ codes "read" ∷ numbered s.0 38 s.1 ∷ value x ∷ []
  words (Wrote a s x) = activation a ∷ codes "wrote" ∷ numbered s.0 38 s.1 ∷ value x ∷ []
  words (ListMade a l members) = activation a ∷ codes "list" ∷ numbered l.0 37 l.1 ∷ values members
  words (Arrived l members) = codes "list" ∷ numbered l.0 37 l.1 ∷ values members
  words (Ejector a o) = activation a ∷ codes "ejector" ∷ value o ∷ []
  words (Audition a o) = activation a ∷ codes "audition" ∷ value o ∷ []
  words (Promise a p o) = activation a ∷ codes "promise" ∷ name p ∷ value o ∷ []
  words (Made o) =
      activation o.activation ∷ codes "made" ∷ value o.object ∷ o.name ∷ (part (codes "caps") o.caps ++ part (codes "stamps") o.stamps)
  words (Send m) =
      activation m.activation ∷ codes "send" ∷ message m.message ∷ value m.target ∷ printed_verb m.verb ∷ (values m.args ++ codes "->" ∷ name m.answer ∷ [])
  words (SendOnly m) = activation m.activation ∷ codes "sendonly" ∷ message m.message ∷ value m.target ∷ printed_verb m.verb ∷ values m.args
  words (When w) =
      activation w.activation ∷ codes "when" ∷ message w.message ∷ value w.value ∷ value w.reaction ∷ codes "->" ∷ name w.answer ∷ []
  words (Done a x) = activation a ∷ codes "done" ∷ value x ∷ []
  words (Threw a x) = activation a ∷ codes "threw" ∷ value x ∷ []
  words (Settle p x) = codes "settle" ∷ name p ∷ value x ∷ []
  words (Wait p q) = codes "wait" ∷ name p ∷ name q ∷ []
  words (View p q) = codes "view" ∷ name p ∷ name q ∷ []
  words (LostCut m) = codes "lost" ∷ message m ∷ codes "cut" ∷ []
  words (LostBroken m) = codes "lost" ∷ message m ∷ codes "broken" ∷ []
  words (LeftQueue v m) = codes "left" ∷ codes "queue" ∷ vat v ∷ message m ∷ []
  words (LeftHeld v p m) = codes "left" ∷ codes "held" ∷ vat v ∷ name p ∷ message m ∷ []
  words (LeftWait v x m) = codes "left" ∷ codes "wait" ∷ vat v ∷ value x ∷ message m ∷ []
  words (LeftLink v w note) = codes "left" ∷ codes "link" ∷ vat v ∷ vat w ∷ note_words note
  words End = codes "end" ∷ []
  words (Raw line) = raw_words line

  abbrev pub line_of : Event → List ℕ
  line_of event = spaced (words event)

  -- the lines of all events, each with a line feed at its end
  abbrev pub render : List Event → List ℕ
  render events = flat_map (λ e. line_of e ++ 10 ∷ []) events

  -- the same without the frames
  abbrev pub render_run : List Event → List ℕ
  render_run events = render (filter is_no_frame events)

-- opens the definitions of this file that do not open by themselves, and what they stand on
unfoldable pub opened_lines : Unit {0}
unfolding low_first digits chars encode_utf8 roll-Shown roll hidden-the_row-Shown-0 hidden
opened_lines = tt
