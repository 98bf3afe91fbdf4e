-- What is said of what a vat writes in the machine's terms.
use Rattle.std.specs.Prelude.{◌≡◌, ℕ, false, List, IfSome, Some, None}
use Rattle.ev_base.specs.declared.values.Value.{Value}
use Rattle.ev_base.specs.declared.values.Value.TheVariants as held
use Rattle.def_machine.specs.Values.{Words, Local, Prom}
use Rattle.def_run.specs.Connections as machine
use Rattle.def_run.specs.Connections.{Sight}
use Rattle.ev_heap.specs.Contents.{Contents}
use Rattle.ev_prims.specs.Reading.{text_in}
use Rattle.ev_refs.specs.Reading.{text_by}
use Rattle.ev_pass.specs.Notes.{Parcel, Parcels, Plain, Gift, Many, NoMore, More, Noted, Deliver, Open, Ask, Settled, Elsewhere, Shorten}
use Rattle.ev_pass.specs.Reading.{note_by}
use Rattle.ev_pass.specs.declared.interior.Interior.{Interior}
use Rattle.ev_tables.specs.Table.{Table, name_of}
use Rattle.ev_tables.specs.Standing.{IsKept, connection_of, sight_of}
use Rattle.ev_wire.specs.Writing.{asked_of, is_mine, numbered_note, put_on, written}

-- how the vat sees its names, where the answer of the message at hand is that promise
abbrev pub sight_now : Interior → ℕ → Sight Local
sight_now i a = sight_of (is_mine i.refs) (Prom a)

-- the answer for which a note asks, if it does
abbrev pub answer_in : Noted → ℕ
answer_in (Deliver m (Some a) x verb ps) = a
answer_in (Deliver m None x verb ps) = 0
answer_in (Open k x) = 0
answer_in (Ask p k n) = 0
answer_in (Settled n p) = 0
answer_in (Elsewhere n c) = 0
answer_in (Shorten n c k) = 0

-- the texts in what passes are those of the heap
abbrev pub ValueHasTexts : List Words → Contents → Value → Type 0
ValueHasTexts ts h (held.Text id) = text_by ts id ≡ text_in h id
ValueHasTexts ts h (held.Broken id) = text_by ts id ≡ text_in h id
ValueHasTexts ts h v = Unit {0}

abbrev mutual
  pub HasTexts : List Words → Contents → Parcel → Type 0
  HasTexts ts h (Plain v) = ValueHasTexts ts h v
  HasTexts ts h (Gift g k) = Unit {0}
  HasTexts ts h (Many ps) = HaveTexts ts h ps

  pub HaveTexts : List Words → Contents → Parcels → Type 0
  HaveTexts ts h NoMore = Unit {0}
  HaveTexts ts h (More p ps) = HasTexts ts h p × HaveTexts ts h ps

abbrev pub NoteHasTexts : List Words → Contents → Noted → Type 0
NoteHasTexts ts h (Deliver m a x verb ps) = HaveTexts ts h ps
NoteHasTexts ts h (Settled n p) = HasTexts ts h p
NoteHasTexts ts h (Open k x) = Unit {0}
NoteHasTexts ts h (Ask p k n) = Unit {0}
NoteHasTexts ts h (Elsewhere n c) = Unit {0}
NoteHasTexts ts h (Shorten n c k) = Unit {0}

-- what a note asks for is of another vat, and has no number before
abbrev pub IsNewAnswer : Interior → Table → ℕ → Type 0
IsNewAnswer i t n = (is_mine i.refs n ≡ false) × (name_of (held.Prom n) t.names ≡ None)

-- What is written of a note is the machine's frame, by the numbers that the vat has for the peer; and what it has for the peer then is what the machine says.
abbrev pub WritesAsTheMachine : Type 0
WritesAsTheMachine = (ts : List Words) (i : Interior) (n : Noted) (t : Table) → NoteHasTexts ts i.heap n → IsKept (is_mine i.refs) t
    → (written i n t ≡ machine.frame_now (sight_now i (answer_in n)) (note_by ts n) (connection_of t)) × (connection_of (put_on i n t) ≡ machine.put_on (sight_now i (answer_in n)) (note_by ts n) (connection_of t))

-- Each reference is found by the number that came first, as before.
abbrev pub WritingKeeps : Type 0
WritingKeeps = (i : Interior) (n : Noted) (t : Table) → IfSome (asked_of n) (IsNewAnswer i (numbered_note i.refs n t)) → IsKept (is_mine i.refs) t → IsKept (is_mine i.refs) (put_on i n t)
