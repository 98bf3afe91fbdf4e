-- What a member hears of a frame, as the machine's run in numbers has it.
use Rattle.std.specs.Prelude.{◌≡◌, ◌==◌, ℕ, Bool, true, false, if◌then◌else◌, List, [], ◌∷◌, ◌++◌, drop, length, map, slice_set, option_map, Option, Some, None, Result, Ok, Err}
use Rattle.def_run.specs.Vats.{Member as Theirs, asked_by, connection_for, heard_in, heard_on, is_own}
use Rattle.def_machine.specs.Arrive.{Incoming, arrive}
use Rattle.def_machine.specs.State as machine
use Rattle.def_machine.specs.State.{Done, Note}
use Rattle.def_machine.specs.Values.{Local, Naming}
use Rattle.def_op.specs.Frames.{Operation}
use Rattle.def_run.specs.Connections.{Heard}
use Rattle.ev_arrive.specs.declared.host.Host.{Host}
use Rattle.ev_intro.specs.Gift.{find}
use Rattle.ev_vat.specs.MemberSteps.{Having, IdlesSo, IsDone, Leaves}
use Rattle.ev_vat.specs.Standing.{with_draws}
use Rattle.ev_vat.specs.declared.hearing.Asked.{Asked}
use Rattle.ev_vat.specs.declared.hearing.Asked.TheVariants as asked
use Rattle.ev_vat.specs.declared.member.Member.{Member}
use Rattle.ev_vat.specs.declared.sending.Sending.{Sending}
use Rattle.ev_op.specs.Decoded.{decoded}
use Rattle.ev_wire.specs.Bringing.{Told, told}
use Rattle.ev_tables.specs.Standing.{local_of}
use Rattle.ev_wire.specs.Hearing.{Out}
use Rattle.ev_wire.specs.Reading.{learnt_of}
use Rattle.ev_wire.specs.Taking.{imported_all}
use Rattle.ev_wire.specs.declared.news.Hearing.{Hearing}
use Rattle.ev_wire.specs.declared.news.News.{News}
use Rattle.ev_arrive.specs.declared.brought.Heard.{Heard as Noted}
use Rattle.ev_arrive.specs.declared.brought.Heard.TheVariants.{Deliver, Open, Ask, Settled, Elsewhere, Shorten}
use Rattle.ev_tables.specs.Table.{Table, answered}
use Rattle.ev_vat.specs.Vat.{StopsWith}
use Rattle.ev_vat.specs.declared.vat.Vat.{Vat}
use Rattle.ev_vat.specs.declared.vat.VatStop.{VatStop}
use Rattle.ev_vat.specs.declared.vat.VatStop.TheVariants.{Fuel, Deep, WordRepeated, Astray, Memory}
use Rattle.def_run.specs.Asking.{AskAnew}
use Rattle.def_run.specs.Seeing.{SeesAsBefore}

-- ---- what the code does

-- a vat that keeps these texts besides
abbrev pub with_texts : List (List ℕ) → Vat → Vat
with_texts ts v = record v { host = record v.host { inside = record v.host.inside { heap = record v.host.inside.heap { texts = v.host.inside.heap.texts ++ ts } } } }

-- what was heard, without where it lies in memory
abbrev pub heard_view : Option Hearing → Out Told
heard_view (Some h) = Some (told h.note, h.news)
heard_view None = None

-- what a note asks for
abbrev pub asked_of : Noted → Asked
asked_of (Deliver m asks x verb args) = if asks then asked.Next else asked.Nothing
asked_of (Ask p w) = asked.Gift p w
asked_of (Open w x) = asked.Nothing
asked_of (Settled x y) = asked.Nothing
asked_of (Elsewhere x c) = asked.Nothing
asked_of (Shorten x s) = asked.Nothing

-- the promise that was asked for, where the note found so many names: the answer of a message comes next, a gift has its name
abbrev pub answer_of : Asked → ℕ → Host → Option ℕ
answer_of asked.Nothing known h = None
answer_of asked.Next known h = Some known
answer_of (asked.Gift p w) known h = option_map (λ (x : ℕ × Bool). x.0) (find p w h.gifts)

abbrev pub answered_if : Option ℕ → Table → Table
answered_if (Some n) t = answered n t
answered_if None t = t

-- what is had for a peer once what its frame brought was taken in, and its next question answered
abbrev pub taken : News → Option ℕ → Table → Table
taken news answer t = answered_if answer (imported_all news.imports t)

-- ---- what the run in numbers does

abbrev pub HeardNote : Type 0
HeardNote = Heard Local (Note (Incoming Local Local))

-- the operation that these bytes are, if one is all of them
abbrev pub op_found : ℕ → Option (Operation × ℕ) → Option Operation
op_found size (Some x) = if x.1 == size then Some x.0 else None
op_found size None = None

-- what is heard of an operation of vat v
abbrev pub heard_of : ℕ → Theirs → Option Operation → Option HeardNote
heard_of v m (Some o) = heard_in v o m
heard_of v m None = None

-- what is heard of a frame of vat v
abbrev pub frame_heard : ℕ → Theirs → List ℕ → Option HeardNote
frame_heard v m bytes = heard_of v m (op_found (length bytes) (decoded bytes))

-- what is had once a note of vat v arrived that was heard so
abbrev pub having : ℕ → Theirs → HeardNote → machine.Vat Local → Having
having v m h s = record { connections = slice_set m.connections v (heard_on h s (connection_for v m)); learnt = h.after.learnt }

-- all of these are the vat's own, or none
abbrev pub AllOwn : Bool → machine.Vat Local → List Local → Type 0
AllOwn b s [] = Unit {0}
AllOwn b s (n ∷ ns) = (is_own s.number s.known n ≡ b) × AllOwn b s ns

-- Beside what each step keeps: what came to stand at positions is of other vats, and what is answered is the vat's own.
pub record IsSteadyHearing (v : ℕ) (m : Theirs) (h : HeardNote) (s : machine.Vat Local) : Type 0 where
  pub owns : SeesAsBefore m.vat s m.connections
  pub asks : AskAnew s s.outbox (having v m h s).connections
  pub imports : AllOwn false s (drop (length (connection_for v m).imports) h.after.imports)
  pub answers : AllOwn true s (asked_by h.after.known s h.read)

-- what a call that hears a note came to
abbrev pub HearsSo : {A : Type 0} → ℕ → Theirs → HeardNote → (A → List Sending) → Result (Option A) VatStop → Member → Done Local (Unit {0}) → Type 0
HearsSo v m h read (Ok (Some a)) c d = (s : machine.Vat Local) × IsDone s c d × (IsSteadyHearing v m h s → Leaves (having v m h s) s (read a) c)
HearsSo v m h read (Ok None) c d = ⊥
HearsSo v m h read (Err Fuel) c d = StopsWith machine.Fuel d
HearsSo v m h read (Err Deep) c d = StopsWith machine.Deep d
HearsSo v m h read (Err (WordRepeated i j)) c d = StopsWith (machine.Repeated i j) d
HearsSo v m h read (Err Astray) c d = StopsWith machine.Astray d
HearsSo v m h read (Err Memory) c d = Unit {0}

-- A note of vat v arrives as it was heard. A frame that is malformed is refused, and leaves the member as it was.
abbrev pub Hears : {A : Type 0} → Naming Local Local → ℕ → List ℕ → ℕ → Theirs → (A → List Sending) → Result (Option A) VatStop → Member → Member → Option HeardNote → Type 0
Hears K fuel drawn v m read r before after None = IdlesSo r before after
Hears K fuel drawn v m read r before after (Some h) = HearsSo v m h read r after (arrive K v h.read (with_draws fuel drawn m.vat))

-- ---- what a frame brought

-- What a frame of vat v brought to m beside its note, by what was heard of it: what came to stand at positions, the gifts that were learnt, and
-- how many names are known by then.
pub record Brings (v : ℕ) (m : Theirs) (h : HeardNote) (n : News) : Type 0 where
  pub imports : map local_of n.imports ≡ drop (length (connection_for v m).imports) h.after.imports
  pub gifts : map learnt_of n.gifts ≡ drop (length m.learnt) h.after.learnt
  pub known : n.known ≡ h.after.known

-- something was heard, and brought that
abbrev pub BringsSo : ℕ → Theirs → Option HeardNote → News → Type 0
BringsSo v m (Some h) n = Brings v m h n
BringsSo v m None n = ⊥
