-- An event is made again from what its line tells.
use Rattle.std.proofs.Common.{◌≡◌, ℕ, zero, suc, cond, Option, None, List, [], ◌∷◌, sym, ◌∙◌, ap, refl}
use Rattle.std.specs.Prelude.{codes, bytes_eq}
use Rattle.ev_base.specs.declared.names.Name.{Name as AName}
use Rattle.ev_base.specs.declared.names.Name.TheVariants.{Root}
use Rattle.ev_base.specs.declared.names.Msg.{Msg}
use Rattle.def_event.specs.declared.shown.Shown.{Shown, Null}
use Rattle.def_event.specs.declared.note.ShownNote.{ShownNote}
use Rattle.def_event.specs.declared.note.ShownNote.TheVariants.{Deliver, DeliverOnly, Settled, Elsewhere, Open as Opens, Ask, Shorten}
use Rattle.def_event.specs.declared.event.Event.{Event}
use Rattle.def_event.specs.declared.event.Event.TheVariants.{Open, Turn, Idle, Carry, Cut, Notice, Frame, Take, Call, Back, Thrown, Gone, Got, Slot as SlotMade, Read, Wrote, List as ListMade, Arrived, Ejector, Audition, Promise, Made, Send, SendOnly, When, Done, Threw, Settle, Wait, View, LostCut, LostBroken, LeftQueue, LeftHeld, LeftWait, LeftLink, End, Raw}
use Rattle.def_event.specs.declared.raw.RawLine.{RawLine}
use Rattle.def_event.specs.declared.raw.RawLine.TheVariants.{Inject, InjectCut, Malformed, Bytes as RawBytes, LeftBytes}
use Rattle.law_text.specs.Text.Kinds.{kind, kind_in}
use Rattle.law_text.specs.Text.Parts.{Part, Word, Entry, Activation, Vat, Message, Name, Value, Verb, AList, ASlot, Bytes, Rest, Nothing, Values, Begins, Answered, Holds, Told, told, EventsAreTold}
use Rattle.law_text.proofs.Text.Kinded.{kinds_told}
use Rattle.law_text.proofs.Text.Parted.{by_parts, told_words}

-- ---- what is told, by its place

abbrev part_at : ℕ → List Part → Part
part_at n [] = Word []
part_at zero (p ∷ ps) = p
part_at (suc n) (p ∷ ps) = part_at n ps

abbrev number : Part → ℕ
number (Entry k) = k
number (Activation a) = a
number (Vat v) = v
number _ = 0

abbrev number_at : ℕ → List Part → ℕ
number_at n ps = number (part_at n ps)

abbrev word : Part → List ℕ
word (Word w) = w
word _ = []

abbrev word_at : ℕ → List Part → List ℕ
word_at n ps = word (part_at n ps)

abbrev message : Part → Msg
message (Message m) = m
message _ = record { sender = 0; number = 0 }

abbrev message_at : ℕ → List Part → Msg
message_at n ps = message (part_at n ps)

abbrev name : Part → AName
name (Name n) = n
name _ = Root 0

abbrev name_at : ℕ → List Part → AName
name_at n ps = name (part_at n ps)

abbrev value : Part → Shown
value (Value x) = x
value _ = Null

abbrev value_at : ℕ → List Part → Shown
value_at n ps = value (part_at n ps)

abbrev verb_in : Part → List ℕ
verb_in (Verb v) = v
verb_in _ = []

abbrev verb_at : ℕ → List Part → List ℕ
verb_at n ps = verb_in (part_at n ps)

abbrev thing : Part → ℕ × ℕ
thing (AList v n) = (v, n)
thing (ASlot v n) = (v, n)
thing _ = (0, 0)

abbrev thing_at : ℕ → List Part → ℕ × ℕ
thing_at n ps = thing (part_at n ps)

abbrev bytes_in : Part → List ℕ
bytes_in (Bytes bytes) = bytes
bytes_in _ = []

abbrev bytes_at : ℕ → List Part → List ℕ
bytes_at n ps = bytes_in (part_at n ps)

abbrev args_in : Rest → List Shown
args_in Nothing = []
args_in (Values xs) = xs
args_in (Begins xs begun) = xs
args_in (Answered xs answer) = xs
args_in (Holds xs ys) = xs

abbrev begun_in : Rest → Option ℕ
begun_in (Begins xs begun) = begun
begun_in _ = None

abbrev answer_in : Rest → AName
answer_in (Answered xs answer) = answer
answer_in _ = Root 0

abbrev stamps_in : Rest → List Shown
stamps_in (Holds xs ys) = ys
stamps_in _ = []

-- ---- the event of it

abbrev note_in : List ℕ → List Part → Rest → ShownNote
note_in w ps r =
    cond (bytes_eq w (codes "deliver")) (Deliver (message_at 5 ps) (name_at 6 ps) (verb_at 7 ps) (args_in r)) (
    cond (bytes_eq w (codes "deliveronly")) (DeliverOnly (message_at 5 ps) (name_at 6 ps) (verb_at 7 ps) (args_in r)) (
    cond (bytes_eq w (codes "settled")) (Settled (name_at 5 ps) (value_at 6 ps)) (
    cond (bytes_eq w (codes "elsewhere")) (Elsewhere (name_at 5 ps) (number_at 6 ps)) (
    cond (bytes_eq w (codes "open")) (Opens (name_at 5 ps) (name_at 6 ps)) (
    cond (bytes_eq w (codes "ask")) (Ask (name_at 5 ps) (number_at 6 ps)) (
    Shorten (name_at 5 ps) (name_at 6 ps)))))))

abbrev carried : List ℕ → List Part → Rest → Event
carried w ps r =
    cond (bytes_eq w (codes "malformed")) (Raw (Malformed (number_at 0 ps) (number_at 2 ps) (number_at 3 ps) (number_at 5 ps))) (
    cond (bytes_eq w (codes "bytes")) (Raw (RawBytes (number_at 0 ps) (number_at 2 ps) (number_at 3 ps) (bytes_at 5 ps))) (
    Carry (number_at 0 ps) (number_at 2 ps) (number_at 3 ps) (note_in w ps r)))

abbrev left_there : List ℕ → List Part → Rest → Event
left_there w ps r = cond (bytes_eq w (codes "bytes")) (Raw (LeftBytes (number_at 2 ps) (number_at 3 ps) (bytes_at 5 ps))) (LeftLink (number_at 2 ps) (number_at 3 ps) (note_in w ps r))

abbrev injected : List ℕ → List Part → RawLine
injected w ps = cond (bytes_eq w (codes "cut")) (InjectCut (number_at 0 ps) (number_at 2 ps) (number_at 3 ps)) (Inject (number_at 0 ps) (number_at 2 ps) (number_at 3 ps) (bytes_at 4 ps))

abbrev made : List ℕ → List ℕ → List Part → Rest → Event
made k w ps r =
    cond (bytes_eq k (codes "open")) (Open (number_at 1 ps)) (
    cond (bytes_eq k (codes "#turn")) (Turn (number_at 0 ps) (number_at 2 ps)) (
    cond (bytes_eq k (codes "#idle")) (Idle (number_at 0 ps)) (
    cond (bytes_eq k (codes "#cut")) (Cut (number_at 0 ps) (number_at 2 ps) (number_at 3 ps)) (
    cond (bytes_eq k (codes "#notice")) (Notice (number_at 0 ps) (number_at 2 ps) (number_at 3 ps)) (
    cond (bytes_eq k (codes "frame")) (Frame (bytes_at 1 ps)) (
    cond (bytes_eq k (codes "!take")) (Take (record { activation = (number_at 0 ps); message = (message_at 2 ps); target = (value_at 3 ps); verb = (verb_at 4 ps); args = args_in r })) (
    cond (bytes_eq k (codes "!call")) (Call (record { activation = (number_at 0 ps); target = (value_at 2 ps); verb = (verb_at 3 ps); args = args_in r; begun = begun_in r })) (
    cond (bytes_eq k (codes "!back")) (Back (number_at 0 ps) (value_at 2 ps)) (
    cond (bytes_eq k (codes "!thrown")) (Thrown (number_at 0 ps) (value_at 2 ps)) (
    cond (bytes_eq k (codes "!gone")) (Gone (number_at 0 ps)) (
    cond (bytes_eq k (codes "!got")) (Got (number_at 0 ps) (value_at 2 ps)) (
    cond (bytes_eq k (codes "!slot")) (SlotMade (number_at 0 ps) (thing_at 2 ps) (value_at 3 ps)) (
    cond (bytes_eq k (codes "!read")) (Read (number_at 0 ps) (thing_at 2 ps) (value_at 3 ps)) (
    cond (bytes_eq k (codes "!wrote")) (Wrote (number_at 0 ps) (thing_at 2 ps) (value_at 3 ps)) (
    cond (bytes_eq k (codes "!list")) (ListMade (number_at 0 ps) (thing_at 2 ps) (args_in r)) (
    cond (bytes_eq k (codes "list")) (Arrived (thing_at 1 ps) (args_in r)) (
    cond (bytes_eq k (codes "!ejector")) (Ejector (number_at 0 ps) (value_at 2 ps)) (
    cond (bytes_eq k (codes "!audition")) (Audition (number_at 0 ps) (value_at 2 ps)) (
    cond (bytes_eq k (codes "!promise")) (Promise (number_at 0 ps) (name_at 2 ps) (value_at 3 ps)) (
    cond (bytes_eq k (codes "!made")) (Made (record { activation = (number_at 0 ps); object = (value_at 2 ps); name = word_at 3 ps; caps = args_in r; stamps = stamps_in r })) (
    cond (bytes_eq k (codes "!send")) (Send (record { activation = (number_at 0 ps); message = (message_at 2 ps); target = (value_at 3 ps); verb = (verb_at 4 ps); args = args_in r; answer = answer_in r })) (
    cond (bytes_eq k (codes "!sendonly")) (SendOnly (record { activation = (number_at 0 ps); message = (message_at 2 ps); target = (value_at 3 ps); verb = (verb_at 4 ps); args = args_in r })) (
    cond (bytes_eq k (codes "!when")) (When (record { activation = (number_at 0 ps); message = (message_at 2 ps); value = (value_at 3 ps); reaction = (value_at 4 ps); answer = (name_at 6 ps) })) (
    cond (bytes_eq k (codes "!done")) (Done (number_at 0 ps) (value_at 2 ps)) (
    cond (bytes_eq k (codes "!threw")) (Threw (number_at 0 ps) (value_at 2 ps)) (
    cond (bytes_eq k (codes "settle")) (Settle (name_at 1 ps) (value_at 2 ps)) (
    cond (bytes_eq k (codes "wait")) (Wait (name_at 1 ps) (name_at 2 ps)) (
    cond (bytes_eq k (codes "view")) (View (name_at 1 ps) (name_at 2 ps)) (
    cond (bytes_eq k (codes "lost cut")) (LostCut (message_at 1 ps)) (
    cond (bytes_eq k (codes "lost broken")) (LostBroken (message_at 1 ps)) (
    cond (bytes_eq k (codes "left queue")) (LeftQueue (number_at 2 ps) (message_at 3 ps)) (
    cond (bytes_eq k (codes "left held")) (LeftHeld (number_at 2 ps) (name_at 3 ps) (message_at 4 ps)) (
    cond (bytes_eq k (codes "left wait")) (LeftWait (number_at 2 ps) (value_at 3 ps) (message_at 4 ps)) (
    cond (bytes_eq k (codes "#carry")) (carried w ps r) (
    cond (bytes_eq k (codes "left link")) (left_there w ps r) (
    cond (bytes_eq k (codes "#inject")) (Raw (injected w ps)) (
    End)))))))))))))))))))))))))))))))))))))

made_again : (e : Event) → made (kind e) (word_at 4 (told e).parts) (told e).parts (told e).rest ≡ e
made_again (Open v) = refl
made_again (Carry k v w (Deliver m target verb args)) = refl
made_again (LeftLink v w (Deliver m target verb args)) = refl
made_again (Raw (Inject k v w bytes)) = refl
made_again (Raw (InjectCut k v w)) = refl
made_again (Raw (Malformed k v w place)) = refl
made_again (Raw (RawBytes k v w bytes)) = refl
made_again (Raw (LeftBytes v w bytes)) = refl
made_again other = refl

-- of no vats
abbrev again : Told → Event
again t = made (kind_in (told_words [] t)) (word_at 4 t.parts) t.parts t.rest

is_again : (e : Event) → again (told e) ≡ e
is_again e = ap (λ k. made k (word_at 4 (told e).parts) (told e).parts (told e).rest) (ap kind_in (sym (by_parts [] e)) ∙ kinds_told [] e) ∙ made_again e

pub events_are_told : EventsAreTold
events_are_told e f i = sym (is_again e) ∙ ap again i ∙ is_again f
