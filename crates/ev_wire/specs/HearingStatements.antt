-- What is said of what a vat hears in the machine's terms.
use Rattle.std.specs.Prelude.{◌≡◌, ℕ, Bool, true, false, List, [], ◌∷◌, ◌++◌, map, Option, Some, None}
use Rattle.ev_base.specs.declared.values.Value.{Value}
use Rattle.def_machine.specs.Arrive.{New}
use Rattle.def_machine.specs.State as state
use Rattle.def_machine.specs.Values.{Words, Local}
use Rattle.def_op.specs.Frames.{IsOp, Operation}
use Rattle.def_run.specs.Connections as machine
use Rattle.def_run.specs.Connections.{Heard}
use Rattle.ev_pass.specs.declared.interior.Interior.{Interior}
use Rattle.ev_arrive.specs.Hearing.{Name, heard_by}
use Rattle.ev_arrive.specs.declared.brought.Heard.{Heard as Noted}
use Rattle.ev_tables.specs.Table.{Table}
use Rattle.ev_tables.specs.Standing.{AreReferences, IsKept, connection_of, is_object, is_own, is_reference, local_of}
use Rattle.ev_wire.specs.Bringing.{Told, told}
use Rattle.ev_wire.specs.Hearing.{Out, no_news, note_heard}
use Rattle.ev_wire.specs.Learnt.{LearntGifts}
use Rattle.ev_wire.specs.Taking.{imported_all}
use Rattle.ev_wire.specs.Reading.{TellsOfPromises, TextsStand, newcomers_of, stage_of, told_by}

-- references to what is of other vats
abbrev pub AllOthers : (ℕ → Bool) → List Value → Type 0
AllOthers mine [] = Unit {0}
AllOthers mine (v ∷ vs) = (is_reference v ≡ true) × (is_own mine (local_of v) ≡ false) × AllOthers mine vs

-- what was heard stands for what the machine reads, wherever the texts of the frame have the next numbers; and where nothing was, the machine reads nothing
abbrev pub StandsFor : Local → Interior → Table → LearntGifts → Out Told → Option (Heard Local (state.Note Name)) → Type 0
StandsFor n i t l None d = d ≡ None
StandsFor n i t l (Some x) d = (ts : List Words) → TextsStand ts i x.1 → d ≡ Some (record { read = told_by ts n i.refs.me t.peer x.0; after = stage_of t l x.1 })

-- What a vat hears of an operation is what the machine reads of it, by what the vat has for the peer and the gifts that it learnt; and so are the positions, the gifts and the count of names after it.
abbrev pub HearsAsTheMachine : Type 0
HearsAsTheMachine = (n : Local) (i : Interior) (t : Table) (l : LearntGifts) (o : Operation) → TellsOfPromises o → AreReferences t.exports → AreReferences t.imports
    → StandsFor n i t l (note_heard i t l o (no_news i)) (machine.note_heard is_object i.refs.me t.peer (newcomers_of n t.peer) (connection_of t) o (stage_of t l (no_news i)))

-- And that note is the one by which a vat receives what was heard.
abbrev pub IsReceived : Type 0
IsReceived = (ts : List Words) (n : Local) (me peer : ℕ) (note : Noted) → told_by ts n me peer (told note) ≡ heard_by ts n (New n me) peer peer note

-- What has a spelling tells of promises.
abbrev pub SpelledTellOfPromises : Type 0
SpelledTellOfPromises = (o : Operation) → IsOp o → TellsOfPromises o

-- What a vat has for the peer, once what came to stand at the next positions was taken in, is what the machine has after the frame; and each reference is found by the number that came first, where what came is of another vat.
abbrev pub TakesInAsTheMachine : Type 0
TakesInAsTheMachine = (mine : ℕ → Bool) (vs : List Value) (t : Table)
    → (connection_of (imported_all vs t) ≡ record (connection_of t) { imports = map local_of (t.imports ++ vs) })
    × (AllOthers mine vs → IsKept mine t → IsKept mine (imported_all vs t))
