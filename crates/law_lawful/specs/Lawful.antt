-- What holds in each world of a run in which frames are injected, and of what a frame says in it. Nothing is asked of the script, nor of any frame.
use Rattle.std.specs.Prelude.{◌≡◌, ℕ, zero, List, [], ◌∷◌, ◌++◌, ◌⊎◌, Some, slice_get}
use Rattle.def_op.specs.Frames as op
use Rattle.def_op.specs.Frames.{Operation}
use Rattle.def_machine.specs.Values.{Ref, Name, Root, Gift, host_of, key}
use Rattle.def_machine.specs.Arrive.{Incoming}
use Rattle.def_machine.specs.Maps as maps
use Rattle.def_run.specs.Connections.{Connection, Heard}
use Rattle.def_machine.specs.State.{Passeds, Plain, AGift, NoMore, More, Note, Deliver, Open, Ask, SettledTo, Elsewhere, Shorten, Vat}
use Rattle.def_run.specs.Wire.{connected_at}
use Rattle.def_run.specs.World.{Program, Link, World, link_at, put_at}
use Rattle.def_hostile.specs.Hostile.{Play, Scene, Plays, Doing, starts, opens_from, does_all, read_op, name_in}
use Rattle.law_fate.specs.Name.Names.{Bit, Named, Mail, Drew, At, Off, Entered, Owns, Gave, AllOf, PassedOk, PassedsOk, NoteOk, Everywhere, IsHad, names_in}
use Rattle.law_reference.specs.Reference.Notes.{IsBetween, LinkFits, answer_due}
use Rattle.law_reference.specs.Reference.Logs.{questions_in}
use Rattle.law_reference.specs.Reference.Own.{Own}
use Rattle.law_machine.specs.Run.Moves.{AnyNotice}
use Rattle.law_adversary.specs.Moves.{FramesReached}
use Rattle.law_injected.specs.HostileRuns.{AnyDeed, NothingSaid, IsHostile, IsSpoken, IsReached}
use Rattle.law_lawful.specs.Claims.{WasMade, IsMade}
use Rattle.law_lawful.specs.Tables.{TablesFit}

-- It holds in each scene of each run in which a vat is hostile: after some opening turns, and after all of them and any entries and frames.
abbrev pub InScenes : (Play → World → Type 0) → Type 0
InScenes P = (play : Play) (h : ℕ) → IsHostile play h
    → ((ps rest : List Program) (s : Scene) → play.script.vats ≡ ps ++ rest → opens_from play zero ps (starts play) ≡ Plays s → P play s.world)
    × ((s t : Scene) (ds : List Doing) (k : ℕ) → opens_from play zero play.script.vats (starts play) ≡ Plays s → does_all play ds k s ≡ Plays t → P play t.world)

-- a gift may be claimed under any word
abbrev pub AnyWord : ℕ → Type 0
AnyWord i = Unit {0}

-- a promise that its vat has made, or an answer of a message that its sender has made, or any gift
abbrev pub IsMadeIn : World → Bit Name → Type 0
IsMadeIn w b = IsMade AnyWord w.vats w.drawn b

-- Each name that an honest vat has was made, but for gifts.
abbrev pub NamesWereMade : Type 0
NamesWereMade = InScenes (λ play w. (v : ℕ) (s : Vat Name) → slice_get w.vats v ≡ Some s → (IsHostile play v → ⊥) → Everywhere (IsMadeIn w) s)

-- What an honest vat has is its own.
abbrev pub WhatAnHonestVatHasIsItsOwn : Type 0
WhatAnHonestVatHasIsItsOwn = InScenes (λ play w. (v : ℕ) (s : Vat Name) → slice_get w.vats v ≡ Some s → (IsHostile play v → ⊥) → Own v s)

-- Each name in a note that was put was made, but for gifts.
abbrev pub NotesNameWhatWasMade : Type 0
NotesNameWhatWasMade = InScenes (λ play w. AllOf (λ l. AllOf (NoteOk (IsMadeIn w)) l.log × AllOf (NoteOk (IsMadeIn w)) l.notes) w.links)

-- Each note is about a name of one of the two vats of its link, whoever put it.
abbrev pub NotesNameTheirEnds : Type 0
NotesNameTheirEnds = InScenes (λ play w. AllOf LinkFits w.links)

-- What stands at a number of a connection is of the vat that exported it, or that was asked for it, and was made.
abbrev pub TablesNameTheirEnds : Type 0
TablesNameTheirEnds = InScenes (λ play w. AllOf (TablesFit (WasMade AnyWord w.vats w.drawn)) w.connections)

-- ---- what is said in a frame

-- a gift that vat v provides
abbrev pub IsThird : ℕ → Name → Type 0
IsThird v n = (c i : ℕ) × (n ≡ Gift c (key v i))

-- A name that passes in a note from v to w is of one of the two, or is a gift that v provides: it may be told twice in one frame.
abbrev pub Passing : ℕ → ℕ → Bit Name → Type 0
Passing v w (Named n) = ((host_of n ≡ v) ⊎ (host_of n ≡ w)) ⊎ IsThird v n
Passing v w (Mail n) = Unit {0}
Passing v w (Drew i) = Unit {0}
Passing v w (At h) = Unit {0}
Passing v w (Off h) = Unit {0}
Passing v w (Entered n) = Unit {0}
Passing v w (Owns n i) = Unit {0}
Passing v w (Gave i) = Unit {0}

-- so of what passes in a note, which calls the answer that it asks for by its name
abbrev pub CarriesThirds : ℕ → ℕ → Note Name → Type 0
CarriesThirds v w (Deliver d n verb ys) = PassedsOk (Passing v w) ys × (d.answer ≡ answer_due w d.asks d.message)
CarriesThirds v w (SettledTo n y) = PassedOk (Passing v w) y
CarriesThirds v w (Open i n) = Unit {0}
CarriesThirds v w (Ask p i n) = Unit {0}
CarriesThirds v w (Elsewhere n c) = Unit {0}
CarriesThirds v w (Shorten n c i) = Unit {0}

-- A frame that the judge accepts, in any world that is reached, says a note whose names were made, once the record of its sender made those that are new; which is between its two vats; and in which pass names of the two, and gifts that the sender provides.
abbrev pub WhatIsSpokenIsBetween : Type 0
WhatIsSpokenIsBetween = (play : Play) (w : World) → IsReached play w → (h u : ℕ) (t : Vat Name) (n : Note Name) (o : Operation) (new : List Name) → IsHostile play h → IsSpoken play w h u t n o new
    → NoteOk (IsMade AnyWord (put_at h t w.vats) t.drawn) n × IsBetween h u n × CarriesThirds h u n

-- The record of the sender knows each name in what a frame says, but objects, and has had the message.
abbrev pub WhatIsSpokenIsKnown : Type 0
WhatIsSpokenIsKnown = (play : Play) (w : World) (h u : ℕ) (t : Vat Name) (n : Note Name) (o : Operation) (new : List Name) → IsSpoken play w h u t n o new → NoteOk (IsHad (names_in t.known) t.mails) n

-- So far lawful: each name in the note was made, but for gifts, and the record knows it; it goes to another vat, is between the two, and carries what it may.
abbrev pub IsLawful : World → ℕ → ℕ → Vat Name → Note Name → Operation → List Name → Type 0
IsLawful w v u t n o new = NoteOk (λ b. IsMade AnyWord (put_at v t w.vats) t.drawn b × IsHad (names_in t.known) t.mails b) n × (v ≡ u → ⊥) × IsBetween v u n × CarriesThirds v u n

-- Each scene of a run is reached by moves in which hostile vats say nothing but what is so.
abbrev pub RunsAreLawful : Type 0
RunsAreLawful = InScenes (λ play w. FramesReached play.script (IsHostile play) AnyNotice AnyDeed NothingSaid IsLawful w)

-- What a vat asked its peer for, by the tables of their connection, is what the notes ask for that it put on the link, in their order.
abbrev pub QuestionsAreAsLogged : Type 0
QuestionsAreAsLogged = InScenes (λ play w. (v u : ℕ) (l : Link) → link_at v u w.links ≡ Some l → (connected_at v u w.connections).tables.questions ≡ questions_in u l.log)

-- ---- the third alternative of what passes

-- an operation of vat 1 that tells vat 0 twice of one gift of vat 2
abbrev pub told_twice : Operation
told_twice = op.DeliverOnly (op.YourExport 0) [] (op.more (op.Third 2 5) (op.more (op.Third 2 5) op.none))

unfoldable pub arguments_of : Note Name → Passeds Name
arguments_of (Deliver d n verb ys) = ys
arguments_of (Open i n) = NoMore
arguments_of (Ask p i n) = NoMore
arguments_of (SettledTo n y) = NoMore
arguments_of (Elsewhere n c) = NoMore
arguments_of (Shorten n c i) = NoMore

-- what vat 0 has for vat 1, where its root alone was exported
abbrev pub a_connection : Connection Name
a_connection = record { exports = Root 0 ∷ []; imports = []; questions = []; answers = [] }

-- The first time it passes as a gift, and the second time as a plain name, of neither vat.
abbrev pub ThirdsAreNeeded : Type 0
ThirdsAreNeeded = (play : Play) (m : Name) → (x : Heard Name (Note (Incoming Name Name))) × (read_op play 1 0 a_connection [] m told_twice ≡ Some x)
    × (arguments_of (maps.note name_in x.read) ≡ More (AGift 2 (key 1 5)) (More (Plain (Ref (Gift 2 (key 1 5)))) NoMore))
