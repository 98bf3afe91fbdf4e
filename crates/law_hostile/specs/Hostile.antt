-- What a hostile vat may say, and what holds of each world that is reached with hostile vats.
use Rattle.std.specs.Prelude.{◌≡◌, ℕ, ◌<◌, true, List, [], ◌∷◌, ◌⊎◌, Some, slice_get, length}
use Rattle.def_machine.specs.Values.{Name, Root, Answer, Sent, Msg, host_of}
use Rattle.def_machine.specs.State.{Note, Deliver, NoMore, Vat, is_in, Gives}
use Rattle.def_run.specs.World.{Script, Link, World, put_at, link_at, names, readied}
use Rattle.law_fate.specs.Name.Names.{Bit, Named, Mail, Drew, At, Off, Entered, Owns, Gave, AllOf, IsAmong, IsMade, IsHad, NoteOk, GoesOk, Everywhere, names_in}
use Rattle.law_fate.specs.Name.Runs.{KnowsOnce}
use Rattle.law_fate.specs.Name.Runs as old_names
use Rattle.law_reference.specs.Reference.Notes as old_notes
use Rattle.law_reference.specs.Reference.Notes.{IsBetween, LinkFits, Carries, LinkCarries}
use Rattle.law_reference.specs.Reference.Views.{ViewsWait}
use Rattle.law_reference.specs.Reference.Own.{Own}
use Rattle.law_reference.specs.Reference.Behind.{Bears, ComesFirst}
use Rattle.law_machine.specs.Machine.Laws.{SettledStays, NoticedStays}
use Rattle.law_machine.specs.Run.Runs.{EachVat}
use Rattle.law_machine.specs.Run.Moves.{Deed, NewObject, NewPromise, NewMessage, NewLone, Learns, Reached, AnyNotice, perform}
use Rattle.law_adversary.specs.Moves.{FrameMove, FramesReached}

-- its host, or the vat, is one of so many
abbrev pub IsBelow : ℕ → Bit Name → Type 0
IsBelow count (Named n) = host_of n < count
IsBelow count (Mail n) = Unit {0}
IsBelow count (Drew i) = Unit {0}
IsBelow count (At h) = h < count
IsBelow count (Off h) = h < count
IsBelow count (Entered n) = host_of n < count
IsBelow count (Owns n i) = host_of n < count
IsBelow count (Gave i) = Unit {0}

-- another vat is not the vat itself
abbrev pub IsOther : ℕ → Bit Name → Type 0
IsOther v (Off h) = v ≡ h → ⊥
IsOther v (Named n) = Unit {0}
IsOther v (Mail n) = Unit {0}
IsOther v (Drew i) = Unit {0}
IsOther v (At h) = Unit {0}
IsOther v (Entered n) = Unit {0}
IsOther v (Owns n i) = Unit {0}
IsOther v (Gave i) = Unit {0}

module _ (script : Script) (w : World) (v : ℕ) where
  -- a name that was made, in the world or by the deeds so far
  abbrev pub IsMadeBy : Vat Name → Bit Name → Type 0
  IsMadeBy s b = IsMade (put_at v s w.vats) s.drawn b

  -- what the record of a hostile vat may do, being s
  abbrev pub May : Vat Name → Deed → Type 0
  May s NewObject = Unit {0}
  May s NewPromise = Unit {0}
  May s (NewMessage h) = h < length script.vats
  May s NewLone = Unit {0}
  May s (Learns n) = IsMadeBy s (Named n) × (host_of n < length script.vats)

  -- Of each name in the note: it was made, the record knows it, and its host is a vat of the script. And it is a note between v and u, which calls the answer that it asks for by its name: nobody reads that.
  abbrev pub Lawful : ℕ → Vat Name → Note Name → Type 0
  Lawful u s n = NoteOk (λ b. IsMadeBy s b × IsHad (names_in s.known) s.mails b × IsOther v b × IsBelow (length script.vats) b) n
      × GoesOk (λ b. IsMadeBy s b × IsHad (names_in s.known) s.mails b × IsOther v b × IsBelow (length script.vats) b) u n
      × IsBetween v u n × Carries v u n

abbrev pub IsHostile : List ℕ → ℕ → Type 0
IsHostile hs v = is_in v hs ≡ true

-- reached where those vats are hostile
abbrev pub IsReached : Script → List ℕ → World → Type 0
IsReached script hs = FramesReached script (IsHostile hs) AnyNotice (λ w v s d. May script w v s d) (λ w v u s n. Lawful script w v u s n) (λ w v u s n op new. Lawful script w v u s n)

-- It holds of each world that is reached, whichever vats are hostile.
abbrev pub InReached : (World → Type 0) → Type 0
InReached P = (script : Script) → KnowsOnce script → (hs : List ℕ) (w : World) → IsReached script hs w → P w

-- every name in what a vat has is known to it or an object, and every message is one that it has had
abbrev pub NamesAreKnown : Type 0
NamesAreKnown = InReached (λ w. (v : ℕ) (s : Vat Name) → slice_get w.vats v ≡ Some s → Everywhere (IsHad (names_in s.known) s.mails) s)

-- each note is about a name of one of the two vats of its link
abbrev pub NotesNameTheirEnds : Type 0
NotesNameTheirEnds = InReached (λ w. AllOf LinkFits w.links)

-- each name that passes in a note, and not as a gift, is of one of the two vats of its link, and the answer that a note asks for is called by its name
abbrev pub NotesCarryTheirEnds : Type 0
NotesCarryTheirEnds = InReached (λ w. AllOf LinkCarries w.links)

-- every name in a note under way was made
abbrev pub NotesNameWhatWasMade : Type 0
NotesNameWhatWasMade = InReached (λ w. AllOf (λ l. AllOf (NoteOk (IsMade w.vats w.drawn)) l.notes) w.links)

-- a message of vat 1 to the root of vat 0
abbrev pub a_note : Note Name
a_note = Deliver (record { message = Sent (record { sender = 1; number = 0 }); asks = true; answer = Some (Answer 0 (record { sender = 1; number = 0 })) }) (Root 0) [] NoMore

-- Of two vats that know each other the second, being hostile, may say that to the first at the start.
abbrev pub HostileVatsSpeak : Type 0
HostileVatsSpeak = (key : List ℕ) (fuel depth : ℕ) (a b : List ℕ) → let script : Script = record { key = key; fuel = fuel; depth = depth; vats = record { name = a; knows = 1 ∷ []; tree = [] } ∷ record { name = b; knows = 0 ∷ []; tree = [] } ∷ []; schedule = [] } in
    (w : World) × IsReached script (1 ∷ []) w × (l : Link) × (link_at 1 0 w.links ≡ Some l) × (l.notes ≡ a_note ∷ [])

-- a world of a run of a script, without hostile vats
abbrev pub RunsAreReached : Type 0
RunsAreReached = (script : Script) (w : World) → Reached script (λ v. ⊥) AnyNotice (λ w v s d. ⊥) (λ w v u s n. ⊥) w → IsReached script [] w

-- ---- from one world to another

module _ (script : Script) (hs : List ℕ) where
  -- by such moves, the last first
  abbrev pub Leads : World → List World → World → Type 0
  Leads w [] x = w ≡ x
  Leads w (y ∷ ys) x = FrameMove script (IsHostile hs) AnyNotice (λ w v s d. May script w v s d) (λ w v u s n. Lawful script w v u s n) (λ w v u s n op new. Lawful script w v u s n) y x × Leads w ys y

-- R leads from each vat of a world to the same vat after any moves, whichever vats are hostile
abbrev pub KeptByMoves : (Script → ℕ → Vat Name → Vat Name → Type 0) → Type 0
KeptByMoves R = (script : Script) (hs : List ℕ) (w x : World) (ys : List World) → Leads script hs w ys x → EachVat (R script) w x

-- a name that settled at a vat stays settled there to the same value
abbrev pub SettlingsStay : Type 0
SettlingsStay = KeptByMoves (λ script v. SettledStays (names script v))

-- a vat whose cut was noticed stays so
abbrev pub NoticesStay : Type 0
NoticesStay = KeptByMoves (λ script v. NoticedStays)

-- each name that is viewed waits on its view, which is known later than it and did not settle
abbrev pub ViewsWaitInReached : Type 0
ViewsWaitInReached = (script : Script) → KnowsOnce script → (hs : List ℕ) (w : World) → IsReached script hs w → (v : ℕ) (s : Vat Name) → slice_get w.vats v ≡ Some s → ViewsWait (names script v) s.known

-- what a vat has is its own
abbrev pub WhatAVatHasIsItsOwn : Type 0
WhatAVatHasIsItsOwn = InReached (λ w. (v : ℕ) (s : Vat Name) → slice_get w.vats v ≡ Some s → Own v s)

-- the laws of runs of scripts, which follow
abbrev pub RunsKnowNames : Type 0
RunsKnowNames = old_names.NamesAreKnown

abbrev pub RunsNameTheirEnds : Type 0
RunsNameTheirEnds = old_notes.NotesNameTheirEnds

-- ---- answers

-- What the record knows as the answer of a message at another vat it knew before, or the note is that message, which does not name it; or the other vat knows it.
abbrev pub AnswersFirst : World → ℕ → ℕ → Vat Name → Note Name → Type 0
AnswersFirst w v u t n = (s : Vat Name) → slice_get w.vats v ≡ Some s → (g : ℕ) (m : Msg) → (g ≡ v → ⊥) → IsAmong (Answer g m) (names_in t.known)
    → (IsAmong (Answer g m) (names_in s.known) ⊎ ((u ≡ g) × Bears m (Answer g m) n)) ⊎ ((q : Vat Name) → slice_get w.vats g ≡ Some q → IsAmong (Answer g m) (names_in q.known))

-- reached where those vats are hostile, and name answers so
abbrev pub IsReachedInOrder : Script → List ℕ → World → Type 0
IsReachedInOrder script hs = FramesReached script (IsHostile hs) AnyNotice (λ w v s d. May script w v s d) (λ w v u s n. Lawful script w v u s n × AnswersFirst w v u s n) (λ w v u s n op new. Lawful script w v u s n × AnswersFirst w v u s n)

-- What vat u knows as the answer of a message at another vat, that vat knows; or the link to it is cut; or the message is under way there, in front of all that names the answer.
abbrev pub AnswersFollowMessages : Type 0
AnswersFollowMessages = (script : Script) → KnowsOnce script → (hs : List ℕ) (w : World) → IsReachedInOrder script hs w → (u g : ℕ) (m : Msg) (s t : Vat Name) (l : Link) → slice_get w.vats u ≡ Some s → slice_get w.vats g ≡ Some t → link_at u g w.links ≡ Some l
    → IsAmong (Answer g m) (names_in s.known) → IsAmong (Answer g m) (names_in t.known) ⊎ ((l.cut ≡ true) ⊎ ComesFirst m (Answer g m) l.notes)

-- ---- how a hostile vat comes by answers

-- A name that is learnt is known to its host; and a message is made to be said, to the vat that hosts its answer, and its note does not name the answer.
abbrev pub IsStrict : World → ℕ → ℕ → Note Name → Vat Name → Deed → Type 0
IsStrict w v u n a NewObject = Unit {0}
IsStrict w v u n a NewPromise = Unit {0}
IsStrict w v u n a NewLone = Unit {0}
IsStrict w v u n a (NewMessage h) = (u ≡ h) × Bears (record { sender = v; number = a.messages }) (Answer h (record { sender = v; number = a.messages })) n
IsStrict w v u n a (Learns x) = (q : Vat Name) → slice_get w.vats (host_of x) ≡ Some q → IsAmong x (names_in q.known)

-- one deed after another, each of them so
abbrev pub PerformsStrictly : Script → World → ℕ → ℕ → Note Name → List Deed → Vat Name → Vat Name → Type 0
PerformsStrictly script w v u n [] s t = s ≡ t
PerformsStrictly script w v u n (d ∷ ds) s t = (r : Vat Name) × IsStrict w v u n s d × (perform script v d s ≡ Gives tt r) × PerformsStrictly script w v u n ds r t

-- Then what the record knows of answers is as it may be.
abbrev pub StrictDeedsKeepOrder : Type 0
StrictDeedsKeepOrder = (script : Script) (w : World) (v u : ℕ) (s t : Vat Name) (ds : List Deed) (n : Note Name) → slice_get w.vats v ≡ Some s → PerformsStrictly script w v u n ds (readied w s) t → AnswersFirst w v u t n
