-- What holds of names in every world of every run.
use Rattle.std.specs.Prelude.{◌≡◌, ℕ, zero, ◌<◌, List, ◌∷◌, ◌++◌, Some, true, false, slice_get, codes}
use Rattle.def_machine.specs.Values.{Value, Broken, Ref, Name, Msg, Promise, Answer, Gift, Sent, Foreign, spot_of, NoObject, same_name}
use Rattle.def_machine.specs.State.{Vat, is_in}
use Rattle.def_machine.specs.Refs.{follow}
use Rattle.law_machine.specs.Machine.Breaks.{AtRest, settled_value}
use Rattle.law_machine.specs.Run.Runs.{EachVat}
use Rattle.def_run.specs.World.{Script, Program, Entry, World, Goes, begins, open_from, steps_from, names}
use Rattle.law_fate.specs.Name.Names.{AllOf, IsAmong, NoteOk, Everywhere, WasDrawn, IsMade, IsHad, names_in, HostIsTrue, IsEventual, IsMessageName, PlainOnce, Once}

-- No vat is told twice that it knows a vat, and none that it knows itself.
abbrev pub KnowsOnce : Script → Type 0
KnowsOnce script = (v : ℕ) (p : Program) → slice_get script.vats v ≡ Some p → Once (v ∷ p.knows)

-- It holds of the world after any of the opening turns, and after all of them and any entries.
abbrev pub InRuns : (World → Type 0) → Type 0
InRuns P = (script : Script) → KnowsOnce script
    → ((ps rest : List Program) (w : World) → script.vats ≡ ps ++ rest → open_from script zero ps (begins script) ≡ Goes w → P w)
    × ((w x : World) (es : List Entry) (k : ℕ) → open_from script zero script.vats (begins script) ≡ Goes w → steps_from script es k w ≡ Goes x → P x)

abbrev pub InEachVat : (World → ℕ → Vat Name → Type 0) → Type 0
InEachVat P = InRuns (λ w. (v : ℕ) (s : Vat Name) → slice_get w.vats v ≡ Some s → P w v s)

-- every name in what a vat has was made
abbrev pub NamesWereMade : Type 0
NamesWereMade = InEachVat (λ w v s. Everywhere (IsMade w.vats w.drawn) s)

-- and every name in a note under way
abbrev pub NotesNameWhatWasMade : Type 0
NotesNameWhatWasMade = InRuns (λ w. AllOf (λ l. AllOf (NoteOk (IsMade w.vats w.drawn)) l.notes) w.links)

-- every name in what a vat has is known to it or an object, and every message is one that it has had
abbrev pub NamesAreKnown : Type 0
NamesAreKnown = InEachVat (λ w v s. Everywhere (IsHad (names_in s.known) s.mails) s)

-- the vat that tells of a name is its host
abbrev pub HostsAreTrue : Type 0
HostsAreTrue = InEachVat (λ w v s. AllOf HostIsTrue s.known)

-- no root and no promise is known twice to a vat
abbrev pub RootsAndPromisesAreKnownOnce : Type 0
RootsAndPromisesAreKnownOnce = InEachVat (λ w v s. PlainOnce (names_in s.known))

-- a vat knows each promise that it has made
abbrev pub OwnPromisesAreKnown : Type 0
OwnPromisesAreKnown = InEachVat (λ w v s. (i : ℕ) → i < s.promises → IsAmong (Promise v i) (names_in s.known))

-- The next promise of a vat, each answer of its next message, and each gift under a word that was not drawn are known to no vat.
abbrev pub NextNamesAreNew : Type 0
NextNamesAreNew = InEachVat (λ w v s. (u : ℕ) (t : Vat Name) → slice_get w.vats u ≡ Some t →
    (IsAmong (Promise v s.promises) (names_in t.known) → ⊥)
    × ((h : ℕ) → IsAmong (Answer h (record { sender = v; number = s.messages })) (names_in t.known) → ⊥)
    × ((h i : ℕ) → (WasDrawn w.drawn i → ⊥) → IsAmong (Gift h i) (names_in t.known) → ⊥))

-- what a vat knows are roots, promises, answers and gifts, and what it has had are messages
abbrev pub NamesAndMessagesAreApart : Type 0
NamesAndMessagesAreApart = InEachVat (λ w v s. AllOf IsEventual (names_in s.known) × AllOf IsMessageName s.mails)

-- What the table of a vat has for a promise is no object, what it has for a message is a message, and no name is both: the premises of the naming theorem on them, but that no promise is there twice.
abbrev pub TablesAreApart : Type 0
TablesAreApart = InEachVat (λ w v s. ((k : ℕ) (n : Name) → slice_get (names_in s.known) k ≡ Some n → spot_of v n ≡ NoObject)
    × ((k : ℕ) (n : Name) → slice_get s.mails k ≡ Some n → (m : Msg) × (n ≡ Sent m))
    × ((i j : ℕ) (a b : Name) → slice_get (names_in s.known) i ≡ Some a → slice_get s.mails j ≡ Some b → (same_name a b ≡ false) × (same_name b a ≡ false)))

-- From any world of a run on: what settlings led, at a vat, to an object of a vat whose cut it noticed is followed there to broken partition.
abbrev pub SeveredObjectsStayBroken : Type 0
SeveredObjectsStayBroken = (script : Script) → KnowsOnce script → (w y x : World) (es fs : List Entry) (k l : ℕ) → open_from script zero script.vats (begins script) ≡ Goes w → steps_from script es k w ≡ Goes y → steps_from script fs l y ≡ Goes x
    → EachVat (λ v s t. (z : Value Name) (m : Name) (h : ℕ) → settled_value (names script v) s z ≡ Ref m → spot_of v m ≡ Foreign h → is_in h s.noticed ≡ true → follow (names script v) t z ≡ Broken (codes "partition")) y x

-- And what a vat at rest followed to a broken reference is followed to it.
abbrev pub FollowedBreaksStayBroken : Type 0
FollowedBreaksStayBroken = (script : Script) → KnowsOnce script → (w y x : World) (es fs : List Entry) (k l : ℕ) → open_from script zero script.vats (begins script) ≡ Goes w → steps_from script es k w ≡ Goes y → steps_from script fs l y ≡ Goes x
    → EachVat (λ v s t. AtRest (names script v) s → (z : Value Name) (p : List ℕ) → follow (names script v) s z ≡ Broken p → follow (names script v) t z ≡ Broken p) y x
