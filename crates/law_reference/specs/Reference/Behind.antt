-- In every run an answer that a vat knows is known to its host, or its message is on the way there in front of it.
use Rattle.std.specs.Prelude.{◌≡◌, ℕ, true, List, [], ◌∷◌, ◌⊎◌, Some, slice_get}
use Rattle.def_machine.specs.Values.{Name, Answer, Sent, Msg}
use Rattle.def_machine.specs.State.{Note, Deliver, Open, Ask, SettledTo, Elsewhere, Shorten, Vat}
use Rattle.def_run.specs.World.{Link, link_at}
use Rattle.law_fate.specs.Name.Names.{Bit, Named, Mail, Drew, At, Off, Entered, Owns, Gave, AllOf, IsAmong, IsKnownIn, NoteOk, names_in}
use Rattle.law_fate.specs.Name.Runs.{InRuns}

-- it is another name
abbrev pub Avoids : Name → Bit Name → Type 0
Avoids x (Named n) = n ≡ x → ⊥
Avoids x (Mail n) = Unit {0}
Avoids x (Drew i) = Unit {0}
Avoids x (At h) = Unit {0}
Avoids x (Off h) = Unit {0}
Avoids x (Entered y) = Unit {0}
Avoids x (Owns y j) = Unit {0}
Avoids x (Gave j) = Unit {0}

-- a note names x nowhere
abbrev pub NamesNot : Name → Note Name → Type 0
NamesNot x n = NoteOk (Avoids x) n

-- the note of a message that asks for an answer, which does not name x
abbrev pub Bears : Msg → Name → Note Name → Type 0
Bears m x (Deliver d n verb ys) = (d.message ≡ Sent m) × (d.asks ≡ true) × NamesNot x (Deliver d n verb ys)
Bears m x (Open i n) = ⊥
Bears m x (Ask p i n) = ⊥
Bears m x (SettledTo n y) = ⊥
Bears m x (Elsewhere n c) = ⊥
Bears m x (Shorten n c i) = ⊥

-- the message is among these notes, and neither its own note nor any in front of it names x
abbrev pub ComesFirst : Msg → Name → List (Note Name) → Type 0
ComesFirst m x [] = ⊥
ComesFirst m x (n ∷ ns) = Bears m x n ⊎ (NamesNot x n × ComesFirst m x ns)

-- What vat u knows as the answer of a message at another vat, that vat knows; or the link to it is cut; or the message is under way there, in front of all that names the answer.
abbrev pub AnswersFollowMessages : Type 0
AnswersFollowMessages = InRuns (λ w. (u g : ℕ) (m : Msg) (s t : Vat Name) (l : Link) → slice_get w.vats u ≡ Some s → slice_get w.vats g ≡ Some t → link_at u g w.links ≡ Some l
    → IsAmong (Answer g m) (names_in s.known) → IsAmong (Answer g m) (names_in t.known) ⊎ ((l.cut ≡ true) ⊎ ComesFirst m (Answer g m) l.notes))

-- a name is known to that vat, or is an object
abbrev pub IsKnownTo : Vat Name → Bit Name → Type 0
IsKnownTo s (Named n) = IsKnownIn (names_in s.known) n
IsKnownTo s (Mail n) = Unit {0}
IsKnownTo s (Drew i) = Unit {0}
IsKnownTo s (At h) = Unit {0}
IsKnownTo s (Off h) = Unit {0}
IsKnownTo s (Entered y) = Unit {0}
IsKnownTo s (Owns y j) = Unit {0}
IsKnownTo s (Gave j) = Unit {0}

-- Each name in a note under way is known to the vat that put it, or is an object.
abbrev pub NotesNameWhatIsKnown : Type 0
NotesNameWhatIsKnown = InRuns (λ w. (u g : ℕ) (s : Vat Name) (l : Link) → slice_get w.vats u ≡ Some s → link_at u g w.links ≡ Some l → AllOf (NoteOk (IsKnownTo s)) l.notes)
