-- What the line of a new message says of its answer.
use Rattle.std.specs.Prelude.{◌≡◌, ℕ, true, List, [], ◌∷◌, Some}
use Rattle.def_machine.specs.Values.{Name, host_of, answer_of}
use Rattle.def_machine.specs.State.{Message, Note, Deliver, Open, Ask, SettledTo, Elsewhere, Shorten, Happened, Sends, Reacts}
use Rattle.law_fate.specs.Name.Names.{IsAmong, IsMessageName}

-- A message is named as one and is among the messages that the vat has had. Its answer, if it has one, is the answer of that message at its own host, and is known.
abbrev pub MessageFits : List Name → List Name → Message Name → Type 0
MessageFits ns ms m = IsMessageName m.id × IsAmong m.id ms × ((n : Name) → m.answer ≡ Some n → (n ≡ answer_of (host_of n) m.id) × IsAmong n ns)

-- so is the message of a line of a send or of a reaction
abbrev pub LineFits : List Name → List Name → Happened Name → Type 0
LineFits ns ms (Sends act m) = MessageFits ns ms m
LineFits ns ms (Reacts act x o m) = MessageFits ns ms m
LineFits ns ms _ = Unit {0}

-- such a line has that answer
abbrev pub AnswersIn : Happened Name → Name → Type 0
AnswersIn (Sends act m) n = m.answer ≡ Some n
AnswersIn (Reacts act x o m) n = m.answer ≡ Some n
AnswersIn _ n = ⊥

-- what a note asks of vat v as the answer of its message
abbrev pub DueIn : ℕ → Note Name → Name → Type 0
DueIn v (Deliver d n verb ys) x = (d.asks ≡ true) × (answer_of v d.message ≡ x)
DueIn v _ x = ⊥

-- the message that a note carries
unfoldable pub carried_in : Note Name → List Name
carried_in (Deliver d n verb ys) = d.message ∷ []
carried_in (Open i n) = []
carried_in (Ask p i n) = []
carried_in (SettledTo n y) = []
carried_in (Elsewhere n c) = []
carried_in (Shorten n c i) = []

-- opens the definitions of this file
unfoldable pub opened_lines : Unit {0}
unfolding carried_in
opened_lines = tt
