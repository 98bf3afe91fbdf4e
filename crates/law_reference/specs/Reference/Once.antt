-- In every run a message comes before its answer, goes on before its next answer is known, and each answer is known once.
use Rattle.std.specs.Prelude.{◌≡◌, ℕ, ◌≤◌, Some, slice_get}
use Rattle.def_machine.specs.Values.{Name, Answer, Sent, Msg}
use Rattle.def_machine.specs.State.{Vat}
use Rattle.def_run.specs.World.{Link, link_at}
use Rattle.law_fate.specs.Fates.Fate.{on_link}
use Rattle.law_fate.specs.Fates.Carry.{held_at, link_weight}
use Rattle.law_fate.specs.Name.Names.{IsAmong, names_in}
use Rattle.law_fate.specs.Name.Runs.{InRuns, InEachVat}

-- Where a vat knows the answer that a message has at it, no link to it bears the message.
abbrev pub MessagesComeBeforeAnswers : Type 0
MessagesComeBeforeAnswers = InRuns (λ w. (a g : ℕ) (m : Msg) (r : Vat Name) (l : Link) → slice_get w.vats g ≡ Some r → link_at a g w.links ≡ Some l → IsAmong (Answer g m) (names_in r.known) → on_link (Sent m) l ≤ 0)

-- Where any vat knows the answer that a message has at g, no name of another vat holds the message, and a link to another vat bears it on an object at most, so that it weighs one.
abbrev pub MessagesGoOnBeforeAnswers : Type 0
MessagesGoOnBeforeAnswers = InRuns (λ w. (h g z : ℕ) (m : Msg) (r : Vat Name) → (g ≡ h → ⊥) → slice_get w.vats z ≡ Some r → IsAmong (Answer g m) (names_in r.known)
    → ((q : Vat Name) → slice_get w.vats h ≡ Some q → held_at (Sent m) q.known ≤ 0) × ((a : ℕ) (l : Link) → link_at a h w.links ≡ Some l → link_weight (Sent m) l ≤ 1))

-- Each vat knows each answer once.
abbrev pub AnswersAreKnownOnce : Type 0
AnswersAreKnownOnce = InEachVat (λ w v s. (g : ℕ) (m : Msg) (i j : ℕ) → slice_get (names_in s.known) i ≡ Some (Answer g m) → slice_get (names_in s.known) j ≡ Some (Answer g m) → i ≡ j)
