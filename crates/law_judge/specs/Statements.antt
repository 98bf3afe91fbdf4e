-- What is said of lawful frames.
use Rattle.std.specs.Prelude.{◌≡◌, ℕ, ◌<◌, Bool, List, [], ◌++◌, length, map, Some, All}
use Rattle.def_op.specs.Frames.{Operation, IsOp, spelling}
use Rattle.def_machine.specs.Values.{Name, Local}
use Rattle.def_machine.specs.State.{Note}
use Rattle.def_machine.specs.Arrive.{Incoming}
use Rattle.def_run.specs.Connections.{Connection, Heard}
use Rattle.def_run.specs.Vats as vats
use Rattle.def_run.specs.Vats.{Member, connection_for, heard_in}
use Rattle.def_run.specs.Wire.{is_object}
use Rattle.def_hostile.specs.Judge.{Counts, Lawful, verdict}
use Rattle.def_hostile.specs.Hostile.{Play, counts, new_names, read_op}
use Rattle.law_judge.specs.Points.{in_operation}
use Rattle.law_judge.specs.OwnNumbers.{own_numbers, StandsThere}

abbrev pub AreBytes : List ℕ → Type 0
AreBytes = All (λ b. b < 256)

-- Lawful bytes are the one spelling of their operation, and nothing follows it.
abbrev pub LawfulIsSpelled : Type 0
LawfulIsSpelled = (vats me peer : ℕ) (c : Counts) (bytes : List ℕ) (op : Operation) (new : List Bool) → AreBytes bytes
    → verdict vats me peer c bytes ≡ Lawful op new → IsOp op × (bytes ≡ spelling op)

-- A lawful operation says only what it may, and those are its new positions.
abbrev pub LawfulMeetsThePoints : Type 0
LawfulMeetsThePoints = (vats me peer : ℕ) (c : Counts) (bytes : List ℕ) (op : Operation) (new : List Bool) → AreBytes bytes
    → verdict vats me peer c bytes ≡ Lawful op new → in_operation vats me peer c op [] ≡ Some new

-- Under each number of the receiver's own in a lawful operation something stands.
abbrev pub LawfulNumbersStandThere : Type 0
LawfulNumbersStandThere = (vats me peer : ℕ) (c : Counts) (bytes : List ℕ) (op : Operation) (new : List Bool) → AreBytes bytes
    → verdict vats me peer c bytes ≡ Lawful op new → All (StandsThere c) (own_numbers op)

-- An operation that says what it may is lawful in its one spelling.
abbrev pub MeetingIsLawful : Type 0
MeetingIsLawful = (vats me peer : ℕ) (c : Counts) (op : Operation) (new : List Bool) → IsOp op
    → in_operation vats me peer c op [] ≡ Some new → verdict vats me peer c (spelling op) ≡ Lawful op new

-- A lawful frame of vat h is heard at vat u, whatever its new names are called by the records of h, and it brings the new positions that it says.
abbrev pub LawfulIsHeard : Type 0
LawfulIsHeard = (play : Play) (h u vats : ℕ) (c : Connection Name) (bytes : List ℕ) (op : Operation) (new : List Bool) (objects promises : ℕ) (m : Name) → AreBytes bytes
    → verdict vats u h (counts c) bytes ≡ Lawful op new
    → (x : Heard Name (Note (Incoming Name Name))) × (read_op play h u c (new_names h objects promises new) m op ≡ Some x) × (map is_object x.after.imports ≡ map is_object c.imports ++ new)

-- what a vat has in numbers of its own for a peer
abbrev pub counts_in : Connection Local → Counts
counts_in c = record { exports = length c.exports; answers = length c.answers; questions = length c.questions; imports = map vats.is_object c.imports }

-- The same at a vat that works in numbers of its own.
abbrev pub LawfulIsHeardInNumbers : Type 0
LawfulIsHeardInNumbers = (peer count : ℕ) (s : Member) (bytes : List ℕ) (op : Operation) (new : List Bool) → AreBytes bytes
    → verdict count s.vat.number peer (counts_in (connection_for peer s)) bytes ≡ Lawful op new
    → (x : Heard Local (Note (Incoming Local Local))) × (heard_in peer op s ≡ Some x) × (map vats.is_object x.after.imports ≡ map vats.is_object (connection_for peer s).imports ++ new)
