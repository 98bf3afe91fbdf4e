-- A program has one reading.
use Rattle.std.proofs.Common.{◌≡◌, ◌⊎◌, inl, inr, ℕ, List, Result, Ok, Err, refl, sym}
use Rattle.ev_reader.specs.declared.accepted.Scoped.{Scoped}
use Rattle.ev_reader.specs.Program.{Answers}
use Rattle.ev_reader.specs.declared.fault.ProgramFault.{ProgramFault}
use Rattle.ev_reader.specs.declared.fault.ProgramFault.TheVariants.{At, Memory}
use Rattle.ev_reader.specs.declared.fault.Stage.{Stage as Part}
use Rattle.law_reading.specs.Reading.Laws.{Agree}
use Rattle.law_reading.proofs.Reading.Readings.{answers_agree}

-- where a program is read to a fault, it is read to that fault alone
pub fault_once : (part : Part) (kind place : ℕ) (text : List ℕ) (given : List (List ℕ)) (answer : Result Scoped ProgramFault) → Answers (Err (At part kind place)) text given
    → Answers answer text given → (answer ≡ Err Memory) ⊎ (answer ≡ Err (At part kind place))
fault_once part kind place text given answer fault a = by answer (answers_agree text given (Err (At part kind place)) answer fault a)
  where
    by : (r : Result Scoped ProgramFault) → Agree (Err (At part kind place)) r → (r ≡ Err Memory) ⊎ (r ≡ Err (At part kind place))
    by (Ok scoped) h = absurd h
    by (Err Memory) h = inl refl
    by (Err (At p k q)) h = inr (rw (h.0, h.1, h.2) refl)

-- where it is read to a tree, it is read to that tree alone
abbrev pub IsTree : Scoped → Result Scoped ProgramFault → Type 0
IsTree scoped (Ok other) = other.tree ≡ scoped.tree
IsTree scoped (Err Memory) = Unit {0}
IsTree scoped (Err (At part kind place)) = ⊥

pub tree_once : (scoped : Scoped) (text : List ℕ) (given : List (List ℕ)) (answer : Result Scoped ProgramFault) → Answers (Ok scoped) text given
    → Answers answer text given → IsTree scoped answer
tree_once scoped text given answer tree a = by answer (answers_agree text given (Ok scoped) answer tree a)
  where
    by : (r : Result Scoped ProgramFault) → Agree (Ok scoped) r → IsTree scoped r
    by (Ok other) h = sym h.0
    by (Err Memory) h = tt
    by (Err (At p k q)) h = absurd h
