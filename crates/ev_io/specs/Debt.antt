-- What a call owes, whatever its words.
use Rattle.std.specs.Prelude.{◌≡◌, ℕ, List, ◌∷◌, ◌++◌, codes, decimal}
use Rattle.ev_io.specs.Words.{line}
use Rattle.ev_io.specs.declared.status.Refusal.{Refusal}
use Rattle.ev_io.specs.declared.status.Status.{Status}
use Rattle.ev_io.specs.declared.status.Status.TheVariants.{Usage, TooLong, ScriptRefused, ProgramRefused}

-- a status and its text
pub record Debt : Type 0 where
  pub status : Status
  pub text : List ℕ

-- the most bytes that are read
abbrev pub most_bytes : ℕ
most_bytes = 1048576

abbrev pub usage : Debt
usage = record { status = Usage; text = line (codes "refused usage") }

abbrev pub too_long : Debt
too_long = record { status = TooLong; text = line (codes "refused long") }

-- bytes that break the rule of this number
abbrev pub bytes_refused : ℕ → Debt
bytes_refused rule = record { status = ScriptRefused rule; text = line (codes "refused script " ++ decimal rule) }

-- a program that goes by this name, with the words for why
abbrev pub program_refused : List ℕ → Refusal → List ℕ → Debt
program_refused name refusal why = record { status = ProgramRefused refusal; text = line (codes "refused program " ++ name ++ 32 ∷ why) }

-- a status and a text are what is due
abbrev pub IsFor : Status → List ℕ → Debt → Type 0
IsFor status text debt = (status ≡ debt.status) × (text ≡ debt.text)
