-- What is due for a question on an input.
use Rattle.std.specs.Prelude.{◌≡◌, ℕ, nat_lt, if◌then◌else◌, List, [], ◌++◌, length, codes, decimal, Some, None, Result, Ok, Err, string_bytes}
use Rattle.std.specs.declared.option.Option.{Option}
use Rattle.ev_text.specs.Lines.{text_of}
use Rattle.def_vats.specs.Reading.{told}
use Rattle.def_vats.specs.declared.told.Told.{Told}
use Rattle.ev_make_json.specs.Data.{written}
use Rattle.ev_make_top.specs.declared.answer.TheConstants.{HELP, VERSION, USAGE, NO_TEXT, TOO_LONG}
use Rattle.ev_make_top.specs.declared.answer.Answer.{Answer}
use Rattle.ev_make_top.specs.declared.question.Question.{Question}
use Rattle.ev_make_top.specs.declared.question.Question.TheVariants.{Help, Version, Script}
use Rattle.ev_make_top.specs.declared.status.MakeStatus.{MakeStatus}
use Rattle.ev_make_top.specs.declared.status.MakeStatus.TheVariants.{Done, Usage, TooLong, Refused}

-- how the program ends, and what it writes to standard output and standard error
pub record Debt : Type 0 where
  pub status : MakeStatus
  pub out : List ℕ
  pub err : List ℕ

abbrev pub debt_of : Answer → Debt
debt_of answer = record { status = answer.status; out = string_bytes answer.out; err = string_bytes answer.err }

abbrev pub IsFor : Answer → Debt → Type 0
IsFor answer debt = debt_of answer ≡ debt

-- the most bytes that are read
abbrev pub most_bytes : ℕ
most_bytes = 1048576

abbrev pub too_long : Debt
too_long = record { status = TooLong; out = []; err = TOO_LONG.now }

-- the words for a head that says nothing, by the number of its line
abbrev pub head_text : ℕ → List ℕ
head_text line = codes "evat_make: line " ++ decimal line ++ codes ": no such head; evat_make --help lists them\n"

-- by what a text says
abbrev pub told_due : Result Told ℕ → Debt
told_due (Ok t) = record { status = Done; out = written t; err = [] }
told_due (Err line) = record { status = Refused; out = []; err = head_text line }

unfoldable pub text_due : List ℕ → Debt
text_due text = told_due (told text)

abbrev pub bytes_due : Option (List ℕ) → Debt
bytes_due None = record { status = Refused; out = []; err = NO_TEXT.now }
bytes_due (Some text) = text_due text

-- of bytes whose script is asked for: the script, or why they say none
unfoldable pub script_due : List ℕ → Debt
script_due bytes = bytes_due (text_of bytes)

abbrev pub script_asked : List ℕ → Debt
script_asked input = if nat_lt most_bytes (length input) then too_long else script_due input

-- where no input is asked for
unfoldable pub fixed : Question → Debt
fixed Help = record { status = Done; out = HELP.now; err = [] }
fixed Version = record { status = Done; out = VERSION.now; err = [] }
fixed _ = record { status = Usage; out = []; err = USAGE.now }

unfoldable pub due : Question → List ℕ → Debt
due Script input = script_asked input
due other input = fixed other
