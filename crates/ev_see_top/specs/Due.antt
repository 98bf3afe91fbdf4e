-- What is due for a question on an input.
use Rattle.std.specs.Prelude.{◌≡◌, ℕ, nat_lt, Bool, true, false, if◌then◌else◌, List, [], length, map, is_ok, Option, Some, None, unwrap_or, string_bytes, Result, Ok, Err}
use Rattle.def_see.specs.Lines.{placed}
use Rattle.def_see.specs.declared.line.Line.{Line}
use Rattle.def_see.specs.Table.{messages_text}
use Rattle.def_draw.specs.Diagram.{diagram}
use Rattle.ev_text.specs.Lines.{lines, text_of}
use Rattle.ev_trace_words.specs.Words.{words_of}
use Rattle.ev_trace.specs.Reading.{read}
use Rattle.ev_see_faults.specs.Faults.{explained}
use Rattle.def_event.specs.declared.trace.Trace.{Trace}
use Rattle.ev_see_verdicts.specs.declared.verdicts.Verdicts.{Verdicts}
use Rattle.ev_see_verdicts.specs.Judged.{Judges, all_yes}
use Rattle.ev_see_verdicts.specs.Told.{told_text}
use Rattle.ev_see_top.specs.declared.answer.TheConstants.{HELP, VERSION, USAGE, TOO_LONG}
use Rattle.ev_see_top.specs.declared.answer.Answer.{Answer}
use Rattle.ev_see_top.specs.declared.question.Question.{Question}
use Rattle.ev_see_top.specs.declared.question.Question.TheVariants.{Help, Version, Messages, Draw, Why, Strict}
use Rattle.ev_see_top.specs.declared.status.SeeStatus.{SeeStatus}
use Rattle.ev_see_top.specs.declared.status.SeeStatus.TheVariants.{Done, Refused, Usage, TooLong, NoHistory}

-- how the program ends, and what it writes to standard output and standard error
pub record Debt : Type 0 where
  pub status : SeeStatus
  pub out : List ℕ
  pub err : List ℕ

abbrev pub debt_of : Answer → Debt
debt_of answer = record { status = answer.status; out = string_bytes answer.out; err = string_bytes answer.err }

abbrev pub IsFor : Answer → Debt → Type 0
IsFor answer debt = debt_of answer ≡ debt

-- the most bytes that are read
abbrev pub most_bytes : ℕ
most_bytes = 16777216

abbrev pub too_long : Debt
too_long = record { status = TooLong; out = []; err = TOO_LONG.now }

-- what is told of lines: their diagram, or the rows of their messages
unfoldable pub told : Bool → List Line → List ℕ
told drawn ls = if drawn then diagram ls else messages_text ls

unfoldable pub told_of : Bool → Option (List (List ℕ)) → List ℕ
told_of drawn None = told drawn []
told_of drawn (Some ls) = told drawn (placed (map words_of ls))

unfoldable pub told_in : Bool → Option (List ℕ) → List ℕ
told_in drawn None = told drawn []
told_in drawn (Some text) = told_of drawn (lines text)

-- why bytes are no history
abbrev pub no_history : List ℕ → Debt
no_history bytes = record { status = NoHistory; out = []; err = explained bytes }

-- of bytes of which that is asked: what is told, or why they are no history
unfoldable pub told_due : Bool → List ℕ → Debt
told_due drawn bytes =
    if is_ok (read bytes) then record { status = Done; out = told_in drawn (text_of bytes); err = [] }
    else no_history bytes

abbrev pub told_asked : Bool → List ℕ → Debt
told_asked drawn input = if nat_lt most_bytes (length input) then too_long else told_due drawn input

-- where no input is asked for
unfoldable pub fixed : Question → Debt
fixed Help = record { status = Done; out = HELP.now; err = [] }
fixed Version = record { status = Done; out = VERSION.now; err = [] }
fixed _ = record { status = Usage; out = []; err = USAGE.now }

-- ---- why

abbrev pub lines_of : Option (List (List ℕ)) → List (List ℕ)
lines_of o = unwrap_or o []

abbrev pub lines_in : Option (List ℕ) → List (List ℕ)
lines_in None = []
lines_in (Some text) = lines_of (lines text)

abbrev pub status_of : Verdicts → SeeStatus
status_of v = if all_yes v then Done else Refused

-- of verdicts, by the names of the vats and the lines
abbrev pub verdicts_due : List (List ℕ) → List (List ℕ) → Verdicts → Debt
verdicts_due vats ls v = record { status = status_of v; out = told_text vats ls v; err = [] }

-- of what bytes are read as
abbrev pub IsWhyOf : Bool → List ℕ → Result Trace ℕ → Debt → Type 0
IsWhyOf strict bytes (Ok trace) debt = (v : Verdicts) × Judges strict trace.history v × (debt ≡ verdicts_due trace.names (lines_in (text_of bytes)) v)
IsWhyOf strict bytes (Err rule) debt = debt ≡ no_history bytes

-- the verdicts on a history, or why bytes are none
abbrev pub IsWhy : Bool → List ℕ → Debt → Type 0
IsWhy strict bytes debt = IsWhyOf strict bytes (read bytes) debt

abbrev pub IsWhyCounted : Bool → Bool → List ℕ → Debt → Type 0
IsWhyCounted true strict input debt = debt ≡ too_long
IsWhyCounted false strict input debt = IsWhy strict input debt

abbrev pub IsWhyAsked : Bool → List ℕ → Debt → Type 0
IsWhyAsked strict input debt = IsWhyCounted (nat_lt most_bytes (length input)) strict input debt

-- ---- the whole

unfoldable pub IsDue : Question → List ℕ → Debt → Type 0
IsDue Messages input debt = debt ≡ told_asked false input
IsDue Draw input debt = debt ≡ told_asked true input
IsDue Why input debt = IsWhyAsked false input debt
IsDue Strict input debt = IsWhyAsked true input debt
IsDue other input debt = debt ≡ fixed other
