-- What is due for a program that is to be expanded: the form of its kernel tree, or the refusal of its text.
use Rattle.std.specs.Prelude.{◌≡◌, ℕ, nat_lt, if◌then◌else◌, List, length, codes, Result, Ok, Err}
use Rattle.std.specs.Str.{is_utf8}
use Rattle.def_kernel.specs.Forms.{form}
use Rattle.ev_reader.specs.declared.accepted.Scoped.{Scoped}
use Rattle.ev_reader.specs.declared.fault.ProgramFault.{ProgramFault}
use Rattle.ev_io.specs.Debt.{IsFor, bytes_refused}
use Rattle.ev_top.specs.Programs.{ReadAs, IsDueOfFault, safe_names}
use Rattle.ev_io.specs.Words.{line}
use Rattle.ev_io.specs.declared.status.Status.{Status}
use Rattle.ev_io.specs.declared.status.Status.TheVariants.{Done}

-- the most bytes of a program
abbrev pub most_program_bytes : ℕ
most_program_bytes = 65536

-- the text that bytes are, or the number of the rule that they break: 1 of bytes that are not UTF-8, 7 of too many
abbrev pub text_from : List ℕ → Result (List ℕ) ℕ
text_from bytes = if is_utf8 bytes then (if nat_lt most_program_bytes (length bytes) then Err 7 else Ok bytes) else Err 1

-- a program of no vat goes by this name
abbrev pub nameless : List ℕ
nameless = codes "-"

-- what is due for a program by what it is read as: the form of its tree, or its refusal
abbrev pub IsDueOfForm : Result Scoped ProgramFault → Status → List ℕ → Type 0
IsDueOfForm (Ok scoped) status text = (status ≡ Done) × (text ≡ line (form scoped.tree 0))
IsDueOfForm (Err fault) status text = IsDueOfFault 0 nameless fault status text

-- what is due for the text of a program, or for bytes that are none
abbrev pub IsDueOfText : Result (List ℕ) ℕ → Status → List ℕ → Type 0
IsDueOfText (Ok program) status text = ReadAs program safe_names (λ answer. IsDueOfForm answer status text)
IsDueOfText (Err rule) status text = IsFor status text (bytes_refused rule)
