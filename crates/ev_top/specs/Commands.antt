-- The command that words name.
use Rattle.std.specs.Prelude.{ℕ, Bool, true, false, if◌then◌else◌, List, [], ◌∷◌, codes, Some, None, option_map}
use Rattle.std.specs.declared.option.Option.{Option}
use Rattle.std.specs.Str.{bytes_eq}
use Rattle.ev_text.specs.Lines.{number}
use Rattle.ev_top.specs.declared.command.Command.{Command}
use Rattle.ev_top.specs.declared.command.Command.TheVariants.{Run, Expand, Generate, Sum, Sturdy, Mint, Check}

-- the greatest number of a script that is generated
abbrev pub most_generated : ℕ
most_generated = 3000

abbrev pub command_alone : List ℕ → Option Command
command_alone word =
    if bytes_eq word (codes "run") then Some (Run false)
    else if bytes_eq word (codes "expand") then Some Expand
    else if bytes_eq word (codes "sturdy") then Some Sturdy
    else if bytes_eq word (codes "mint") then Some Mint
    else if bytes_eq word (codes "check") then Some Check
    else None

-- the run with its frames
abbrev pub command_of_run : List ℕ → Option Command
command_of_run next = if bytes_eq next (codes "wire") then Some (Run true) else None

abbrev pub command_of_number : List ℕ → Option Command
command_of_number next = option_map Generate (number most_generated next)

abbrev pub command_of_sum : List ℕ → Option Command
command_of_sum next = option_map Sum (number most_generated next)

-- the command that two words are: `run` and `wire`, or `gen` or `sum` and a number
abbrev pub command_with : List ℕ → List ℕ → Option Command
command_with word next =
    if bytes_eq word (codes "run") then command_of_run next
    else if bytes_eq word (codes "gen") then command_of_number next
    else if bytes_eq word (codes "sum") then command_of_sum next
    else None

-- one word alone, or two
abbrev pub command_of : List (List ℕ) → Option Command
command_of [] = None
command_of (word ∷ []) = command_alone word
command_of (word ∷ next ∷ []) = command_with word next
command_of (word ∷ next ∷ other ∷ rest) = None

-- each other command than those of a script that is generated reads what the source has
abbrev pub reads : Command → Bool
reads (Generate n) = false
reads (Sum n) = false
reads (Run wire) = true
reads Expand = true
reads Sturdy = true
reads Mint = true
reads Check = true
