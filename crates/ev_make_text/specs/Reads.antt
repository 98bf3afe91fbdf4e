-- What is told once a part of a text is read.
use Rattle.std.specs.Prelude.{◌≡◌, ℕ, Bool, true, false, Some, None, Result, Ok, Err}
use Rattle.std.specs.declared.option.Option.{Option}
use Rattle.ev_make_text.specs.declared.reading.TextFault.{TextFault}
use Rattle.ev_make_text.specs.declared.reading.TextFault.TheVariants.{Line, Memory}

-- what is told now is what is due, or nothing is due
abbrev pub Becomes : {A : Type 0} → Option A → Bool → A → Type 0
Becomes due true new = due ≡ Some new
Becomes due false new = due ≡ None

-- what a reader gave is what is due, or memory ran out
abbrev pub Reads : {A : Type 0} → Result A TextFault → Result A ℕ → Type 0
Reads (Ok x) due = due ≡ Ok x
Reads (Err (Line n)) due = due ≡ Err n
Reads (Err Memory) due = Unit {0}
