-- What holds of judgements.
use Rattle.std.specs.Prelude.{◌≡◌, ℕ, List}
use Rattle.def_event.specs.declared.trace.Trace.{Trace}
use Rattle.ev_check_text.specs.Checks.{Checks}

-- No two texts are the judgement on a trace.
abbrev pub IsJudgedOnce : Type 0
IsJudgedOnce = (trace : Trace) (first second : List ℕ) → Checks trace first → Checks trace second → first ≡ second
