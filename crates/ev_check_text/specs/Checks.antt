-- The judgement on a trace: one line on the order of its messages, and one on its uses.
use Rattle.std.specs.Prelude.{◌≡◌, ℕ, List, [], ◌∷◌, ◌++◌, codes, decimal, Some, None, String, string_bytes, Result, Ok, Err}
use Rattle.std.specs.declared.alloc.Global.{Global}
use Rattle.std.specs.declared.option.Option.{Option}
use Rattle.ev_base.specs.declared.names.Msg.{Msg}
use Rattle.def_event.specs.Lines.{message}
use Rattle.def_event.specs.Order.{JudgesOrder}
use Rattle.def_event.specs.Uses.{JudgesUses}
use Rattle.def_event.specs.declared.trace.Trace.{Trace}
use Rattle.ev_script.specs.declared.script.ScriptFault.{ScriptFault}
use Rattle.ev_script.specs.declared.script.ScriptFault.TheVariants.{Rule, Memory}

abbrev pub written_line : List ℕ → List ℕ
written_line text = text ++ 10 ∷ []

-- by the names of the vats: a message that was overtaken, and the one that was taken too early
abbrev pub overtaken_line : List (List ℕ) → Msg → Msg → List ℕ
overtaken_line vats overtaken taken = written_line (codes "order no " ++ message vats overtaken ++ 32 ∷ message vats taken)

abbrev pub order_line : List (List ℕ) → Option (Msg × Msg) → List ℕ
order_line vats None = written_line (codes "order yes")
order_line vats (Some pair) = overtaken_line vats pair.0 pair.1

-- the first line that fails, counted from 1
abbrev pub uses_line : Option ℕ → List ℕ
uses_line None = written_line (codes "uses yes")
uses_line (Some line) = written_line (codes "uses no " ++ decimal line)

-- The text is the judgement on the trace: on the order of its messages, and on its uses.
pub record Checks (trace : Trace) (text : List ℕ) : Type 0 where
  pub order : Option (Msg × Msg)
  pub uses : Option ℕ
  pub of_order : JudgesOrder trace.history order
  pub of_uses : JudgesUses trace.history uses
  pub written : text ≡ order_line trace.names order ++ uses_line uses

-- An answer is the judgement on the trace that is read, or the rule that is broken, unless memory runs out.
abbrev pub Tells : Result (String Global) ScriptFault → Result Trace ℕ → Type 0
Tells (Ok text) due = (trace : Trace) × (due ≡ Ok trace) × Checks trace (string_bytes text)
Tells (Err (Rule rule)) due = due ≡ Err rule
Tells (Err Memory) due = Unit {0}
