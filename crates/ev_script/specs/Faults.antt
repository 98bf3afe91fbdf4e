-- What is said of bytes that are no script.
use Rattle.std.specs.Prelude.{ℕ, List, ◌++◌, codes, decimal}
use Rattle.ev_script.specs.declared.script.ScriptFault.{ScriptFault}
use Rattle.ev_script.specs.declared.script.ScriptFault.TheVariants.{Rule, Memory}

abbrev pub fault_text : ScriptFault → List ℕ
fault_text (Rule rule) = codes "no script: rule " ++ decimal rule ++ codes " fails"
fault_text Memory = codes "out of memory"
