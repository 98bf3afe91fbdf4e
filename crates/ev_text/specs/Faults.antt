-- What is said of a text that is refused.
use Rattle.std.specs.Prelude.{ℕ, List, ◌++◌, codes, decimal}
use Rattle.ev_text.specs.declared.spellings.EscapeFault.{EscapeFault}
use Rattle.ev_text.specs.declared.spellings.EscapeFault.TheVariants.{At, Memory}

abbrev pub fault_text : EscapeFault → List ℕ
fault_text (At place) = codes "no text at " ++ decimal place
fault_text Memory = codes "out of memory"
