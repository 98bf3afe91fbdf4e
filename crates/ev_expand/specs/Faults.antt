-- What is said of a tree that has no expansion.
use Rattle.std.specs.Prelude.{ℕ, List, ◌++◌, codes, decimal}
use Rattle.ev_expand.specs.declared.expansion.ExpandFault.{ExpandFault}
use Rattle.ev_expand.specs.declared.expansion.ExpandFault.TheVariants.{MisplacedReturn, MisplacedBreak, ReservedName, Memory}

abbrev pub fault_text : ExpandFault → List ℕ
fault_text (MisplacedReturn token) = codes "misplaced return at token " ++ decimal token
fault_text (MisplacedBreak token) = codes "misplaced break at token " ++ decimal token
fault_text (ReservedName token) = codes "reserved name at token " ++ decimal token
fault_text Memory = codes "out of memory"
