-- What is said of a draw that failed.
use Rattle.std.specs.Prelude.{ℕ, List, ◌++◌, codes, decimal}
use Rattle.ev_intro.specs.declared.words.DrawFault.{DrawFault}
use Rattle.ev_intro.specs.declared.words.DrawFault.TheVariants.{WordRepeated, Memory}

abbrev pub fault_text : DrawFault → List ℕ
fault_text (WordRepeated first second) = codes "draws " ++ (decimal first ++ (codes " and " ++ (decimal second ++ codes " give the same word")))
fault_text Memory = codes "out of memory"
