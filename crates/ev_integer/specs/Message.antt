-- What is said of an operation without an answer.
use Rattle.std.specs.Prelude.{ℕ, List, codes}
use Rattle.ev_integer.specs.declared.arithmetic.NumFault.{NumFault}
use Rattle.ev_integer.specs.declared.arithmetic.NumFault.TheVariants.{Overflow, ZeroDivisor, NegativePower}

abbrev pub fault_text : NumFault → List ℕ
fault_text Overflow = codes "integer overflow"
fault_text ZeroDivisor = codes "zero divisor"
fault_text NegativePower = codes "negative power"
