-- What is said of a table's faults.
use Rattle.std.specs.Prelude.{ℕ, List, ◌++◌, codes, decimal}
use Rattle.ev_tables.specs.declared.fault.TableFault.{TableFault}
use Rattle.ev_tables.specs.declared.fault.TableFault.TheVariants.{Closed, WrongNumber, Memory}

abbrev pub fault_text : TableFault → List ℕ
fault_text Closed = codes "the connection is closed"
fault_text (WrongNumber next) = codes "the next number is " ++ decimal next
fault_text Memory = codes "out of memory"
