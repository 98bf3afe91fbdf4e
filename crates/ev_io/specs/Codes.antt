-- The code of each status.
use Rattle.std.specs.Prelude.{ℕ}
use Rattle.ev_io.specs.declared.status.Status.{Status}
use Rattle.ev_io.specs.declared.status.Status.TheVariants.{Done, Usage, ReadFault, WriteFault, TooLong, ScriptRefused, ProgramRefused, FuelSpent, TooDeep, WordRepeated, Memory}

abbrev pub code_of : Status → ℕ
code_of Done = 0
code_of Usage = 2
code_of ReadFault = 3
code_of WriteFault = 4
code_of TooLong = 5
code_of (ScriptRefused r) = 6
code_of (ProgramRefused r) = 7
code_of (FuelSpent step) = 8
code_of (TooDeep step) = 9
code_of (WordRepeated first second) = 10
code_of Memory = 11
