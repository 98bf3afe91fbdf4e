-- The code of each status.
use Rattle.std.specs.Prelude.{ℕ}
use Rattle.ev_make_top.specs.declared.status.MakeStatus.{MakeStatus}
use Rattle.ev_make_top.specs.declared.status.MakeStatus.TheVariants.{Done, Usage, ReadFault, WriteFault, TooLong, Refused, Memory}

abbrev pub code_of : MakeStatus → ℕ
code_of Done = 0
code_of Usage = 2
code_of ReadFault = 3
code_of WriteFault = 4
code_of TooLong = 5
code_of Refused = 6
code_of Memory = 11
