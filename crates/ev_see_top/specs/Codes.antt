-- The code of each status.
use Rattle.std.specs.Prelude.{ℕ}
use Rattle.ev_see_top.specs.declared.status.SeeStatus.{SeeStatus}
use Rattle.ev_see_top.specs.declared.status.SeeStatus.TheVariants.{Done, Refused, Usage, ReadFault, WriteFault, TooLong, NoHistory, Memory}

abbrev pub code_of : SeeStatus → ℕ
code_of Done = 0
code_of Refused = 1
code_of Usage = 2
code_of ReadFault = 3
code_of WriteFault = 4
code_of TooLong = 5
code_of NoHistory = 6
code_of Memory = 11
