use Rattle.std.proofs.Common.{◌≡◌, ◌≤◌, take}
use Rattle.std.specs.Str.Parse.{digits_value}
use Rattle.ev_integer.specs.Numerals.{greatest}
use Rattle.ev_integer.proofs.numerals.number_in.Given as goal

-- the number of the digits so far
abbrev pub invariant-loop-byte : goal.invariant-loop-byte
invariant-loop-byte l = (l.value ≡ digits_value 10 (take l.byte-index l.row)) × (l.value ≤ greatest)
