-- The number that a row of decimal digits spells.
use Rattle.std.specs.Prelude.{ℕ, ℤ, pos, ◌-◌, ◌^◌, ◌&&◌, nat_lt, nat_le, if◌then◌else◌, List, length, Some, None}
use Rattle.std.specs.declared.option.Option.{Option}
use Rattle.std.specs.Str.{all_ascii_digits}
use Rattle.std.specs.Str.Parse.{digits_value}

-- the greatest integer
abbrev pub greatest : ℕ
greatest = 2 ^ 127 - 1

-- the number of one or more digits, where it is not above the greatest integer
abbrev pub number_of : List ℕ → Option ℤ
number_of row = if nat_lt 0 (length row) && all_ascii_digits row && nat_le (digits_value 10 row) greatest then Some (pos (digits_value 10 row)) else None
