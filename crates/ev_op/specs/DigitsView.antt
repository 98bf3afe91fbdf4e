-- What a clause sees of a number that was read.
use Rattle.ev_op.specs.declared.numbers.Digits.{Digits}
use Rattle.def_op.specs.Reading.{Digits as DigitsRead}

abbrev pub digits_view : Digits → DigitsRead
digits_view d = record { negative = d.negative; number = d.number; rest = d.rest.now }
