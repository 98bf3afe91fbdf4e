-- The integer operations of the code, beside those of the machine.
use Rattle.std.specs.Prelude.{◌≡◌, ℤ, Result, Ok, Err}
use Rattle.def_machine.specs.Values.{Words}
use Rattle.def_machine.specs.Ints as machine
use Rattle.ev_integer.specs.Ints as num
use Rattle.ev_integer.specs.Message.{fault_text}
use Rattle.ev_integer.specs.declared.arithmetic.IntOp.{IntOp}
use Rattle.ev_integer.specs.declared.arithmetic.IntOp.TheVariants as op
use Rattle.ev_integer.specs.declared.arithmetic.NumFault.{NumFault}

abbrev pub op_of : IntOp → machine.IntOp
op_of op.Add = machine.Add
op_of op.Subtract = machine.Subtract
op_of op.Multiply = machine.Multiply
op_of op.FloorDivide = machine.FloorDivide
op_of op.Remainder = machine.Remainder
op_of op.Mod = machine.Mod
op_of op.Pow = machine.Pow
op_of op.And = machine.And
op_of op.Or = machine.Or
op_of op.Xor = machine.Xor

-- an answer, with the text of its fault as the problem
abbrev pub told : Result ℤ NumFault → Result ℤ Words
told (Ok z) = Ok z
told (Err fault) = Err (fault_text fault)

abbrev pub SameArithmetic : Type 0
SameArithmetic = (o : IntOp) (a b : ℤ) → machine.apply (op_of o) a b ≡ told (num.apply o a b)
