-- What decoding answers, and the law of spellings.
use Rattle.std.specs.Prelude.{◌≡◌, ℕ, ◌-◌, List, ◌++◌, length, Option, Some, None}
use Rattle.def_op.specs.declared.op.Op.{Op}
use Rattle.def_op.specs.Views.{operation}
use Rattle.def_op.specs.Frames.{Operation, spelling, IsOp}
use Rattle.def_op.specs.Reading.{◌>>=◌, op_at}

-- the operation that begins the bytes, and how many bytes it is
abbrev pub decoded : List ℕ → Option (Operation × ℕ)
decoded bytes = op_at bytes >>= λ x. Some (x.0, length bytes - length x.1)

-- what was found, without where it lies in memory
abbrev pub found_view : Option (Op × ℕ) → Option (Operation × ℕ)
found_view None = None
found_view (Some x) = Some (operation x.0, x.1)

-- An operation has one spelling, no two have the same, and no spelling begins another.
abbrev pub HaveOneSpelling : Type 0
HaveOneSpelling = (a b : Operation) (x y : List ℕ) → IsOp a → IsOp b → spelling a ++ x ≡ spelling b ++ y → (a ≡ b) × (x ≡ y)
