-- Ranges of integers, in the terms of the code.
use Rattle.std.specs.Prelude.{ℕ, zero, suc, ℤ, pos, ◌+ℤ◌, Bool, true, false, if◌then◌else◌, nat_le, List, [], ◌∷◌}
use Rattle.ev_base.specs.declared.values.Value.{Value}
use Rattle.ev_base.specs.declared.values.Value.TheVariants as held
use Rattle.def_machine.specs.Native.{gap}
use Rattle.ev_prims.specs.declared.problem.Problem.TheVariants.{NotInt, TooHeavy}
use Rattle.ev_prims.specs.declared.reply.Reply.{Reply}
use Rattle.ev_prims.specs.declared.reply.Reply.TheVariants.{Lists, Fails}

-- so many integers, from this one on
unfoldable pub counted_from : ℤ → ℕ → List Value
counted_from a zero = []
counted_from a (suc n) = held.Int a ∷ counted_from (a +ℤ pos 1) n

unfoldable pub so_many : ℤ → ℕ → Bool → Reply
so_many a n true = Lists (counted_from a n)
so_many a n false = Fails TooHeavy

-- the integers from one to another, by whether the last is among them
unfoldable pub range_answer : Bool → Value → Value → Reply
range_answer true (held.Int a) (held.Int b) = so_many a (gap a (b +ℤ pos 1)) (nat_le (gap a (b +ℤ pos 1)) 65535)
range_answer false (held.Int a) (held.Int b) = so_many a (gap a b) (nat_le (gap a b) 65535)
range_answer last _ _ = Fails NotInt
