-- Orders and their tests, as those of the machine.
use Rattle.std.specs.Prelude.{Bool, not, Some, None}
use Rattle.std.specs.declared.option.Option.{Option}
use Rattle.ev_base.specs.declared.values.Value.TheVariants as held
use Rattle.ev_prims.specs.declared.problem.Problem.TheVariants.{NotComparable}
use Rattle.ev_prims.specs.declared.reply.Reply.{Reply}
use Rattle.ev_prims.specs.declared.reply.Reply.TheVariants.{Says, Fails}
use Rattle.std.specs.declared.cmp.Ordering.{Ordering}
use Rattle.std.specs.declared.cmp.Ordering.TheVariants as code
use Rattle.def_machine.specs.Native as native
use Rattle.ev_prims.specs.declared.order.Test.{Test}
use Rattle.ev_prims.specs.declared.order.Test.TheVariants.{LessThan, AtMost, AsBigAs, AtLeast, GreaterThan}

abbrev pub order_in : Ordering → native.Order
order_in code.Less = native.Less
order_in code.Equal = native.Equal
order_in code.Greater = native.Greater

abbrev pub test_in : Test → native.Order → Bool
test_in LessThan = native.is_less
test_in AtMost = λ o. not (native.is_more o)
test_in AsBigAs = native.is_equal
test_in AtLeast = λ o. not (native.is_less o)
test_in GreaterThan = native.is_more

-- what is answered of an order, in the terms of the code
unfoldable pub compared_by : Test → Option native.Order → Reply
compared_by t (Some o) = Says (held.Bool (test_in t o))
compared_by t None = Fails NotComparable
