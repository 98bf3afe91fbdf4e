-- what was told so far, and what the other orders tell, is what all tell
use Rattle.std.proofs.Common.{◌≡◌, ◌++◌, drop}
use Rattle.std.specs.Prelude.{string_bytes}
use Rattle.ev_mint.specs.Answers.{empty_books}
use Rattle.ev_mint.specs.Telling.{telling}
use Rattle.ev_mint.proofs.telling.push_orders.Given as goal

abbrev pub invariant-loop-order : goal.invariant-loop-order
invariant-loop-order l =
    string_bytes l.out ++ telling (record { made = l.seals; money = l.mints }) (drop l.order-index l.orders) ≡ telling empty_books l.orders
