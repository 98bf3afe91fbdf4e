-- the orders so far, and then those of the others, are those of all
use Rattle.std.proofs.Common.{◌≡◌, drop}
use Rattle.ev_script.specs.Json.{each}
use Rattle.ev_script.proofs.EachLemmas.{done_and}
use Rattle.ev_mint.specs.Orders.{order_of}
use Rattle.ev_mint.proofs.orders.each_order.Given as goal

abbrev pub invariant-loop-text : goal.invariant-loop-text
invariant-loop-text l = done_and l.found (each (λ t. order_of t.now) (drop l.text-index l.texts)) ≡ each (λ t. order_of t.now) l.texts
