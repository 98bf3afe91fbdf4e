-- The first lines were walked.
use Rattle.std.proofs.Common.{take}
use Rattle.ev_order.specs.Walk.{IsWalked}
use Rattle.ev_order.proofs.walk.walk_all.Given as goal

abbrev pub invariant-loop-line : goal.invariant-loop-line
invariant-loop-line l = IsWalked (take l.line l.events) l.walk
