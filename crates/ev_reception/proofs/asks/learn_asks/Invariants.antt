use Rattle.std.proofs.Common.{◌≡◌, drop}
use Rattle.ev_reception.specs.Asks.{puts_learnt}
use Rattle.ev_reception.proofs.asks.learn_asks.Given as goal

-- what is learnt, and then what the rest asks for, is all of it
abbrev pub invariant-loop-put : goal.invariant-loop-put
invariant-loop-put l = puts_learnt (drop l.put-index l.puts) l.learnt ≡ puts_learnt l.fn.puts l.fn.learnt
