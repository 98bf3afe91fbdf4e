use Rattle.std.proofs.Common.{◌≡◌, ◌++◌, List, drop}
use Rattle.def_machine.specs.Values.{Words}
use Rattle.ev_claims.specs.Gifts.{claims_of}
use Rattle.ev_made_gifts.proofs.Making.{all_made}
use Rattle.ev_made_gifts.proofs.made.gifts_made.Given as goal

abbrev pub invariant-loop-put : goal.invariant-loop-put
invariant-loop-put l = (texts : List Words) → claims_of l.gifts.items ++ all_made texts (drop l.put-index l.puts) ≡ all_made texts l.puts
