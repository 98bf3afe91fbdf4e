use Rattle.std.proofs.Common.{◌≡◌, true}
use Rattle.def_machine.specs.Values.{naming, numbering}
use Rattle.law_uses.proofs.Connectivity.Knowing.{least}
use Rattle.law_uses.proofs.connected.known_is_least.Goals as goal

pub returns : goal.returns
returns c = (λ word v h so p closed a i k. least (naming word v) h so (λ a i. p a i ≡ true) closed a i k, λ word h so p closed a i k. least (numbering word) h so (λ a i. p a i ≡ true) closed a i k)
