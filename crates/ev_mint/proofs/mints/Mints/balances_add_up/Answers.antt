use Rattle.std.proofs.Common.{◌≡◌, subst}
use Rattle.ev_mint.specs.Money.{Money, balances, total_of}
use Rattle.ev_mint.proofs.mints.Mints.balances_add_up.Goals as goal

pub returns : goal.returns
returns c mint = subst (λ (k : Money). balances mint k.purses ≡ total_of mint k.totals) c.self.view_is (c.self.invariant mint).0
