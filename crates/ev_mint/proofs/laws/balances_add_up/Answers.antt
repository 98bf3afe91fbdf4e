use Rattle.ev_mint.proofs.Adding.{balances_add_up as law}
use Rattle.ev_mint.proofs.laws.balances_add_up.Goals as goal

pub returns : goal.returns
returns c = law
