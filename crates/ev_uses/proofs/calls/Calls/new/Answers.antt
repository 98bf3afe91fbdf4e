use Rattle.std.proofs.Common.{[], sym, subst}
use Rattle.ev_uses.specs.Calls.{CallsStand, Stacks}
use Rattle.ev_uses.proofs.Calling.{none_open}
use Rattle.ev_uses.proofs.calls.Calls.new.Goals as goal

pub returns : goal.returns
returns c = subst (λ (rows : Stacks). CallsStand rows []) (sym c.new.ensures.empty) none_open
