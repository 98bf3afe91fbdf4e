use Rattle.std.proofs.Common.{sym, refl}
use Rattle.ev_injected.proofs.Changes.{none_there, none_where}
use Rattle.ev_injected.proofs.injected.Injected.carry.Goals as goal

pub returns-in-None-clause-none : goal.returns-in-None-clause-none
returns-in-None-clause-none c = (none_there c.args.from c.args.to c.args.self.now (sym c.in-None.ensures), refl)

pub returns-in-Some-clause-none : goal.returns-in-Some-clause-none
returns-in-Some-clause-none c = none_where c.args.from c.args.to c.args.self.now c.carry_at.new.self c.in-Some.index c.carry_at.result c.carry_at.ensures.after (sym c.in-Some.ensures) c.carry_at.ensures.value
