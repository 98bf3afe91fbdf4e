use Rattle.std.proofs.Common.{sym, ◌∙◌}
use Rattle.ev_injected.proofs.Changes.{frames_there, none_there}
use Rattle.ev_injected.proofs.injected.Injected.take_all.Goals as goal

pub returns-in-None-clause-value : goal.returns-in-None-clause-value
returns-in-None-clause-value c = c.new.ensures.items ∙ sym (none_there c.args.from c.args.to c.args.self.now (sym c.in-None.ensures))

pub returns-in-Some-clause-value : goal.returns-in-Some-clause-value
returns-in-Some-clause-value c = c.take_at.ensures.value ∙ sym (frames_there c.args.from c.args.to c.args.self.now c.in-Some.index (sym c.in-Some.ensures))
