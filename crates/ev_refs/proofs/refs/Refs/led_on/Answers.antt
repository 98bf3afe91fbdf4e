use Rattle.std.proofs.Common.{◌+◌, sym, ◌∙◌}
use Rattle.ev_refs.proofs.Follows.{leads, over}
use Rattle.ev_refs.proofs.refs.Refs.led_on.Goals as goal

pub loop-preserved : goal.loop-preserved
loop-preserved c = sym (leads (c.len-end.result + 1) c.loop.counter c.args.self.now.known c.loop.at c.in-Leads.next c.loop-test.true (sym c.in-Leads.ensures)) ∙ c.loop.invariant

pub returns : goal.returns
returns c = sym (over (c.len-end.result + 1) c.loop.counter c.loop-test.false c.args.self.now.known c.loop.at) ∙ c.loop.invariant
