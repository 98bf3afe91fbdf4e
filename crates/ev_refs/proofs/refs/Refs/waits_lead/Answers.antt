use Rattle.std.proofs.Common.{sym, ◌∙◌}
use Rattle.ev_refs.proofs.Chains.{goes, over}
use Rattle.ev_refs.proofs.refs.Refs.waits_lead.Goals as goal

pub loop-preserved : goal.loop-preserved
loop-preserved c = sym (goes c.len-end.result c.loop.counter c.args.self.now.known c.args.to c.loop.at c.in-Some.next c.loop-test.true c.if-at-to.false (sym c.in-Some.ensures)) ∙ c.loop.invariant

pub returns : goal.returns
returns c = sym (over c.len-end.result c.loop.counter c.loop-test.false c.args.self.now.known c.args.to c.loop.at) ∙ c.loop.invariant
