use Rattle.ev_vat.proofs.MemberStarts.{root_here, root_none, root_on}
use Rattle.ev_vat.proofs.starting.root_of.Goals as goal

pub returns-then-eq : goal.returns-then-eq
returns-then-eq c = root_here c.args.vat c.args.knows.now c.loop-index.index c.index-knows-index.result c.loop-index-test.true c.index-knows-index.is c.if-eq.ensures c.loop-index.invariant

pub loop-index-preserved : goal.loop-index-preserved
loop-index-preserved c = root_on c.args.vat c.args.knows.now c.loop-index.index c.index-knows-index.result c.loop-index-test.true c.index-knows-index.is c.if-eq.ensures c.loop-index.invariant

pub returns : goal.returns
returns c = root_none c.args.vat c.args.knows.now c.loop-index.index c.loop-index-test.false c.loop-index.invariant
