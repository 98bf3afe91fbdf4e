use Rattle.ev_reception.proofs.Asked.{learnt_done, learnt_on}
use Rattle.ev_reception.specs.Asks.{puts_learnt}
use Rattle.ev_reception.proofs.asks.learn_asks.Goals as goal

pub loop-put-preserved : goal.loop-put-preserved
loop-put-preserved c =
    learnt_on c.args.puts.now c.loop-put.put-index c.put-item.result c.loop-put.learnt c.learn_ask.new.learnt (puts_learnt c.args.puts.now c.args.learnt.now)
    c.loop-put-test.true c.put-item.is c.in_ok-learn_ask.ensures c.loop-put.invariant

pub returns : goal.returns
returns c = learnt_done c.args.puts.now c.loop-put.put-index c.loop-put.learnt (puts_learnt c.args.puts.now c.args.learnt.now) c.loop-put-test.false c.loop-put.invariant
