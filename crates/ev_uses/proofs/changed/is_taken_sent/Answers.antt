use Rattle.ev_uses.proofs.changed.is_taken_sent.Goals as goal

pub returns : goal.returns
returns c past stand o = c.is_taken_as.ensures past c.new-there.ensures c.new-sent.ensures stand o
