use Rattle.ev_uses.proofs.unsent.is_note_sent.Goals as goal

pub returns : goal.returns
returns c past f o = c.is_carried_sent.ensures past c.new-carried.ensures c.new-known.ensures f o
