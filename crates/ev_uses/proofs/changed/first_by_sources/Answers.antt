use Rattle.ev_uses.proofs.changed.first_by_sources.Goals as goal

pub returns : goal.returns
returns c carried sent o = c.first_taken_otherwise.ensures (c.in_ok-put_lines.ensures carried sent) o
