use Rattle.ev_uses.proofs.Walking.{no_links_stand}
use Rattle.ev_uses.proofs.changed.first_changed.Goals as goal

pub returns : goal.returns
returns c = c.first_by_sources.ensures c.new-sources.ensures.carried c.new-sources.ensures.sent (no_links_stand c.new-links.result c.new-links.ensures)
