use Rattle.ev_ways.proofs.Streams.{pieces_join}
use Rattle.ev_ways.proofs.link_laws.pieces_join.Goals as goal

pub returns : goal.returns
returns c = pieces_join
