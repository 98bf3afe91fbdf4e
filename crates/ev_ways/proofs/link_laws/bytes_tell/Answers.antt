use Rattle.ev_ways.proofs.Streams.{bytes_tell}
use Rattle.ev_ways.proofs.link_laws.bytes_tell.Goals as goal

pub returns : goal.returns
returns c = bytes_tell
