use Rattle.std.proofs.Common.{sym}
use Rattle.ev_known.proofs.Walking.{next_strides}
use Rattle.ev_known.proofs.following.stride.Goals as goal

pub returns-in-None : goal.returns-in-None
returns-in-None c other h = next_strides c.args.settled.now c.args.viewed.now c.args.at c.args.name c.next_of.result (sym c.next_of.ensures) other
