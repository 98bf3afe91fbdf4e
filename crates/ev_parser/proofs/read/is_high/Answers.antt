use Rattle.ev_parser.proofs.High.{high_state}
use Rattle.ev_parser.proofs.read.is_high.Goals as goal

pub returns : goal.returns
returns c = λ ns s w. high_state ns c.args.frames.now c.args.stand.now s _ _ c.low_at.ensures c.lowered.ensures w
