-- The starts and the nodes with one more piece.
use Rattle.ev_piece.proofs.Behind.{added_nodes, added_starts}
use Rattle.ev_piece.proofs.build.add_all.Goals as goal

pub loop-piece-preserved : goal.loop-piece-preserved
loop-piece-preserved c = (
  added_starts c.args.parts.now.items c.loop-piece.parts.items c.loop-piece.at _ _ c.loop-piece.yielded c.in-Some.piece c.loop-piece.invariant.0 c.loop-piece.invariant.1 c.in_ok-start.ensures.0 c.in_ok-push.ensures.ok,
  added_nodes c.args.parts.now.items c.loop-piece.parts.items _ c.loop-piece.yielded c.in-Some.piece c.loop-piece.invariant.1 c.in_ok-start.ensures.1,
)
