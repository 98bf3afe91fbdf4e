use Rattle.ev_arrive.proofs.Hostings.{adds, skips}
use Rattle.ev_arrive.proofs.notice.hosted.Goals as goal
use Rattle.ev_arrive.proofs.notice.hosted.Goals.{then-is_hosted+in_ok-push, else-is_hosted}

-- src/notice.rt:41:5
pub loop-name-preserved : goal.loop-name-preserved
loop-name-preserved c = elim c.if-is_hosted.branch [
  | then-is_hosted+in_ok-push w ↦ adds c.args.peer c.loop-name.name c.args.refs.now.known c.loop-name.names (_) c.is_hosted.result c.is_hosted.ensures c.loop-name.invariant c.if-is_hosted.names w.push.new.self w.if-is_hosted.true w.names-is w.in_ok-push.ensures.ok
  | else-is_hosted w ↦ skips c.args.peer c.loop-name.name c.args.refs.now.known c.loop-name.names (_) c.is_hosted.result c.is_hosted.ensures c.loop-name.invariant c.if-is_hosted.names w.if-is_hosted.false w.names-is
]
