use Rattle.std.proofs.Common.{◌≡◌, ◌++◌, map, length}
use Rattle.ev_vat.specs.Closing.{queue_line}
use Rattle.ev_vat.proofs.closing.push_queue.Given as goal

-- the lines so far, and then those of what is queued still, are the lines of all; the names stay
abbrev pub invariant-loop-message : goal.invariant-loop-message
invariant-loop-message l = (l.history ++ map (queue_line l.table) l.refs.queue ≡ l.fn.history ++ map (queue_line l.table) l.fn.refs.queue) × (l.refs.known ≡ l.fn.refs.known)

abbrev pub decreases-loop-message : goal.decreases-loop-message
decreases-loop-message l = length l.refs.queue
