use Rattle.ev_prims.proofs.Means.{all_means}
use Rattle.ev_prims.proofs.data.data_reply.Goals as goal

pub returns-clause-means : goal.returns-clause-means
returns-clause-means c = all_means c.args.heap.now c.args.receiver c.args.verb.now c.args.held.now c.args.args.now c.answered.result c.answered.ensures
