use Rattle.std.proofs.Common.{sym}
use Rattle.ev_audit.proofs.Told.{is_bound}
use Rattle.ev_audit.proofs.auditions.bound_of.Goals as goal

pub returns-else-is_own-clause-means : goal.returns-else-is_own-clause-means
returns-else-is_own-clause-means c = λ t. is_bound _ c.args.noun.now _ _ (sym c.if-is_own.ensures) (c.bound_so.ensures.means t c.args.noun.now)
