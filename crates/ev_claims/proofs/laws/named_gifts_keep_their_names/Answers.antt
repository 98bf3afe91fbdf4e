use Rattle.ev_claims.proofs.Keeping.{named_gifts_keep_their_names}
use Rattle.ev_claims.proofs.laws.named_gifts_keep_their_names.Goals as goal

pub returns : goal.returns
returns c = named_gifts_keep_their_names
