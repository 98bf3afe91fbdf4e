use Rattle.law_reference.proofs.Gift.Stays.{gifts_open, gifts_run}
use Rattle.law_reference.proofs.hosted_gifts.gifts_stay_in_runs.Goals as goal

pub returns : goal.returns
returns c = (gifts_open, gifts_run)
