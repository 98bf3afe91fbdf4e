use Rattle.law_order.proofs.Ordering.Brought.{open_names_lead_home}
use Rattle.law_order.proofs.passing.open_names_lead_home.Goals as goal

pub returns : goal.returns
returns c = open_names_lead_home
