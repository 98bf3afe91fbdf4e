use Rattle.law_order.proofs.Arrivals.Telling.{told_names_lead}
use Rattle.law_order.proofs.tell.told_names_lead.Goals as goal

pub returns : goal.returns
returns c = told_names_lead
