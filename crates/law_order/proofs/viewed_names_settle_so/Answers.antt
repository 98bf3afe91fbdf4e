use Rattle.law_order.proofs.Views.Settling.{viewed_names_settle_so}
use Rattle.law_order.proofs.viewed_names_settle_so.Goals as goal

pub returns : goal.returns
returns c = viewed_names_settle_so
