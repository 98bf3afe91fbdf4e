use Rattle.law_order.proofs.Arrivals.Views.{elsewhere_arrivals_keep}
use Rattle.law_order.proofs.view.elsewhere_arrivals_keep.Goals as goal

pub returns : goal.returns
returns c = elsewhere_arrivals_keep
