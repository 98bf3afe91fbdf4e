use Rattle.law_order.proofs.Views.Led.{views_settle_quietly}
use Rattle.law_order.proofs.views_settle_quietly.Goals as goal

pub returns : goal.returns
returns c = views_settle_quietly
