use Rattle.law_order.proofs.Views.Wholes.{led_settlings_keep}
use Rattle.law_order.proofs.led_settlings_keep.Goals as goal

pub returns : goal.returns
returns c = led_settlings_keep
