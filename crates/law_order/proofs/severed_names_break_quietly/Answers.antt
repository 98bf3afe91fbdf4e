use Rattle.law_order.proofs.Views.Severed.{severed_names_break_quietly}
use Rattle.law_order.proofs.severed_names_break_quietly.Goals as goal

pub returns : goal.returns
returns c = severed_names_break_quietly
