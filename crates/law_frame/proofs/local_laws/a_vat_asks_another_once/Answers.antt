use Rattle.law_frame.proofs.local_laws.a_vat_asks_another_once.Goals as goal
use Rattle.law_frame.proofs.Steady.CutOff.{each_asks_once}

pub returns : goal.returns
returns c = each_asks_once
