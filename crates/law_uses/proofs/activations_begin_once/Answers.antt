use Rattle.law_uses.proofs.Running.Facts.{activations_begin}
use Rattle.law_uses.proofs.activations_begin_once.Goals as goal

pub returns : goal.returns
returns c = activations_begin
