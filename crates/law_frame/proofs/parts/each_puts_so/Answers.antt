use Rattle.law_frame.proofs.Local.Puts.{each_puts_so}
use Rattle.law_frame.proofs.parts.each_puts_so.Goals as goal

pub returns : goal.returns
returns c = each_puts_so
