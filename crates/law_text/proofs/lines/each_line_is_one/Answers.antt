use Rattle.law_text.proofs.Text.Told.{event_line}
use Rattle.law_text.proofs.lines.each_line_is_one.Goals as goal

pub returns : goal.returns
returns c = λ vats good e h. event_line vats good e h
