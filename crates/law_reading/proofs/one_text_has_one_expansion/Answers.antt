use Rattle.law_reading.proofs.Reading.Readings.{one_text}
use Rattle.law_reading.proofs.one_text_has_one_expansion.Goals as goal

pub returns : goal.returns
returns c = one_text
