use Rattle.law_frame.proofs.Frame.Entries.{entries_stand}
use Rattle.law_frame.proofs.numbers.entries_by_numbers_stand.Goals as goal

pub returns : goal.returns
returns c = entries_stand
