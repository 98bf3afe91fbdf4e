use Rattle.law_frame.proofs.Frame.States.{entries_taken}
use Rattle.law_frame.proofs.numbers.entries_are_taken_in_numbers.Goals as goal

pub returns : goal.returns
returns c = entries_taken
