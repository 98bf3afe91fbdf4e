use Rattle.law_frame.proofs.Frame.States.{openings_taken}
use Rattle.law_frame.proofs.numbers.opening_turns_are_taken_in_numbers.Goals as goal

pub returns : goal.returns
returns c = openings_taken
