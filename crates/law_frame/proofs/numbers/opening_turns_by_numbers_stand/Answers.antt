use Rattle.law_frame.proofs.Frame.Openings.{openings_stand}
use Rattle.law_frame.proofs.numbers.opening_turns_by_numbers_stand.Goals as goal

pub returns : goal.returns
returns c = openings_stand
