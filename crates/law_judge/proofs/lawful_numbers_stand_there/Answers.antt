use Rattle.law_judge.proofs.Own.{numbers_stand_there}
use Rattle.law_judge.proofs.lawful_numbers_stand_there.Goals as goal

pub returns : goal.returns
returns c = numbers_stand_there
