use Rattle.law_judge.proofs.Operations.{meets_the_points}
use Rattle.law_judge.proofs.lawful_meets_the_points.Goals as goal

pub returns : goal.returns
returns c = meets_the_points
