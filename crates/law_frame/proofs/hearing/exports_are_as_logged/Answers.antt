use Rattle.law_frame.proofs.Heard.CutRuns.{exports_logged}
use Rattle.law_frame.proofs.hearing.exports_are_as_logged.Goals as goal

pub returns : goal.returns
returns c = exports_logged
