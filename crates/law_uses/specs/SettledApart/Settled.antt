-- That names which settled at a vat are shown as different names in the history of a run.
use Rattle.def_run.specs.World.{Script, run}
use Rattle.def_run.specs.Text.{draws_of}
use Rattle.law_fate.specs.Name.Runs.{KnowsOnce}
use Rattle.law_reference.specs.Reference.Cuts.{NoticesFollowCuts}
use Rattle.law_uses.specs.Running.Running.{SettledApart}

-- by the words that were drawn in the run, whether it goes to its end or stops
abbrev pub SettledNamesAreShownApart : Type 0
SettledNamesAreShownApart = (script : Script) → KnowsOnce script → NoticesFollowCuts script.schedule → SettledApart script (draws_of (run script))
