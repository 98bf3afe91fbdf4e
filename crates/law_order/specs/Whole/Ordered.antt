-- In each run messages are taken in the order in which they were sent.
use Rattle.def_run.specs.World.{Script, run}
use Rattle.law_fate.specs.Fates.WholeFateRuns.{KnowsVats}
use Rattle.law_fate.specs.Name.Runs.{KnowsOnce}
use Rattle.law_reference.specs.Reference.Cuts.{NoticesFollowCuts}
use Rattle.law_order.specs.Ordering.Example.{history_of}
use Rattle.law_order.specs.Ordering.Order.{Ordered}

-- So the history of each run is in order, up to a stop too: of a script whose vats know only vats of it, each once and none itself, and in which each notice stands behind a cut of the same two vats.
abbrev pub RunsAreOrdered : Type 0
RunsAreOrdered = (script : Script) → KnowsOnce script → KnowsVats script → NoticesFollowCuts script.schedule → Ordered (history_of (run script))
