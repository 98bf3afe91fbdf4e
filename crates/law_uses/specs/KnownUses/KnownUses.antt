-- That each line of a run uses what is known to who uses it, and that calls give back what is known.
use Rattle.std.specs.Prelude.{ℕ, List, None}
use Rattle.def_run.specs.World.{Script, run}
use Rattle.def_run.specs.Text.{draws_of, shown_events, history_of}
use Rattle.law_fate.specs.Name.Runs.{KnowsOnce}
use Rattle.law_reference.specs.Reference.Cuts.{NoticesFollowCuts}
use Rattle.def_event.specs.Uses.{HoldsAt, UsesKnown, BackKnown, JudgesUses}
use Rattle.law_uses.specs.KnownUses.Told.{IsShownApart}

-- each line of the run, shown with these draws, uses only what is known by the lines before it
abbrev pub UsesAreKnown : Script → List ℕ → Type 0
UsesAreKnown script draws = (k : ℕ) → HoldsAt UsesKnown (shown_events draws (history_of (run script))) k

-- so it is in each run
abbrev pub LinesUseWhatIsKnown : Type 0
LinesUseWhatIsKnown = (script : Script) (draws : List ℕ) → IsShownApart script draws → UsesAreKnown script draws

-- ---- what calls give back

-- what each call of the run gives back is known to the activation that it began, else to its caller, or an audition gave it as a guard
abbrev pub CallsGiveBackKnown : Script → List ℕ → Type 0
CallsGiveBackKnown script draws = (k : ℕ) → HoldsAt BackKnown (shown_events draws (history_of (run script))) k

abbrev pub CallsGiveBackWhatIsKnown : Type 0
CallsGiveBackWhatIsKnown = (script : Script) (draws : List ℕ) → IsShownApart script draws → CallsGiveBackKnown script draws

-- ---- the whole

-- So, where messages are taken and carried as they were sent, the judge of uses finds no line of the run that fails.
abbrev pub HistoriesHoldUses : Type 0
HistoriesHoldUses = (script : Script) (draws : List ℕ) → IsShownApart script draws → JudgesUses (shown_events draws (history_of (run script))) None

-- So in every run whose notices stand behind their cuts, as the words that were drawn in it show it.
abbrev pub RunsHoldUses : Type 0
RunsHoldUses = (script : Script) → KnowsOnce script → NoticesFollowCuts script.schedule → JudgesUses (shown_events (draws_of (run script)) (history_of (run script))) None
