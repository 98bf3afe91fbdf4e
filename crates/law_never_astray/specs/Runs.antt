-- That no run of accepted programs goes astray.
use Rattle.std.specs.Prelude.{◌≡◌, ℕ, ◌<◌, List, [], ◌∷◌, length}
use Rattle.def_machine.specs.State.{Stop, Astray}
use Rattle.def_run.specs.World.{Script, Entry, Turn, Carry, CutLink, NoticeLink, World, Stopped, run}
use Rattle.law_fate.specs.Name.Runs.{KnowsOnce}
use Rattle.law_reference.specs.Reference.Cuts.{NoticesFollowCuts}
use Rattle.law_never_astray.specs.CoveredRuns.{IsAccepted}

-- each notice is one of a vat that is there
abbrev pub NoticersAreThere : ℕ → List Entry → Type 0
NoticersAreThere count [] = Unit {0}
NoticersAreThere count (NoticeLink v w ∷ es) = (v < count) × NoticersAreThere count es
NoticersAreThere count (Turn v ∷ es) = NoticersAreThere count es
NoticersAreThere count (Carry v w ∷ es) = NoticersAreThere count es
NoticersAreThere count (CutLink v w ∷ es) = NoticersAreThere count es

-- Law: the run of such a script may stop, but not as astray, whatever its fuel and its greatest depth.
abbrev pub NeverAstray : Type 0
NeverAstray = (script : Script) → KnowsOnce script → IsAccepted script → NoticesFollowCuts script.schedule → NoticersAreThere (length script.vats) script.schedule
    → (c : Stop) (n : ℕ) (y : World) → run script ≡ Stopped c n y → c ≡ Astray → ⊥

-- Law: that the vats of notices are there is needed. A script without vats that cuts a link, and has a notice of it, has all else that is asked, and its run goes astray.
abbrev pub NoticersAreNeeded : Type 0
NoticersAreNeeded = (script : Script) × KnowsOnce script × IsAccepted script × NoticesFollowCuts script.schedule × (n : ℕ) × (y : World) × (run script ≡ Stopped Astray n y)
