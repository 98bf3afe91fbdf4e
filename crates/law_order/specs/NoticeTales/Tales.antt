-- Notices of runs are made of small steps.
use Rattle.std.specs.Prelude.{◌≡◌, ℕ, zero, Bool, true, List, [], ◌∷◌, ◌++◌}
use Rattle.def_run.specs.World.{Script, NoticeLink, Entry, World, Goes, begins, open_from, steps_from}
use Rattle.law_fate.specs.Name.Runs.{KnowsOnce}
use Rattle.law_reference.specs.Reference.Cuts.{NoticesFollowCuts}
use Rattle.law_order.specs.History.Tells.{Tale}

-- In every run in which each notice stands behind a cut of the same two vats, as the next entry is a notice of honest vats.
abbrev pub NoticesAreTales : Type 0
NoticesAreTales = (script : Script) → KnowsOnce script → (w x y : World) (es : List Entry) (k v u : ℕ) → NoticesFollowCuts (es ++ NoticeLink v u ∷ [])
    → open_from script zero script.vats (begins script) ≡ Goes w → steps_from script es k w ≡ Goes x → steps_from script (es ++ NoticeLink v u ∷ []) k w ≡ Goes y
    → (honest : ℕ → Bool) → honest v ≡ true → honest u ≡ true → Tale script honest x y
