-- The hosts of what waits at a vat, in runs in which each notice stands behind a cut of the same two vats.
use Rattle.std.specs.Prelude.{◌≡◌, ℕ, zero, List, ◌++◌, Some, slice_get}
use Rattle.def_machine.specs.Values.{Value, Broken, Name}
use Rattle.def_machine.specs.State.{Vat}
use Rattle.def_machine.specs.Refs.{follow}
use Rattle.law_machine.specs.Machine.Breaks.{AtRest}
use Rattle.law_machine.specs.Run.Runs.{EachVat}
use Rattle.def_run.specs.World.{Script, Program, Entry, World, Goes, begins, open_from, steps_from, names}
use Rattle.law_fate.specs.Name.Runs.{KnowsOnce}
use Rattle.law_reference.specs.Reference.Cuts.{NoticesFollowCuts}
use Rattle.law_reference.specs.Reference.Rest.{HostsRest}

-- It holds of each vat in the world after any of the opening turns of a script, and after all of them and any entries in which notices stand behind their cuts.
abbrev pub InEachVatBehindCuts : (Script → ℕ → Vat Name → Type 0) → Type 0
InEachVatBehindCuts P = (script : Script) → KnowsOnce script
    → ((ps rest : List Program) (w : World) → script.vats ≡ ps ++ rest → open_from script zero ps (begins script) ≡ Goes w → (v : ℕ) (s : Vat Name) → slice_get w.vats v ≡ Some s → P script v s)
    × ((w x : World) (es : List Entry) (k : ℕ) → NoticesFollowCuts es → open_from script zero script.vats (begins script) ≡ Goes w → steps_from script es k w ≡ Goes x → (v : ℕ) (s : Vat Name) → slice_get x.vats v ≡ Some s → P script v s)

-- What waits at a vat has a host whose cut the vat did not notice.
abbrev pub HostsRestInRuns : Type 0
HostsRestInRuns = InEachVatBehindCuts (λ script v s. HostsRest (names script v) s)

-- So each vat is at rest.
abbrev pub VatsRestInRuns : Type 0
VatsRestInRuns = InEachVatBehindCuts (λ script v s. AtRest (names script v) s)

-- From any world of such a run on, what the vat followed to a broken reference is followed to it.
abbrev pub BreaksStayBroken : Type 0
BreaksStayBroken = (script : Script) → KnowsOnce script → (w y x : World) (es fs : List Entry) (k l : ℕ) → NoticesFollowCuts es → open_from script zero script.vats (begins script) ≡ Goes w → steps_from script es k w ≡ Goes y → steps_from script fs l y ≡ Goes x
    → EachVat (λ v s t. (z : Value Name) (p : List ℕ) → follow (names script v) s z ≡ Broken p → follow (names script v) t z ≡ Broken p) y x
