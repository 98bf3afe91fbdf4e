-- Where the names of other vats come from that a vat knows.
use Rattle.std.specs.Prelude.{◌≡◌, ℕ, zero, List, ◌⊎◌, Some, slice_get}
use Rattle.def_machine.specs.Values.{Name, host_of}
use Rattle.def_machine.specs.State.{Vat}
use Rattle.law_fate.specs.Name.Names.{IsAmong, names_in}
use Rattle.law_fate.specs.Name.Runs.{KnowsOnce}
use Rattle.def_run.specs.World.{Script, Entry, World, Goes, begins, open_from, steps_from}
use Rattle.law_reference.specs.Reference.Logs.{exports_after, questions}
use Rattle.law_reference.specs.Reference.Cuts.{NoticesFollowCuts}
use Rattle.law_frame.specs.Frame.Tables.{arrived}
use Rattle.law_frame.specs.Frame.Known.{OnUncutLink}

-- In every world of a run in which each notice stands behind a cut of the same two vats: a name of another vat, from which the link is not cut, is known only where the vat asked that one for it, or was told it by an export that has arrived.
abbrev pub NamesComeFromTheirHosts : Type 0
NamesComeFromTheirHosts = (script : Script) → KnowsOnce script → (w x : World) (es : List Entry) (k : ℕ) → NoticesFollowCuts es → open_from script zero script.vats (begins script) ≡ Goes w → steps_from script es k w ≡ Goes x
    → (u v : ℕ) (s : Vat Name) → slice_get x.vats u ≡ Some s → (v ≡ u → ⊥) → OnUncutLink x v u (λ l. (n : Name) → IsAmong n (names_in s.known) → host_of n ≡ v
    → IsAmong n (questions (λ i. i) x.links u v) ⊎ IsAmong n (exports_after v (questions (λ i. i) x.links u v) (arrived (Some l)) l.roots))
