-- What a note names of its receiver was given to its sender.
use Rattle.std.specs.Prelude.{◌≡◌, ℕ, zero, List, ◌⊎◌, Some, slice_get}
use Rattle.def_machine.specs.Values.{Name, host_of}
use Rattle.def_machine.specs.State.{Vat}
use Rattle.law_fate.specs.Name.Names.{AllOf, IsAmong}
use Rattle.law_fate.specs.Name.Runs.{KnowsOnce}
use Rattle.def_run.specs.World.{Script, Entry, World, Goes, begins, open_from, steps_from}
use Rattle.law_reference.specs.Reference.Logs.{questions, exports}
use Rattle.law_reference.specs.Reference.Cuts.{NoticesFollowCuts}
use Rattle.law_frame.specs.Frame.Asked.{told_in}
use Rattle.law_frame.specs.Frame.Known.{OnUncutLink}

-- In every world of a run in which each notice stands behind a cut of the same two vats: a promise or an object of vat u that a note from v to u tells, on a link that is not cut, was asked of u by v, or was exported to v by u.
abbrev pub NotesNameWhatWasGiven : Type 0
NotesNameWhatWasGiven = (script : Script) → KnowsOnce script → (w x : World) (es : List Entry) (k : ℕ) → NoticesFollowCuts es → open_from script zero script.vats (begins script) ≡ Goes w → steps_from script es k w ≡ Goes x
    → (v u : ℕ) (s : Vat Name) → slice_get x.vats v ≡ Some s → (v ≡ u → ⊥) → OnUncutLink x v u (λ l. AllOf (λ note. AllOf (λ n. host_of n ≡ u → IsAmong n (questions (λ i. i) x.links v u) ⊎ IsAmong n (exports (λ i. i) x.links u v)) (told_in note)) l.log)
