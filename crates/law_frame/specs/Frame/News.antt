-- The news that a name settled at another host is read alike in numbers and in names.
use Rattle.std.specs.Prelude.{◌≡◌, ℕ, zero, List, ◌∷◌, Some, slice_get}
use Rattle.def_machine.specs.Values.{Name}
use Rattle.def_machine.specs.State.{Note, Elsewhere, Vat}
use Rattle.law_fate.specs.Name.Runs.{KnowsOnce}
use Rattle.def_run.specs.World.{Script, Entry, World, Goes, begins, open_from, steps_from}
use Rattle.law_reference.specs.Reference.Cuts.{NoticesFollowCuts}
use Rattle.law_frame.specs.Frame.Known.{OnUncutLink}
use Rattle.law_frame.specs.Frame.Alike.{by_numbers, by_names}

-- In every world of a run in which each notice stands behind a cut of the same two vats: where the next note to arrive on a link that is not cut tells that a name settled at another host, the receiver reads it by its own numbers as the one machine reads it in names.
abbrev pub NewsIsReadAlike : Type 0
NewsIsReadAlike = (script : Script) → KnowsOnce script → (w x : World) (es : List Entry) (k : ℕ) → NoticesFollowCuts es → open_from script zero script.vats (begins script) ≡ Goes w → steps_from script es k w ≡ Goes x
    → (v u : ℕ) (s : Vat Name) → slice_get x.vats u ≡ Some s → (v ≡ u → ⊥) → OnUncutLink x v u (λ l. (n : Name) (c : ℕ) (ns : List (Note Name)) → l.notes ≡ Elsewhere n c ∷ ns → by_numbers script x v u s (Elsewhere n c) ≡ by_names v s (Elsewhere n c))
