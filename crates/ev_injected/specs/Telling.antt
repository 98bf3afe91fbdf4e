-- What a history tells of injected frames that are left at the end.
use Rattle.std.specs.Prelude.{ℕ, List, [], ◌∷◌}
use Rattle.def_event.specs.declared.event.Event.{Event}
use Rattle.def_event.specs.declared.event.Event.TheVariants as event
use Rattle.def_event.specs.declared.raw.RawLine.TheVariants as raw

unfoldable pub left_frames : ℕ → ℕ → List (List ℕ) → List Event
left_frames v w [] = []
left_frames v w (x ∷ xs) = event.Raw (raw.LeftBytes v w x) ∷ left_frames v w xs
