-- The lines before each of the events of a history.
use Rattle.std.proofs.Common.{◌≡◌, ℕ, zero, suc, List, [], ◌∷◌, take, slice_get, Some, ap}
use Rattle.def_event.specs.declared.event.Event.{Event}
use Rattle.def_event.specs.Uses.{Line, and_lines, line_after}

pub lines_step : (past : List Line) (es : List Event) (i : ℕ) (e : Event) → slice_get es i ≡ Some e → and_lines past (take (suc i) es) ≡ line_after (and_lines past (take i es)) e ∷ and_lines past (take i es)
lines_step past [] i e h = absurd cc
lines_step past (x ∷ es) zero e h = let same : x ≡ e = cc in ap (λ (y : Event). line_after past y ∷ past) same
lines_step past (x ∷ es) (suc i) e h = lines_step (line_after past x ∷ past) es i e h
