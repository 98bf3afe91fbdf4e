-- Events that were told, one by one.
use Rattle.std.proofs.Common.{◌≡◌, List, [], ◌∷◌, ◌++◌, Option, Some, None, refl, ap}
use Rattle.def_event.specs.declared.event.Event.{Event}
use Rattle.ev_trace.specs.Reading.{somes}

pub somes_some : (found : List (Option Event)) (event : Event) → somes (found ++ Some event ∷ []) ≡ somes found ++ event ∷ []
somes_some [] event = refl
somes_some (None ∷ found) event = somes_some found event
somes_some (Some first ∷ found) event = ap (λ es. first ∷ es) (somes_some found event)

pub somes_none : (found : List (Option Event)) → somes (found ++ None ∷ []) ≡ somes found
somes_none [] = refl
somes_none (None ∷ found) = somes_none found
somes_none (Some first ∷ found) = ap (λ es. first ∷ es) (somes_none found)
