-- What is left to add of lists in lists.
use Rattle.std.specs.Prelude.{◌⊎◌, ◌↔◌, List, [], ◌∷◌, map}
use denote.Ref.{Bor}
use Rattle.def_event.specs.declared.shown.Shown.{Shown}
use Rattle.def_event.specs.Uses.{IsAmong, all_parts}
use Rattle.ev_links.specs.declared.label.Label.{Label}
use Rattle.ev_links.specs.Label.{label}

abbrev pub IsOf : Label → List Shown → Type 0
IsOf l xs = IsAmong l (map label (all_parts xs))

-- it is of one of the lists that are open
abbrev pub IsLeft : Label → List (Bor (List Shown)) → Type 0
IsLeft l [] = ⊥
IsLeft l (rest ∷ lists) = IsOf l rest.now ⊎ IsLeft l lists

-- of the values and what was left, some were added and others are left
pub record Leaves (values : List Shown) (old : List Label) (lists : List (Bor (List Shown))) (new : List Label) (after : List (Bor (List Shown))) : Type 0 where
  pub each : (l : Label) → (IsAmong l new ⊎ IsLeft l after) ↔ (IsAmong l old ⊎ (IsLeft l lists ⊎ IsOf l values))
