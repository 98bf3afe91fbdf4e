-- What has a spelling, and what of a room for weight is left beside it.
use Rattle.std.specs.Prelude.{◌≡◌, ℕ, ◌+◌, ◌≤◌, List, Option, Some, None}
use Rattle.def_op.specs.Frames.{AreDescs, DescFits, Described, IsTarget, IsText, ListOf, Members, count, height, weight}

-- a description has a spelling but for the members of a list
unfoldable pub OwnFits : Described → Type 0
OwnFits (ListOf ds) = Unit {0}
OwnFits d = DescFits d

-- what it weighs without them
unfoldable pub own_weight : Described → ℕ
own_weight (ListOf ds) = 1
own_weight d = weight d

-- What of a room is left beside what weighs so much. There is none where the fact does not hold, or there is no room for it.
abbrev pub Within : Type 0 → ℕ → ℕ → Option ℕ → Type 0
Within P w room (Some left) = P × (w + left ≡ room)
Within P w room None = P → w ≤ room → ⊥

-- the same of a description of at most this height
abbrev pub Beside : ℕ → ℕ → Described → Option ℕ → Type 0
Beside h room d o = Within (DescFits d × (height d ≤ h)) (weight d) room o

-- the target, verb and arguments of a message
abbrev pub MessageFits : Described → List ℕ → Members → Type 0
MessageFits target verb args = IsTarget target × IsText verb × (count args ≤ 255) × AreDescs args
