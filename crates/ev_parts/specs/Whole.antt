-- When bytes are an operation, and how its items lie in them.
use Rattle.std.specs.Prelude.{◌≡◌, ℕ, ◌<◌, List, All, AllPairs, unwrap_or}
use Rattle.def_op.specs.Frames.{Operation, IsOp, spelling}
use Rattle.def_op.specs.declared.spots.Spot.{Spot}
use Rattle.def_op.specs.declared.spots.Parts.{Parts}

-- the bytes are the whole spelling of an operation
abbrev pub IsWhole : List ℕ → Type 0
IsWhole bytes = (op : Operation) × IsOp op × (bytes ≡ spelling op)

-- the offsets go up, and lie before a place
abbrev pub AreInOrder : List Spot → ℕ → Type 0
AreInOrder spots place = AllPairs (λ a b. a.at < b.at) spots × All (λ spot. spot.at < place) spots

-- the place of the stop, or the end of so many bytes
abbrev pub place_of : Parts → ℕ → ℕ
place_of parts total = unwrap_or parts.stop total
