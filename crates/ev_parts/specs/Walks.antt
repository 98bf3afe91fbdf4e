-- What a function that goes over items returns, beside the walk.
use Rattle.std.specs.Prelude.{◌≡◌, ℕ, List, Result, Ok, Err}
use Rattle.def_op.specs.declared.spots.Spot.{Spot}
use Rattle.def_op.specs.Items.{Walk, On, Off}
use Rattle.ev_op.specs.declared.fault.ReadError.{ReadError}
use Rattle.ev_op.specs.declared.fault.ReadError.TheVariants as reading
use Rattle.ev_parts.specs.declared.walking.WalkError.{WalkError}
use Rattle.ev_parts.specs.declared.walking.WalkError.TheVariants as errors

-- What a function returned and noted is what the walk gives, unless memory ran out.
abbrev pub Stops : {Y : Type 0} → WalkError → List Spot → Walk Y → Type 0
Stops errors.Memory spots walk = Unit {0}
Stops (errors.Stopped place) spots walk = walk ≡ Off spots place

abbrev pub Walks : {X Y : Type 0} → (X → Y) → Result X WalkError → List Spot → Walk Y → Type 0
Walks view (Ok x) spots walk = walk ≡ On spots (view x)
Walks view (Err e) spots walk = Stops e spots walk

-- what a reading that ended at this place stops a walk with
abbrev pub stopped : ℕ → ReadError → WalkError
stopped place reading.Memory = errors.Memory
stopped place reading.Refused = errors.Stopped place
