-- What is frozen and what is near, in the terms of the code.
use Rattle.std.specs.Prelude.{ℕ, ◌<◌, ◌&&◌, nat_le, Bool, true, false, List, [], length, slice_get, option_map, unwrap_or}
use Rattle.ev_base.specs.declared.values.Value.{Value}
use Rattle.ev_base.specs.declared.values.Value.TheVariants.{Prim, Obj, Prom, Far, Broken}
use Rattle.ev_heap.specs.Contents.{Contents, IsWeighable, height_of, is_plain}
use Rattle.ev_audit.specs.Stamps.{bears, stamps_in}

-- the stamps of the object of a number
abbrev pub stamps_at : Contents → ℕ → List Value
stamps_at h i = unwrap_or (option_map (λ thing. stamps_in thing.shape) (slice_get h.things i)) []

-- what the heap holds of a value is there
abbrev pub IsHeld : Contents → Value → Type 0
IsHeld h (Obj i) = i < length h.things
IsHeld h v = IsWeighable h v

-- data with no name at any depth, of lists at most 100 high, a primitive, or an object that bears the stamp of DeepFrozen
abbrev pub is_frozen : Contents → Value → Bool
is_frozen h (Obj i) = bears (Prim 17) (stamps_at h i)
is_frozen h (Prom k) = false
is_frozen h (Far vat position) = false
is_frozen h v = is_plain h v && nat_le (height_of h v) 100

-- an object of this vat or data, and no promise, nothing far and nothing broken
abbrev pub is_near : Value → Bool
is_near (Prom k) = false
is_near (Far vat position) = false
is_near (Broken id) = false
is_near v = true
