-- Values kept in eight bytes each, and those that want more aside.
use Rattle.std.specs.Prelude.{◌≡◌, ℕ, ◌<◌, List, [], ◌∷◌, get_or, map}
use Rattle.ev_base.specs.declared.values.Value.{Value}
use Rattle.ev_base.specs.declared.values.Value.TheVariants as value
use Rattle.ev_heap.specs.declared.packed.Small.{Small}
use Rattle.ev_heap.specs.declared.packed.Small.TheVariants as small

-- the value of a small one, where these stand aside
abbrev pub value_of : List Value → Small → Value
value_of bs small.Null = value.Null
value_of bs (small.Bool b) = value.Bool b
value_of bs (small.Int n) = value.Int n
value_of bs (small.Char c) = value.Char c
value_of bs (small.Text i) = value.Text i
value_of bs (small.List i) = value.List i
value_of bs (small.Prim i) = value.Prim i
value_of bs (small.Obj i) = value.Obj i
value_of bs (small.Prom i) = value.Prom i
value_of bs (small.Far i v) = value.Far v i
value_of bs (small.Broken i) = value.Broken i
value_of bs (small.Aside i) = get_or bs i value.Null

-- the values of small ones
unfoldable pub values_of : List Value → List Small → List Value
values_of bs ss = map (value_of bs) ss

-- it stands aside where the first n stand, if it does
abbrev pub IsHeld : ℕ → Small → Type 0
IsHeld n (small.Aside i) = i < n
IsHeld n _ = Unit {0}

-- so does each
unfoldable pub AreHeld : ℕ → List Small → Type 0
AreHeld n [] = Unit {0}
AreHeld n (s ∷ ss) = IsHeld n s × AreHeld n ss

-- it is the small one of this value, wherever it stands
abbrev pub IsSmallOf : Value → Small → Type 0
IsSmallOf v s = (bs : List Value) → (value_of bs s ≡ v) × IsHeld 0 s
