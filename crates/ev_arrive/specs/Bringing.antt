-- What a clause sees of what notes bring: which values they are, without where their parts lie in memory.
use Rattle.std.specs.Prelude.{ℕ, List, [], ◌∷◌, map}
use Rattle.ev_base.specs.declared.values.Value.{Value}
use Rattle.ev_arrive.specs.declared.brought.Brought.{Brought, fold-Brought}
use Rattle.ev_arrive.specs.declared.brought.Brought.TheOpen.{Brought-F}

-- a value as it arrives
mutual
  pub data Part : Type 0 where
    Plain : Value → Part
    New : ℕ → Part
    Gift : ℕ → ℕ → Part
    Many : Parts → Part

  pub data Parts : Type 0 where
    NoMore : Parts
    More : Part → Parts → Parts

abbrev pub parts : List Part → Parts
parts [] = NoMore
parts (p ∷ ps) = More p (parts ps)

-- one level, with each member already seen
abbrev pub part_step : Brought-F Part → Part
part_step (Brought-F.Plain v) = Plain v
part_step (Brought-F.New h) = New h
part_step (Brought-F.Gift h i) = Gift h i
part_step (Brought-F.List v) = Many (parts v.items)

abbrev pub part : Brought → Part
part = fold-Brought Part part_step

abbrev pub all_parts : List Brought → Parts
all_parts bs = parts (map part bs)
