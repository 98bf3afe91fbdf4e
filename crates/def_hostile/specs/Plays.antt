-- The configurations to which a run with hostile vats comes.
use Rattle.std.specs.Prelude.{◌≡◌, ℕ, zero, List, ◌++◌, ◌⊎◌}
use Rattle.def_run.specs.World.{Program}
use Rattle.def_hostile.specs.Hostile.{Play, Scene, Plays, Doing, starts, opens_from, does_all, acts}

-- after some of the opening turns
abbrev pub Opens : Play → Scene → Type 0
Opens play s = (ps : List Program) × (rest : List Program) × (play.script.vats ≡ ps ++ rest) × (opens_from play zero ps (starts play) ≡ Plays s)

-- after all of them, and some entries and injected frames
abbrev pub Goes : Play → Scene → Type 0
Goes play s = (opened : Scene) × (ds : List Doing) × (rest : List Doing) × (play.doings ≡ ds ++ rest) × (opens_from play zero play.script.vats (starts play) ≡ Plays opened) × (does_all play ds 1 opened ≡ Plays s)

-- the run comes to that configuration: so, or where it ends
abbrev pub ComesTo : Play → Scene → Type 0
ComesTo play s = Opens play s ⊎ (Goes play s ⊎ (acts play ≡ Plays s))
