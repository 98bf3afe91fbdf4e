-- What a run with hostile vats leaves that stops: the configuration to which it came before the step that stopped.
use Rattle.std.specs.Prelude.{◌≡◌, ◌⊎◌, ◌+◌, ℕ, zero, List, ◌∷◌, ◌++◌, length}
use Rattle.def_machine.specs.State.{Stop}
use Rattle.def_run.specs.World.{Program}
use Rattle.def_hostile.specs.Hostile.{Play, Scene, Plays, Breaks, Doing, is_hostile, honest_before, step_of, starts, opens, opens_from, does, does_all, acts}
use Rattle.def_hostile.specs.Plays.{ComesTo}

-- What there is where it stops is one of the configurations to which it comes. Nothing of the step that stopped is left: no frame is off its link, nothing is claimed, no link is cut.
abbrev pub StopsLeaveWhatWas : Type 0
StopsLeaveWhatWas = (play : Play) (c : Stop) (k : ℕ) (s : Scene) → acts play ≡ Breaks c k s → ComesTo play s

-- The opening turn of the next vat stops there, after those of the vats before it, and has the number k;
abbrev pub OpeningStops : Play → Stop → ℕ → Scene → Type 0
OpeningStops play c k s = (ps rest : List Program) × (p : Program) × (play.script.vats ≡ ps ++ p ∷ rest) × (opens_from play zero ps (starts play) ≡ Plays s) × (opens play (is_hostile play (length ps)) (length ps) p s ≡ Breaks c k s) × (k ≡ honest_before play (length ps))

-- or the next entry or injected frame does, after all opening turns and what is done before it.
abbrev pub DoingStops : Play → Stop → ℕ → Scene → Type 0
DoingStops play c k s = (opened : Scene) × (ds rest : List Doing) × (d : Doing) × (play.doings ≡ ds ++ d ∷ rest)
    × (opens_from play zero play.script.vats (starts play) ≡ Plays opened) × (does_all play ds 1 opened ≡ Plays s) × (does play d (1 + length ds) s ≡ Breaks c k s) × (k ≡ step_of play (1 + length ds))

-- The step that stops is the next one in that configuration, for that reason, and of that number.
abbrev pub NextStepsStop : Type 0
NextStepsStop = (play : Play) (c : Stop) (k : ℕ) (s : Scene) → acts play ≡ Breaks c k s → OpeningStops play c k s ⊎ DoingStops play c k s
