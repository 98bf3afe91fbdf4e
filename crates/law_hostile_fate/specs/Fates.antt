-- In a run with hostile vats each message has one place or one fate at most.
use Rattle.std.specs.Prelude.{ℕ, ◌+◌, ◌≤◌, List}
use Rattle.def_machine.specs.Values.{Name}
use Rattle.def_run.specs.World.{Event}
use Rattle.def_hostile.specs.Hostile.{Play, Scene, Acted, Plays, Breaks, acts}
use Rattle.law_fate.specs.Fates.Fate.{places, sent, fates}
use Rattle.law_injected.specs.HostileRuns.{IsHostile}
use Rattle.def_hostile.specs.Plays.{Opens, Goes}
use Rattle.law_hostile_fate.specs.Brought.{told, brought, arrivals}

-- So many places, the fates of a message, and its arrivals at hostile vats are together no more than its sends and the times that frames brought it; and of these there is one at most.
abbrev pub OneFate : List ℕ → Name → ℕ → List Event → Type 0
OneFate hs x held es = (held + fates x es + arrivals hs x es ≤ sent x es + brought hs x es) × (sent x es + brought hs x es ≤ 1)

-- of the scene with which a run ends, or at which it stopped
abbrev pub Ended : (Scene → Type 0) → Acted → Type 0
Ended P (Plays s) = P s
Ended P (Breaks c k s) = P s

-- In each scene of each run in which a vat is hostile, with the places that the message has there: after some opening turns, and after all of them and any entries and frames.
abbrev pub NoFrameDoubles : Type 0
NoFrameDoubles = (play : Play) (h : ℕ) → IsHostile play h → (x : Name)
    → ((s : Scene) → Opens play s → OneFate play.hostile x (places x s.world) (told s.lines))
    × ((s : Scene) → Goes play s → OneFate play.hostile x (places x s.world) (told s.lines))

-- in the lines of a whole run, with its closing list, or of one that stopped
abbrev pub OneFateAtMostWithFrames : Type 0
OneFateAtMostWithFrames = (play : Play) (h : ℕ) → IsHostile play h → (x : Name) → Ended (λ s. OneFate play.hostile x 0 (told s.lines)) (acts play)
