-- The play of a script without hostile vats, and what it comes to beside the run of the script.
use Rattle.std.specs.Prelude.{◌≡◌, ℕ, zero, ◌≤◌, false, List, [], ◌∷◌, ◌++◌, ◌⊎◌, Some, length, slice_get, map}
use Rattle.def_machine.specs.Values.{Name}
use Rattle.def_machine.specs.State.{Note, Vat, Stop, Done, Stops}
use Rattle.def_machine.specs.Arrive.{arrive}
use Rattle.def_machine.specs.Receive.{receive}
use Rattle.def_run.specs.Entered.{sight_by}
use Rattle.def_run.specs.Text as run
use Rattle.def_run.specs.Wire.{connected_at}
use Rattle.def_run.specs.World.{Script, Program, Entry, Link, World, Run, Goes, Stopped, begins, open_from, step, steps_from, link_at, names, names_of, read_note, readied}
use Rattle.def_run.specs.World as world
use Rattle.def_hostile.specs.Hostile.{Play, Does, Told, Scene, Acted, Plays, Breaks, starts, opens_from, does, does_all, acts}
use Rattle.def_hostile.specs.HostileText as hostile
use Rattle.law_machine.specs.Halting.Halted.{LeavesOf}
use Rattle.law_fate.specs.Fates.WholeFateRuns.{KnowsVats}
use Rattle.law_fate.specs.Name.Runs.{KnowsOnce}
use Rattle.law_reference.specs.Reference.Cuts.{NoticesFollowCuts}

-- no vat is hostile, and what is done is the schedule
abbrev pub honest : Script → Play
honest script = record { script = script; hostile = []; doings = map Does script.schedule }

-- The scene of a world: nothing is injected, nothing is claimed, and the lines are those of its history.
abbrev pub scene_of : Script → World → Scene
scene_of script w = record { world = w; raws = (starts (honest script)).raws; claims = []; lines = map Told w.history }

-- ---- outcomes

-- What is done goes where the run goes, to the scene of its world, or stops as it does: for the same reason, in the same step. What the run leaves has the note that was carried off its link; the scene is that of the world before the step.
abbrev pub ComesTo : Script → Run → Acted → Type 0
ComesTo script (Goes y) a = a ≡ Plays (scene_of script y)
ComesTo script (Stopped c n y) a = (x : World) × LeavesOf x y × (a ≡ Breaks c n (scene_of script x))

-- The same of the end. The closing list stands in the lines; the run has it in its history, and the scene's world is that before it.
abbrev pub EndsIn : Script → Run → Acted → Type 0
EndsIn script (Goes y) a = (x : World) × (world.close script x ≡ Goes y) × (a ≡ Plays (record (scene_of script x) { lines = map Told y.history }))
EndsIn script (Stopped c n y) a = (x : World) × LeavesOf x y × (a ≡ Breaks c n (scene_of script x))

-- ---- steps

-- one outcome, or both stop for one reason
abbrev pub SameOutcome : Done Name (Unit {0}) → Done Name (Unit {0}) → Type 0
SameOutcome d e = (d ≡ e) ⊎ ((c : Stop) × (s : Vat Name) × (t : Vat Name) × (d ≡ Stops c s) × (e ≡ Stops c t))

-- The next note on each link that is not cut has a receiver, which makes of it as it receives it what it makes of it as it arrives.
abbrev pub NextAreReceived : Script → World → Type 0
NextAreReceived script x = (v u : ℕ) (l : Link) (n : Note Name) (ns : List (Note Name)) → link_at v u x.links ≡ Some l → l.cut ≡ false → l.notes ≡ n ∷ ns → (s : Vat Name) × (slice_get x.vats u ≡ Some s)
    × SameOutcome (receive (names script u) (sight_by (names_of s) (connected_at u v x.connections).tables) v (read_note (names_of s) n) (readied x s)) (arrive (names script u) v (read_note (names_of s) n) (readied x s))

-- each entry does with the scene of a world what it makes of the world
abbrev pub StepsAlike : Script → World → Type 0
StepsAlike script x = (e : Entry) (k : ℕ) → ComesTo script (step script e k x) (does (honest script) (Does e) k (scene_of script x))

-- ---- laws

-- what each script has that is read
abbrev pub IsAccepted : Script → Type 0
IsAccepted script = KnowsOnce script × KnowsVats script × NoticesFollowCuts script.schedule × (length script.vats ≤ 16)

-- of each world that the schedule comes through
abbrev pub InTheRun : Script → (World → Type 0) → Type 0
InTheRun script P = (es rest : List Entry) (w x : World) → script.schedule ≡ es ++ rest → open_from script zero script.vats (begins script) ≡ Goes w → steps_from script es 1 w ≡ Goes x → P x

abbrev pub HonestNotesAreReceived : Type 0
HonestNotesAreReceived = (script : Script) → IsAccepted script → InTheRun script (NextAreReceived script)

abbrev pub HonestStepsAreAlike : Type 0
HonestStepsAreAlike = (script : Script) → IsAccepted script → InTheRun script (StepsAlike script)

-- so does the play of its whole run, and of each front of it
abbrev pub HonestPlaysAreRuns : Type 0
HonestPlaysAreRuns = (script : Script) → IsAccepted script
    → ((ps rest : List Program) → script.vats ≡ ps ++ rest → ComesTo script (open_from script zero ps (begins script)) (opens_from (honest script) zero ps (starts (honest script))))
    × ((es rest : List Entry) (w : World) → script.schedule ≡ es ++ rest → open_from script zero script.vats (begins script) ≡ Goes w → ComesTo script (steps_from script es 1 w) (does_all (honest script) (map Does es) 1 (scene_of script w)))
    × EndsIn script (world.run script) (acts (honest script))

-- and its text is that of the run, line for line, without frames and with them
abbrev pub HonestTextsAreRuns : Type 0
HonestTextsAreRuns = (script : Script) → IsAccepted script
    → (hostile.text (honest script) (acts (honest script)) ≡ run.text script (world.run script))
    × (hostile.wire_text (honest script) (acts (honest script)) ≡ run.wire_text script (world.run script))
