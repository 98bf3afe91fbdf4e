-- What laws of histories say of plays without hostile vats.
use Rattle.std.specs.Prelude.{◌≡◌, ◌≤◌, List, [], ◌∷◌}
use Rattle.def_machine.specs.Values.{Name}
use Rattle.def_run.specs.Text.{history_of}
use Rattle.def_run.specs.World.{Script, Event, run}
use Rattle.def_hostile.specs.Hostile.{Line, Told, Acted, Plays, Breaks, acts}
use Rattle.law_fate.specs.Fates.Fate.{fates, sent}
use Rattle.law_instance.specs.Honest.{honest, IsAccepted}

-- the events among these lines, in order
unfoldable pub events_in : List Line → List Event
events_in [] = []
events_in (Told e ∷ ls) = e ∷ events_in ls
events_in (l ∷ ls) = events_in ls

unfoldable pub events_told : Acted → List Event
events_told (Plays s) = events_in s.lines
events_told (Breaks c k s) = events_in s.lines

-- What is told is the history of the run, to its end or to where it stops; so what holds of that holds of this.
abbrev pub HonestPlaysTellHistories : Type 0
HonestPlaysTellHistories = (script : Script) → IsAccepted script → events_told (acts (honest script)) ≡ history_of (run script)

-- Thus a message is sent once at most, and no more often taken and lost than sent.
abbrev pub HonestPlaysGiveOneFate : Type 0
HonestPlaysGiveOneFate = (script : Script) → IsAccepted script → (x : Name) → (fates x (events_told (acts (honest script))) ≤ sent x (events_told (acts (honest script)))) × (sent x (events_told (acts (honest script))) ≤ 1)

-- opens each definition of this file
unfoldable pub opened_corollaries : Unit {0}
unfolding events_in events_told
opened_corollaries = tt
