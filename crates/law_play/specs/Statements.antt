-- What is said of plays that are read.
use Rattle.std.specs.Prelude.{◌≡◌, ◌≢◌, ◌<◌, ◌≤◌, ℕ, true, List, [], length, map, Ok, All, AllPairs}
use Rattle.def_kernel.specs.declared.node.Node.{Node}
use Rattle.def_machine.specs.State.{is_in}
use Rattle.def_run.specs.World as world
use Rattle.def_run.specs.Text as run
use Rattle.def_hostile.specs.Hostile as machine
use Rattle.def_hostile.specs.Hostile.{acts}
use Rattle.def_hostile.specs.HostileText as hostile
use Rattle.ev_play.specs.Play.{read_play}
use Rattle.ev_play.specs.declared.play.Play.{Play}
use Rattle.law_instance.specs.Honest.{honest, IsAccepted}
use Rattle.law_schedule.specs.Scripts.{machine_script}
use Rattle.law_play.specs.Plays.{machine_play}

-- two vats among so many
abbrev pub AreTwo : ℕ → ℕ → ℕ → Type 0
AreTwo count v w = (v < count) × (w < count) × (v ≢ w)

-- A hostile vat alone injects, and what it injects is bytes, from 1 to 4,096 of them.
abbrev pub IsDoing : ℕ → List ℕ → machine.Doing → Type 0
IsDoing count hs (machine.Does (world.Turn v)) = v < count
IsDoing count hs (machine.Does (world.Carry v w)) = AreTwo count v w
IsDoing count hs (machine.Does (world.CutLink v w)) = AreTwo count v w
IsDoing count hs (machine.Does (world.NoticeLink v w)) = AreTwo count v w
IsDoing count hs (machine.Injects v w bytes) = AreTwo count v w × (is_in v hs ≡ true) × (1 ≤ length bytes) × (length bytes ≤ 4096) × All (λ b. b < 256) bytes

-- what each play has that is read
pub record IsLawfulPlay (play : machine.Play) : Type 0 where
  -- its script is what the laws of runs ask a script to be
  pub accepted : IsAccepted play.script
  -- the hostile vats are vats of it, each once
  pub hostile : All (λ v. v < length play.script.vats) play.hostile × AllPairs ◌≢◌ play.hostile
  pub doings : (length play.doings ≤ 100000) × All (IsDoing (length play.script.vats) play.hostile) play.doings

abbrev pub PlaysAreLawful : Type 0
PlaysAreLawful = (bytes : List ℕ) (play : Play) → read_play bytes ≡ Ok play → (depth : ℕ) (tree : ℕ → List Node) → IsLawfulPlay (machine_play depth tree play)

-- one in which no vat is hostile is that of its script, which has the text of the script's run
abbrev pub HonestPlaysAreOfScripts : Type 0
HonestPlaysAreOfScripts = (bytes : List ℕ) (play : Play) → read_play bytes ≡ Ok play → play.hostile ≡ [] → (depth : ℕ) (tree : ℕ → List Node)
    → machine_play depth tree play ≡ honest (machine_script depth tree play.script)

abbrev pub HonestPlaysHaveTheirTexts : Type 0
HonestPlaysHaveTheirTexts = (bytes : List ℕ) (play : Play) → read_play bytes ≡ Ok play → play.hostile ≡ [] → (depth : ℕ) (tree : ℕ → List Node)
    → (hostile.text (machine_play depth tree play) (acts (machine_play depth tree play)) ≡ run.text (machine_script depth tree play.script) (world.run (machine_script depth tree play.script)))
    × (hostile.wire_text (machine_play depth tree play) (acts (machine_play depth tree play)) ≡ run.wire_text (machine_script depth tree play.script) (world.run (machine_script depth tree play.script)))
