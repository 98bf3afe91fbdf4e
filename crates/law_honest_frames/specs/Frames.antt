-- A play of an accepted script without hostile vats, in the vats' own numbers.
use Rattle.std.specs.Prelude.{◌≡◌, ℕ, zero, List, ◌++◌, map}
use Rattle.def_run.specs.Numbers as run
use Rattle.def_run.specs.Numbers.{Runs, begins, open_from, steps_from}
use Rattle.def_run.specs.Text as text
use Rattle.def_run.specs.World as world
use Rattle.def_run.specs.World.{Script, Program, Entry}
use Rattle.def_run.specs.Numbers.{Vats}
use Rattle.def_hostile.specs.Claims.{Claim}
use Rattle.def_hostile.specs.Hostile.{Does}
use Rattle.def_hostile.specs.Numbers.{starts, opens_from, does_all, performs}
use Rattle.def_hostile.specs.NumbersText as numbers
use Rattle.law_hostile_frame.specs.Honest.{honest, cast_of, ComesTo, EndsIn, FramesAreReceivedInTheRun}
use Rattle.law_instance.specs.Honest.{IsAccepted}

abbrev pub HonestFramesAreReceived : Type 0
HonestFramesAreReceived = (script : Script) → IsAccepted script → FramesAreReceivedInTheRun script

-- so does the play of the whole run, and of each front of it
abbrev pub HonestPlaysAreRunsInNumbers : Type 0
HonestPlaysAreRunsInNumbers = (script : Script) → IsAccepted script
    → ((ps rest : List Program) → script.vats ≡ ps ++ rest → ComesTo script (open_from script zero ps (begins script)) (opens_from (honest script) zero ps (starts (honest script))))
    × ((es rest : List Entry) (W : Vats) (made : List Claim) → script.schedule ≡ es ++ rest → open_from script zero script.vats (begins script) ≡ Runs W → ComesTo script (steps_from script es 1 W) (does_all (honest script) (map Does es) 1 (cast_of script made W)))
    × EndsIn script (run.run script) (performs (honest script))

-- and its text is that of the machine's run
abbrev pub HonestTextsInNumbersAreRuns : Type 0
HonestTextsInNumbersAreRuns = (script : Script) → IsAccepted script
    → (numbers.text (honest script) (performs (honest script)) ≡ text.text script (world.run script))
    × (numbers.wire_text (honest script) (performs (honest script)) ≡ text.wire_text script (world.run script))
