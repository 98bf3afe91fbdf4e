-- A run of no vats.
use Rattle.std.specs.Prelude.{◌≡◌, [], ◌∷◌, codes}
use Rattle.def_run.specs.World.{Script, run}
use Rattle.def_run.specs.Text.{text}
use Rattle.test_machine.specs.Endings.{lines}
use Rattle.test_machine.specs.Keys.{zeros}

unfoldable pub script : Script
script = record {
  key = zeros;
  fuel = 1000000;
  depth = 400;
  vats =
      [];
  schedule = [];
}

abbrev pub Row01Holds : Type 0
Row01Holds = text script (run script) ≡ lines (
    codes "end"
    ∷ [])

-- opens the definitions of this file
unfoldable pub opened_row01 : Unit {0}
unfolding script
opened_row01 = tt
