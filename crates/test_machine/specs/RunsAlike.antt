-- Runs in each vat's own numbers that have the text of the machine's run.
use Rattle.std.specs.Prelude.{◌≡◌}
use Rattle.def_run.specs.World as machine
use Rattle.def_run.specs.World.{Script}
use Rattle.def_run.specs.Text as theirs
use Rattle.def_run.specs.Numbers.{run}
use Rattle.def_run.specs.LocalText.{wire_text}

-- with its frames
abbrev pub RunsAlike : Script → Type 0
RunsAlike script = wire_text script (run script) ≡ theirs.wire_text script (machine.run script)
