-- The run of a script in each vat's own numbers is the machine's run.
use Rattle.std.specs.Prelude.{◌≡◌}
use Rattle.def_run.specs.Text as theirs
use Rattle.def_run.specs.World as machine
use Rattle.def_run.specs.World.{Script}
use Rattle.def_run.specs.Numbers as numbers
use Rattle.def_run.specs.LocalText as ours
use Rattle.law_frame.specs.Local.Mirrors.{RunMirrors}
use Rattle.law_frame.specs.Local.Joined.{IsLawful}

-- Both go to the end and stand for one another there, or both stop in the same step for the same reason.
abbrev pub WholeRunsMirror : Type 0
WholeRunsMirror = (script : Script) → IsLawful script → RunMirrors (machine.run script) (numbers.run script)

-- And their texts are one, with the frames and without.
abbrev pub WholeTextsMirror : Type 0
WholeTextsMirror = (script : Script) → IsLawful script → (ours.text script (numbers.run script) ≡ theirs.text script (machine.run script)) × (ours.wire_text script (numbers.run script) ≡ theirs.wire_text script (machine.run script))
