-- A play that is read, as the machine's play.
use Rattle.std.specs.Prelude.{ℕ, List, map}
use Rattle.def_kernel.specs.declared.node.Node.{Node}
use Rattle.def_hostile.specs.Hostile as machine
use Rattle.law_schedule.specs.Scripts.{machine_entry, machine_script}
use Rattle.ev_play.specs.declared.play.Doing.{Doing}
use Rattle.ev_play.specs.declared.play.Doing.TheVariants.{Does, Inject}
use Rattle.ev_play.specs.declared.play.Play.{Play}

abbrev pub machine_doing : Doing → machine.Doing
machine_doing (Does e) = machine.Does (machine_entry e)
machine_doing (Inject v w bytes) = machine.Injects v w bytes

-- the machine's play, by the greatest depth and the tree of each vat's program
abbrev pub machine_play : ℕ → (ℕ → List Node) → Play → machine.Play
machine_play depth tree play = record {
  script = machine_script depth tree play.script;
  hostile = play.hostile;
  doings = map machine_doing play.doings;
}
