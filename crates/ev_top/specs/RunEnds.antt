-- The status of a run of a script, by how it ended.
use Rattle.ev_script.specs.declared.script.Script.{Script}
use Rattle.ev_world.specs.declared.run.RunEnd.{RunEnd}
use Rattle.ev_world.specs.declared.run.RunEnd.TheVariants as end
use Rattle.ev_top.specs.RunDue.{astray}
use Rattle.ev_top.specs.Machine.{vat_of_step}
use Rattle.ev_io.specs.declared.status.Status.{Status}
use Rattle.ev_io.specs.declared.status.Status.TheVariants.{Done, FuelSpent, ProgramRefused, TooDeep, WordRepeated}

abbrev pub status_by : Script → RunEnd → Status
status_by script end.Done = Done
status_by script (end.FuelSpent step) = FuelSpent step
status_by script (end.TooDeep step) = TooDeep step
status_by script (end.WordRepeated first second) = WordRepeated first second
status_by script (end.Astray step) = ProgramRefused (astray (vat_of_step script step))
