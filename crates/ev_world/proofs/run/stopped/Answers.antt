use Rattle.std.proofs.Common.{refl, ◌∙◌, append_assoc}
use Rattle.def_run.specs.Text.{stop_line}
use Rattle.ev_world.proofs.run.stopped.Goals as goal

pub returns-in_ok-format-in-WordRepeated : goal.returns-in_ok-format-in-WordRepeated
unfolding stop_line
returns-in_ok-format-in-WordRepeated c = rw c.in-WordRepeated.is (refl, c.in_ok-format-in-WordRepeated.ensures.ok ∙ simp append_assoc)
