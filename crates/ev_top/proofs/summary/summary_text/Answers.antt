use Rattle.std.proofs.Common.{refl, ◌∙◌, append_assoc}
use Rattle.def_run.specs.Text.{stop_line}
use Rattle.ev_top.proofs.summary.summary_text.Goals as goal

pub returns-in_ok-format-in-FuelSpent : goal.returns-in_ok-format-in-FuelSpent
unfolding stop_line
returns-in_ok-format-in-FuelSpent c = rw c.in-FuelSpent.is (c.in_ok-format-in-FuelSpent.ensures.ok ∙ refl)

pub returns-in_ok-format-in-TooDeep : goal.returns-in_ok-format-in-TooDeep
unfolding stop_line
returns-in_ok-format-in-TooDeep c = rw c.in-TooDeep.is (c.in_ok-format-in-TooDeep.ensures.ok ∙ refl)

pub returns-in_ok-format-in-WordRepeated : goal.returns-in_ok-format-in-WordRepeated
unfolding stop_line
returns-in_ok-format-in-WordRepeated c = rw c.in-WordRepeated.is (c.in_ok-format-in-WordRepeated.ensures.ok ∙ simp append_assoc)

pub returns-in_ok-format-in-Astray : goal.returns-in_ok-format-in-Astray
unfolding stop_line
returns-in_ok-format-in-Astray c = rw c.in-Astray.is (c.in_ok-format-in-Astray.ensures.ok ∙ refl)
