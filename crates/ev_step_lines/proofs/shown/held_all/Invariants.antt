use Rattle.std.proofs.Common.{◌≡◌, take}
use Rattle.ev_step_lines.specs.Lines.{all_held}
use Rattle.ev_step_lines.proofs.shown.held_all.Given as goal

-- the first ones are shown
abbrev pub invariant-loop-place : goal.invariant-loop-place
invariant-loop-place l = l.all ≡ all_held l.teller (take l.place l.values)
