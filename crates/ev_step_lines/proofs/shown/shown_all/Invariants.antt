use Rattle.std.proofs.Common.{◌≡◌, map, take}
use Rattle.ev_step_lines.specs.Lines.{shown_held}
use Rattle.ev_step_lines.proofs.shown.shown_all.Given as goal

abbrev pub invariant-loop-value : goal.invariant-loop-value
invariant-loop-value l = l.all ≡ map (shown_held l.teller) (take l.value-index l.values)
