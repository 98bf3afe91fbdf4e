use Rattle.std.proofs.Common.{◌≡◌, map, take}
use Rattle.ev_step_lines.specs.Lines.{shown_capture}
use Rattle.ev_step_lines.proofs.shown.caught_all.Given as goal

abbrev pub invariant-loop-capture : goal.invariant-loop-capture
invariant-loop-capture l = l.all ≡ map (shown_capture l.teller) (take l.capture-index l.captures)
