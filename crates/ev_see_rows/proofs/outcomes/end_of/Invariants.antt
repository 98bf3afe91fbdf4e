-- what is left to follow comes to the same end
use Rattle.std.proofs.Common.{◌≡◌, ◌-◌}
use Rattle.def_see.specs.Rows.{end_from, most_followed}
use Rattle.ev_see_rows.proofs.outcomes.end_of.Given as goal

abbrev pub invariant-loop-followed : goal.invariant-loop-followed
invariant-loop-followed l = end_from (64 - l._followed) l.lines l.end ≡ end_from most_followed l.lines l.fn.name
