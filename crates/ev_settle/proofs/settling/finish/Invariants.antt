use Rattle.std.proofs.Common.{◌≡◌, ◌-◌}
use Rattle.ev_settle.specs.Settling.{patience, run}
use Rattle.ev_settle.proofs.settling.finish.Given as goal

-- what is left comes to what the whole comes to
abbrev pub invariant-loop : goal.invariant-loop
invariant-loop l = run (patience - l.counter) l.tasks l.inside ≡ run patience l.fn.tasks l.initial.inside
