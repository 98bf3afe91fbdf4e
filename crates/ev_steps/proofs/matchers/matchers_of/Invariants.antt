use Rattle.std.proofs.Common.{◌≡◌, ◌++◌, drop}
use Rattle.def_machine.specs.Scopes.{matchers_of}
use Rattle.ev_steps.proofs.matchers.matchers_of.Given as goal

-- the matchers so far, and then those of the rest, are all
abbrev pub invariant-loop-member : goal.invariant-loop-member
invariant-loop-member l = l.matchers ++ matchers_of l.tree (drop l.member-index l.members) ≡ matchers_of l.tree l.members
