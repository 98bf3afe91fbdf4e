-- What is met of those that are left is met of all.
use Rattle.std.proofs.Common.{◌≡◌, drop}
use Rattle.ev_refs.specs.Leading.{lists_of, meet_all}
use Rattle.ev_refs.proofs.refs.Refs.meet_members.Given as goal

abbrev pub invariant-loop-member : goal.invariant-loop-member
invariant-loop-member l = meet_all (lists_of l.self (drop l.member-index l.members)) l.search ≡ meet_all (lists_of l.self l.members) l.initial.search
