-- None of those so far is followed to the name.
use Rattle.std.proofs.Common.{◌≡◌, drop}
use Rattle.std.specs.List.{list_any}
use Rattle.ev_refs.specs.Follow.{followed}
use Rattle.ev_refs.specs.Leading.{is_name}
use Rattle.ev_refs.proofs.refs.Refs.is_named.Given as goal

abbrev pub invariant-loop-member : goal.invariant-loop-member
invariant-loop-member l = list_any (λ v. is_name l.name (followed l.self v)) (drop l.member-index l.members) ≡ list_any (λ v. is_name l.name (followed l.self v)) l.members
