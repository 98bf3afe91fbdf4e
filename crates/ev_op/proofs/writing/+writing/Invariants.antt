use Rattle.std.proofs.Common.{◌≡◌, ◌++◌, take}
use Rattle.def_op.specs.Frames.{members_bytes}
use Rattle.def_op.specs.Views.{all_described}
use Rattle.ev_op.proofs.writing.+writing.Given as goal

abbrev pub invariant-put_members-loop-member : goal.invariant-put_members-loop-member
invariant-put_members-loop-member l = l.out.items ≡ l.initial.out.items ++ members_bytes (all_described (take l.member-index l.members))
