-- The rest of the members leads to all.
use Rattle.std.proofs.Common.{drop}
use Rattle.def_op.specs.Views.{all_described}
use Rattle.ev_vat.proofs.Rooms.{LeadsTo}
use Rattle.ev_vat.proofs.fitting.+fitting.Given as goal

abbrev pub invariant-room_inside-loop-member : goal.invariant-room_inside-loop-member
invariant-room_inside-loop-member l = LeadsTo l.height l.left l.room (all_described (drop l.member-index l.members)) (all_described l.members)
