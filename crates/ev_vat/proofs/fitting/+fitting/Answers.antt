use Rattle.std.proofs.Common.{List, subst, arith}
use Rattle.def_op.specs.Views.{all_described, described}
use Rattle.def_op.specs.declared.op.Desc.{Desc}
use Rattle.ev_vat.proofs.Rooms.{Inside, leads_done, leads_not, leads_on, leaf_left, list_left, no_room, not_fit}
use Rattle.ev_vat.proofs.fitting.+fitting.Goals as goal

pub room_beside-returns-then-not-own_fits : goal.room_beside-returns-then-not-own_fits
room_beside-returns-then-not-own_fits t c = not_fit c.args.height c.args.room (described c.args.desc.now) c.own_fits.result c.if-not-own_fits.true c.own_fits.ensures.1

pub room_beside-returns-in_err-left : goal.room_beside-returns-in_err-left
room_beside-returns-in_err-left t c =
    no_room c.args.height c.args.room (described c.args.desc.now) c.from_residual.result c.from_residual.ensures (λ le. c.in_err-left.ensures (omega (arith, c.own_weight.ensures, le)))

pub room_beside-returns-in-ListOf : goal.room_beside-returns-in-ListOf
room_beside-returns-in-ListOf t c =
    list_left c.args.height c.args.room c.in_ok-left.left c.args.desc.now c.in-ListOf.members c.room_inside.result c.in-ListOf.is (omega (arith, c.own_weight.ensures, c.in_ok-left.ensures.0, c.in_ok-left.ensures.1))
    (subst (λ (ds : List Desc). Inside c.args.height c.in_ok-left.left (all_described ds) c.room_inside.result) c.as_slice.ensures.value c.room_inside.ensures)

pub room_beside-returns-in_default : goal.room_beside-returns-in_default
room_beside-returns-in_default t c =
    leaf_left c.args.height c.args.room c.in_ok-left.left c.args.desc.now c.in_default.not-ListOf (c.own_fits.ensures.0 c.if-not-own_fits.false) (omega (arith, c.own_weight.ensures, c.in_ok-left.ensures.0, c.in_ok-left.ensures.1))

pub room_inside-returns-in_err-left : goal.room_inside-returns-in_err-left
room_inside-returns-in_err-left t c =
    leads_not c.args.height c.loop-member.left c.args.room c.loop-member.member-index c.args.members.now c.member-item.result c.from_residual.result c.from_residual.ensures c.loop-member-test.true c.member-item.is c.in_err-left.ensures c.loop-member.invariant

pub room_inside-loop-member-preserved : goal.room_inside-loop-member-preserved
room_inside-loop-member-preserved t c =
    leads_on c.args.height c.loop-member.left c.in_ok-left.left c.args.room c.loop-member.member-index c.args.members.now c.member-item.result c.loop-member-test.true c.member-item.is c.in_ok-left.ensures c.loop-member.invariant

pub room_inside-returns : goal.room_inside-returns
room_inside-returns t c = leads_done c.args.height c.loop-member.left c.args.room c.loop-member.member-index c.args.members.now (omega arith) c.loop-member-test.false c.loop-member.invariant
