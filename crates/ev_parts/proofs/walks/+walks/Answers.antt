use Rattle.std.proofs.lemmas.Result.{err_from_is_err_and}
use Rattle.def_op.specs.Items.{left, walk_members, walk_member}
use Rattle.ev_parts.proofs.WalkLoop.{goes_on, ends, is_done}
use Rattle.ev_parts.proofs.walks.+walks.Goals as goal

pub members-returns-in_err-room : goal.members-returns-in_err-room
members-returns-in_err-room t c =
    let p = err_from_is_err_and c.from_residual.result c.from_residual.ensures.1 in
    rw (p.1, p.2) (ends (walk_member c.args.total c.args.inside) c.in_err-room.field-0.0 c.args.count c.loop.counter c.loop.left c.loop.spots.items c.member.new.spots.items c.loop.rest.now (walk_members (walk_member c.args.total c.args.inside) c.args.count c.args.room c.args.spots.now.items c.args.bytes.now) c.loop-test.true c.in_err-room.ensures c.loop.invariant)

pub members-loop-preserved : goal.members-loop-preserved
members-loop-preserved t c =
    goes_on (walk_member c.args.total c.args.inside) c.args.count c.loop.counter c.loop.left c.loop.spots.items c.member.new.spots.items c.loop.rest.now (left c.in_ok-room.room c.in_ok-room.after.now) (walk_members (walk_member c.args.total c.args.inside) c.args.count c.args.room c.args.spots.now.items c.args.bytes.now) c.loop-test.true c.in_ok-room.ensures c.loop.invariant

pub members-returns : goal.members-returns
members-returns t c = is_done (walk_member c.args.total c.args.inside) c.args.count c.loop.counter c.loop.left c.loop.spots.items c.loop.rest.now (walk_members (walk_member c.args.total c.args.inside) c.args.count c.args.room c.args.spots.now.items c.args.bytes.now) c.loop-test.false c.loop.invariant
