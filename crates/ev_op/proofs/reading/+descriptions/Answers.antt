use Rattle.std.proofs.Common.{◌≡◌, ap, ◌∙◌, map}
use Rattle.std.proofs.lemmas.Result.{err_from_is_err_and}
use Rattle.std.proofs.lemmas.List.{map_push}
use Rattle.def_op.specs.Frames.{none, more, members}
use Rattle.def_op.specs.Views.{described, all_described}
use Rattle.def_op.specs.Reading.{members_at, member_at}
use Rattle.ev_op.proofs.Loop.{join, members-push, goes_on, ends, is_done}
use Rattle.ev_op.proofs.reading.+descriptions.Goals as goal

pub members_of-returns-in_err-member : goal.members_of-returns-in_err-member
members_of-returns-in_err-member t c =
    let p = err_from_is_err_and c.from_residual.result c.from_residual.ensures.1 in
    rw (p.1, p.2) (ends (member_at c.args.inside) c.in_err-member.field-0.0 (all_described c.loop.members.items) c.args.count c.loop.counter c.loop.left c.loop.rest.now (members_at (member_at c.args.inside) c.args.count c.args.room c.args.bytes.now) c.loop-test.true c.in_err-member.ensures c.loop.invariant)

pub members_of-loop-preserved : goal.members_of-loop-preserved
members_of-loop-preserved t c =
    let m = c.in_ok-member.member in
    let old = c.loop.members.items in
    let e : all_described c.push.new.self.items ≡ join (all_described old) (more (described m) none) =
    rw c.in_ok-push.ensures.items (ap members (map_push described old m) ∙ members-push (map described old) (described m)) in
    rw e (goes_on (member_at c.args.inside) (all_described old) c.args.count c.loop.counter c.loop.left c.loop.rest.now (record { value = described m; room = c.in_ok-member.room; rest = c.in_ok-member.after.now }) (members_at (member_at c.args.inside) c.args.count c.args.room c.args.bytes.now) c.loop-test.true c.in_ok-member.ensures c.loop.invariant)

pub members_of-returns : goal.members_of-returns
members_of-returns t c = is_done (member_at c.args.inside) (all_described c.loop.members.items) c.args.count c.loop.counter c.loop.left c.loop.rest.now (members_at (member_at c.args.inside) c.args.count c.args.room c.args.bytes.now) c.loop-test.false c.loop.invariant
