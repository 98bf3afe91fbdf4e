use Rattle.std.proofs.Common.{◌≤◌, get_or, sym, arith, ap}
use Rattle.ev_heap.specs.Contents.{height_of, most_height}
use Rattle.ev_heap.proofs.HeightLemmas.{too_high}
use Rattle.ev_heap.proofs.heap.Heap.list_height.Goals as goal

pub returns-then-inner-ge-MOST_HEIGHT : goal.returns-then-inner-ge-MOST_HEIGHT
returns-then-inner-ge-MOST_HEIGHT c =
    let is = ap (height_of c.args.self.now) c.member-item.is in
    let high : most_height ≤ height_of c.args.self.now (get_or c.args.members.now c.loop-member.member-index c.member-item.result) = omega arith in
    sym (too_high (height_of c.args.self.now) c.args.members.now c.loop-member.member-index c.member-item.result most_height c.loop-member-test.true high)
