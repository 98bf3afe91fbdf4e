use Rattle.std.proofs.Common.{suc, refl, ap, ◌∙◌, add-one}
use Rattle.def_hostile.specs.Judge.{Fine, first_look}
use Rattle.ev_judge.specs.Views.{counts, seen}
use Rattle.ev_judge.proofs.Items.{goes_on, stops, is_done}
use Rattle.ev_judge.proofs.judge.judge_items.Goals as goal

pub loop-index-init : goal.loop-index-init
unfolding first_look
loop-index-init c = rw c.new.ensures.items refl

pub returns-then-not-branch : goal.returns-then-not-branch
returns-then-not-branch c =
    stops c.args.receiver.now.vats c.args.receiver.now.me c.args.connection.now.peer (counts c.args.connection.now) c.args.spots.now c.loop-index.index _ (seen c.loop-index.index c.loop-index.look) (seen (suc c.loop-index.index) c.item_passes.new.look) c.in_ok-item_passes.field-0 _
    c.loop-index-test.true c.in_ok-item_passes.ensures c.if-not-branch.true c.loop-index.invariant

pub loop-index-preserved : goal.loop-index-preserved
loop-index-preserved c =
    rw (add-one c.loop-index.index)
    (goes_on c.args.receiver.now.vats c.args.receiver.now.me c.args.connection.now.peer (counts c.args.connection.now) c.args.spots.now c.loop-index.index _ (seen c.loop-index.index c.loop-index.look) (seen (suc c.loop-index.index) c.item_passes.new.look) c.in_ok-item_passes.field-0 _
    c.loop-index-test.true c.in_ok-item_passes.ensures c.if-not-branch.false c.loop-index.invariant)

pub returns : goal.returns
returns c =
    ap Fine c.of.ensures
    ∙ is_done c.args.receiver.now.vats c.args.receiver.now.me c.args.connection.now.peer (counts c.args.connection.now) c.args.spots.now c.loop-index.index (seen c.loop-index.index c.loop-index.look) _ c.loop-index-test.false c.loop-index.invariant
