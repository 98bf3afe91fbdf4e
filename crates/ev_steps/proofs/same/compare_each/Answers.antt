use Rattle.std.proofs.Common.{length, refl, ◌∙◌, arith}
use Rattle.std.proofs.lemmas.Option.{slice_get_read}
use Rattle.ev_steps.proofs.Alikes.{each_done, each_off, each_on}
use Rattle.ev_steps.proofs.same.compare_each.Goals as goal

pub returns-then-not-branch : goal.returns-then-not-branch
returns-then-not-branch c =
    let a = slice_get_read c.args.xs.now (length c.args.xs.now) c.loop-index.index c.index-xs-index.result refl c.loop-index-test.true c.index-xs-index.is in
    let b = slice_get_read c.args.ys.now (length c.args.xs.now) c.loop-index.index c.index-ys-index.result c.requires c.loop-index-test.true c.index-ys-index.is in
    λ d. c.loop-index.invariant d
    ∙ each_off c.args.room.now c.loop-index.index c.args.xs.now c.args.ys.now c.index-xs-index.result c.index-ys-index.result c.loop-index.next.keys c.compare.new.next.keys c.in_ok-compare.field-0 a b
    c.if-not-branch.true c.in_ok-compare.ensures d

pub loop-index-preserved : goal.loop-index-preserved
loop-index-preserved c =
    let a = slice_get_read c.args.xs.now (length c.args.xs.now) c.loop-index.index c.index-xs-index.result refl c.loop-index-test.true c.index-xs-index.is in
    let b = slice_get_read c.args.ys.now (length c.args.xs.now) c.loop-index.index c.index-ys-index.result c.requires c.loop-index-test.true c.index-ys-index.is in
    λ d. c.loop-index.invariant d
    ∙ each_on c.args.room.now c.loop-index.index c.args.xs.now c.args.ys.now c.index-xs-index.result c.index-ys-index.result c.loop-index.next.keys c.compare.new.next.keys c.in_ok-compare.field-0 a b
    c.if-not-branch.false c.in_ok-compare.ensures d

pub returns : goal.returns
returns c =
    λ d. c.loop-index.invariant d
    ∙ each_done c.args.room.now c.loop-index.index c.args.xs.now c.args.ys.now c.loop-index.next.keys (omega (arith, c.loop-index-test.false)) c.requires d
