use Rattle.ev_pass.specs.Passing.{pass, packs}
use Rattle.ev_pass.proofs.Packs.{starts, goes_on, stops, is_done}
use Rattle.ev_pass.proofs.interior.Interior.pass_all.Goals as goal

pub loop-value-init : goal.loop-value-init
loop-value-init c = starts c.new-parts.result.items (packs (pass c.args.to) c.args.values.now c.args.self.now) c.new-parts.ensures.items

pub returns-in-Err : goal.returns-in-Err
returns-in-Err c =
    stops (pass c.args.to) c.loop-value.parts.items c.args.values.now c.loop-value.value-index c.value-item.result c.loop-value.self c.pass.new.self c.in-Err.stop (packs (pass c.args.to) c.args.values.now c.args.self.now)
    c.loop-value-test.true c.value-item.is c.in-Err.ensures c.loop-value.invariant

pub loop-value-preserved : goal.loop-value-preserved
loop-value-preserved c =
    goes_on (pass c.args.to) c.loop-value.parts.items c.add.new.parts.items c.args.values.now c.loop-value.value-index c.value-item.result c.loop-value.self c.pass.new.self c.in-Ok.part (packs (pass c.args.to) c.args.values.now c.args.self.now)
    c.loop-value-test.true c.value-item.is c.in-Ok.ensures c.in_ok-add-in-Ok.ensures c.loop-value.invariant

pub returns : goal.returns
returns c = is_done (pass c.args.to) c.loop-value.parts.items c.args.values.now c.loop-value.value-index c.loop-value.self (packs (pass c.args.to) c.args.values.now c.args.self.now) c.loop-value-test.false c.loop-value.invariant
