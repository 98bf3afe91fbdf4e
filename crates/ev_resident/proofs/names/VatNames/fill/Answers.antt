use Rattle.std.proofs.Common.{sym, ◌∙◌}
use Rattle.ev_resident.proofs.Growth.{one_longer, names_on, names_done}
use Rattle.ev_resident.proofs.names.VatNames.fill.Goals as goal

pub loop-preserved : goal.loop-preserved
loop-preserved c = (
  one_longer c.args.told.now c.loop.counter c.loop.self c.name_next.new.self c.loop.invariant.0 c.in_ok-name_next.ensures,
  names_on c.args.told.now c.loop.counter c.args.known c.loop.self c.name_next.new.self c.loop-test.true c.in_ok-name_next.ensures ∙ c.loop.invariant.1,
)

pub returns : goal.returns
returns c = sym (names_done c.args.told.now c.loop.counter c.args.known c.loop.self c.loop-test.false) ∙ c.loop.invariant.1
