use Rattle.std.proofs.Common.{refl}
use Rattle.ev_vat.proofs.Rooms.{each_done, each_not, each_on}
use Rattle.ev_vat.proofs.fitting.are_descs.Goals as goal

pub returns-then-not-is_desc : goal.returns-then-not-is_desc
returns-then-not-is_desc c = (
  λ e. absurd cc,
  λ whole.
      absurd (each_not c.args.descs.now c.loop-desc.desc-index c.desc-item.result c.loop-desc-test.true c.desc-item.is
      (λ is. let fits = c.is_desc.ensures.1 is in let denied = c.if-not-is_desc.true in absurd cc) c.loop-desc.invariant.1 whole),
)

pub loop-desc-preserved : goal.loop-desc-preserved
loop-desc-preserved c = each_on c.args.descs.now c.loop-desc.desc-index c.desc-item.result c.loop-desc-test.true c.desc-item.is (c.is_desc.ensures.0 c.if-not-is_desc.false) c.loop-desc.invariant

pub returns : goal.returns
returns c = (λ e. each_done c.args.descs.now c.loop-desc.desc-index c.loop-desc-test.false c.loop-desc.invariant.0, λ all. refl)
