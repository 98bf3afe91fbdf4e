use Rattle.std.proofs.Common.{refl}
use Rattle.ev_script.specs.Schedule.{carries_from, carry_to}
use Rattle.ev_script.proofs.RoundLemmas.{goes}
use Rattle.ev_script.proofs.schedule.push_carries_from.Goals as goal

pub loop-to-preserved : goal.loop-to-preserved
loop-to-preserved c =
    goes (λ vats. carries_from vats c.args.from) (carry_to c.args.from c.loop-to.to) c.loop-to.out.items _ _ c.loop-to.to c.args.vats c.loop-to-test.true refl
    c.loop-to.invariant c.in_ok-push_carry.ensures
