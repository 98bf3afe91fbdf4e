use Rattle.ev_script.proofs.RoundLemmas.{repeat_goes, repeat_ends, nothing_repeated}
use Rattle.ev_script.proofs.schedule.push_rounds.Goals as goal

pub returns-then-is_empty : goal.returns-then-is_empty
returns-then-is_empty c = nothing_repeated c.args.round.now c.args.out.now.items c.args.rounds _ c.is_empty.ensures c.if-is_empty.true

pub loop-left-preserved : goal.loop-left-preserved
loop-left-preserved c =
    repeat_goes c.args.round.now c.loop-left.out.items _ _ c.loop-left.left c.loop-left-test.true c.loop-left.invariant c.in_ok-extend_from_slice.ensures.items

pub returns : goal.returns
returns c = repeat_ends c.args.round.now c.loop-left.out.items _ c.loop-left.left c.loop-left-test.false c.loop-left.invariant
