use Rattle.std.proofs.Common.{sym, subst}
use Rattle.ev_order.specs.Judge.{HasRanks}
use Rattle.ev_order.proofs.judge.earliest.Goals as goal

pub returns : goal.returns
returns c = record {
  labels = c.deref.result.now;
  ranks = subst (HasRanks c.args.places.now c.args.sent.now c.args.taken.now) (sym c.deref.ensures.value) c.in_ok-labels.ensures;
  early = c.first_early.ensures;
}
