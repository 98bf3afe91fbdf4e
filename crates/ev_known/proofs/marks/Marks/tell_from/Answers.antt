use Rattle.std.proofs.Common.{◌≤◌, arith, length}
use Rattle.ev_links.proofs.Spreading.{among_at}
use Rattle.ev_known.proofs.Marking.{all_marked, none_marked_yet, one_marked}
use Rattle.ev_known.proofs.marks.Marks.tell_from.Goals as goal

pub loop-index-init : goal.loop-index-init
loop-index-init c =
    let none : c.args.first ≤ c.args.first = omega arith in
    (λ past s m. m, none_marked_yet c.args.following.now.plan c.args.facts.now c.args.first c.args.first c.args.self.now none)

pub loop-index-preserved : goal.loop-index-preserved
loop-index-preserved c = (
  λ past s m. c.in_ok-tell_fact.ensures.stands past s (among_at c.args.facts.now c.loop-index.index c.at-fact.result c.at-fact.ensures) (c.loop-index.invariant.0 past s m),
  one_marked c.args.following.now.plan c.args.facts.now c.args.first c.loop-index.index c.at-fact.result c.args.self.now c.loop-index.self c.tell_fact.new.self c.at-fact.ensures c.loop-index.invariant.1
      c.in_ok-tell_fact.ensures.kept c.in_ok-tell_fact.ensures.marked,
)

pub returns-clause-marked : goal.returns-clause-marked
returns-clause-marked c =
    let all : length c.args.facts.now ≤ c.loop-index.index = omega (arith, c.loop-index-test.false) in
    all_marked c.args.following.now.plan c.args.facts.now c.args.first c.loop-index.index (length c.args.facts.now) c.args.self.now c.loop-index.self all c.loop-index.invariant.1
