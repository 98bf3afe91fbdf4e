use Rattle.std.proofs.Common.{sym, ◌∙◌}
use Rattle.std.proofs.lemmas.Result.{on_ok_weaker}
use Rattle.ev_known.proofs.Marking.{marked, marked_for, none_for, put_kept, put_marked}
use Rattle.ev_known.proofs.marks.Marks.mark.Goals as goal

pub returns-clause-stands : goal.returns-clause-stands
returns-clause-stands c past held m =
    on_ok_weaker c.put.result
    (λ put. marked c.args.holder c.args.at c.args.label c.in-Some.standing c.args.self.now c.put.new.self c.args.following.now.plan past (sym c.standing.ensures ∙ c.in-Some.is) held put m)
    c.put.ensures

pub returns-in_default-clause-marked : goal.returns-in_default-clause-marked
returns-in_default-clause-marked c = none_for c.args.self.now c.args.following.now.plan c.args.holder c.args.at c.args.label (sym c.standing.ensures ∙ c.in_default.is)

pub returns-then-is_marked-clause-marked : goal.returns-then-is_marked-clause-marked
returns-then-is_marked-clause-marked c =
    marked_for c.args.self.now c.args.following.now.plan c.args.holder c.args.at c.args.label c.in-Some.standing (sym c.standing.ensures ∙ c.in-Some.is) (sym c.is_marked.ensures ∙ c.if-is_marked.true)

pub returns-clause-kept : goal.returns-clause-kept
returns-clause-kept c =
    on_ok_weaker c.put.result (put_kept c.args.holder c.args.at c.in-Some.standing c.args.self.now c.put.new.self (sym c.is_marked.ensures ∙ c.if-is_marked.false)) c.put.ensures

pub returns-clause-marked : goal.returns-clause-marked
returns-clause-marked c =
    on_ok_weaker c.put.result (
    λ put.
    marked_for c.put.new.self c.args.following.now.plan c.args.holder c.args.at c.args.label c.in-Some.standing (sym c.standing.ensures ∙ c.in-Some.is)
    (put_marked c.args.holder c.args.at c.in-Some.standing c.args.self.now c.put.new.self (sym c.is_marked.ensures ∙ c.if-is_marked.false) put)
    ) c.put.ensures
