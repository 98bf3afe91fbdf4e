use Rattle.std.proofs.Common.{subst}
use Rattle.std.proofs.lemmas.Result.{IfOk-weaker}
use Rattle.def_event.specs.Uses.{names}
use Rattle.ev_uses.specs.Using.{DecidesAll}
use Rattle.ev_uses.proofs.Known.{decides_both, decides_left}
use Rattle.ev_uses.proofs.using.are_all_known.Goals as goal

pub returns-then-not-branch : goal.returns-then-not-branch
returns-then-not-branch c =
    decides_left c.args.knowledge.now c.are_known.new.knowledge c.args.activation c.args.made (names c.args.first.now) (names c.args.others.now)
    (subst (DecidesAll c.args.knowledge.now c.are_known.new.knowledge c.args.activation c.args.made (names c.args.first.now)) c.if-not-branch.true c.in_ok-are_known.ensures)

pub returns : goal.returns
returns c =
    IfOk-weaker c.are_known-2.result _ _ (
    λ b rest.
    decides_both c.args.knowledge.now c.are_known.new.knowledge c.are_known-2.new.knowledge c.args.activation c.args.made (names c.args.first.now) (names c.args.others.now) b
    (subst (DecidesAll c.args.knowledge.now c.are_known.new.knowledge c.args.activation c.args.made (names c.args.first.now)) c.if-not-branch.false c.in_ok-are_known.ensures) rest
    ) c.are_known-2.ensures
