use Rattle.std.proofs.Common.{sym, ◌∙◌}
use Rattle.std.proofs.lemmas.Result.{IfOk-weaker}
use Rattle.ev_uses.proofs.Giving.{asks, asks_nobody}
use Rattle.ev_uses.proofs.calls.asks_audition.Goals as goal

pub returns-in-Some : goal.returns-in-Some
returns-in-Some c past h =
    IfOk-weaker c.leads_to_audition.result _ _ (λ b leads. asks past c.args.at c.args.called.now c.in-Some.name b (sym c.asked_name.ensures ∙ c.in-Some.is) leads)
    (c.leads_to_audition.ensures past h)

pub returns-in-None : goal.returns-in-None
returns-in-None c past h = asks_nobody past c.args.at c.args.called.now (sym c.asked_name.ensures ∙ c.in-None.is)
