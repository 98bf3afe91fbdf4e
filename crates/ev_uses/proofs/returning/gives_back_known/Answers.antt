use Rattle.std.proofs.lemmas.Result.{IfOk-weaker}
use Rattle.ev_uses.proofs.Giving.{back_known, nothing_back}
use Rattle.ev_uses.proofs.returning.gives_back_known.Goals as goal

pub returns-in-Back : goal.returns-in-Back
returns-in-Back c past h g =
    IfOk-weaker c.is_given_back.result _ _
    (λ b given. (back_known past c.args.at c.in-Back.number c.in-Back.value c.args.event.now b c.in-Back.is given.0, given.1)) (c.is_given_back.ensures past h g)

pub returns-in_default : goal.returns-in_default
returns-in_default c past h g = (nothing_back past c.args.at c.args.event.now c.in_default.not-Back, h)
