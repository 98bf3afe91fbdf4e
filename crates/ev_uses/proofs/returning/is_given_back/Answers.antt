use Rattle.std.proofs.lemmas.Result.{IfOk-weaker}
use Rattle.ev_uses.proofs.Giving.{name_back, named, no_name_back, not_named}
use Rattle.ev_uses.proofs.returning.is_given_back.Goals as goal

pub returns-in-Name : goal.returns-in-Name
returns-in-Name c past h g =
    IfOk-weaker c.is_name_given_back.result _ _ (
    λ b given. (
      name_back past c.args.activation.at c.args.activation.number c.args.value.now c.in-Name.name b (named c.args.value.now c.in-Name.name c.in-Name.is) given.0,
      given.1,
    )
    ) (c.is_name_given_back.ensures past h g)

pub returns-in_default : goal.returns-in_default
returns-in_default c past h g =
    (no_name_back past c.args.activation.at c.args.activation.number c.args.value.now (not_named c.args.value.now c.in_default.not-Name), h)
