use Rattle.std.proofs.Common.{MatchOption, subst}
use Rattle.ev_base.specs.declared.names.Msg.{Msg}
use Rattle.ev_order.specs.Mentions.{IsThere, IsAbsent}
use Rattle.ev_order.proofs.mentions.Mentions.find.Goals as goal

pub returns : goal.returns
returns c = subst (λ (m : Msg). MatchOption c.seen.result (IsAbsent m c.args.self.now) (λ mention. IsThere m mention c.args.self.now)) c.message.view_is c.seen.ensures
