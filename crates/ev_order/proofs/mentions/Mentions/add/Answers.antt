use Rattle.std.proofs.Common.{OnOk, subst}
use Rattle.ev_base.specs.declared.names.Msg.{Msg}
use Rattle.ev_order.specs.Mentions.{IsAdded}
use Rattle.ev_order.proofs.mentions.Mentions.add.Goals as goal

pub returns : goal.returns
returns c = subst (λ (m : Msg). OnOk c.put.result (IsAdded m c.args.mention c.args.self.now c.put.new.self)) c.message.view_is c.put.ensures
