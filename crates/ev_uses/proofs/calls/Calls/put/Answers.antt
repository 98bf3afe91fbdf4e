use Rattle.std.proofs.Common.{subst}
use Rattle.ev_uses.specs.Calls.{HasStack, Stacks}
use Rattle.ev_uses.proofs.Calling.{put_in}
use Rattle.ev_uses.proofs.calls.Calls.put.Goals as goal

pub returns : goal.returns
returns c =
    subst (λ (rows : Stacks). HasStack c.args.activation c.args.calls rows c.insert.new.self.entries) c.self.view_is
    (put_in c.args.activation c.args.calls c.self.inside.stacks.entries c.insert.new.self.entries c.in_ok-insert.ensures.updates.0)
