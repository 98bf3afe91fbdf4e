use Rattle.std.proofs.Common.{◌∙◌, ap, ◌∷◌, List}
use Rattle.std.proofs.lemmas.Result.{on_ok_weaker}
use Rattle.ev_uses.specs.declared.stack.OpenedCall.{OpenedCall}
use Rattle.ev_uses.specs.Calls.{stack}
use Rattle.ev_uses.proofs.Calling.{put_back}
use Rattle.ev_uses.proofs.calls.Calls.push.Goals as goal

pub returns : goal.returns
returns c =
    on_ok_weaker c.put.result
    (put_back c.args.activation (c.args.call ∷ stack c.args.self.now c.args.activation) c.push.new.self c.args.self.now c.take-calls.new.self c.put.new.self
    c.take-calls.ensures.others (c.in_ok-push.ensures ∙ ap (λ (xs : List OpenedCall). c.args.call ∷ xs) c.take-calls.ensures.calls)) c.put.ensures
