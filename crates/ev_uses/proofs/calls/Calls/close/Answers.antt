use Rattle.std.proofs.Common.{◌∙◌, ap, drop, List}
use Rattle.std.proofs.lemmas.Result.{on_ok_weaker}
use Rattle.ev_known.specs.declared.facts.Activation.{Activation}
use Rattle.ev_uses.specs.declared.stack.OpenedCall.{OpenedCall}
use Rattle.ev_uses.specs.Calls.{stack}
use Rattle.ev_uses.proofs.Calling.{put_back}
use Rattle.ev_uses.proofs.calls.Calls.close.Goals as goal

pub returns : goal.returns
returns c =
    let a : Activation = record { at = c.args.at; number = c.args.number } in
    on_ok_weaker c.put.result
    (put_back a (drop 1 (stack c.args.self.now a)) c.pop.new.self c.args.self.now c.take-calls.new.self c.put.new.self
    c.take-calls.ensures.others (c.pop.ensures ∙ ap (λ (xs : List OpenedCall). drop 1 xs) c.take-calls.ensures.calls)) c.put.ensures
