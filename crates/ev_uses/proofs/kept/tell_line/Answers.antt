use Rattle.std.proofs.Common.{◌∷◌}
use Rattle.std.proofs.lemmas.Result.{on_ok_weaker}
use Rattle.ev_uses.proofs.Giving.{both_stand}
use Rattle.ev_uses.proofs.kept.tell_line.Goals as goal

pub returns : goal.returns
returns c past h =
    on_ok_weaker c.tell_line-2.result
    (λ known. both_stand c.tell_line-2.new.self c.tell_line.new.self (record { at = c.args.at; event = c.args.event.now } ∷ past) known (c.in_ok-tell_line.ensures past h.knowledge h.calls))
    (c.tell_line-2.ensures past h.knowledge)
