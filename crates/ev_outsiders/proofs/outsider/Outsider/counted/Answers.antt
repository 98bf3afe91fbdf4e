use Rattle.std.proofs.Common.{ap, ◌∙◌}
use Rattle.ev_outsiders.specs.Counting.{messages_of, outsider_of}
use Rattle.ev_outsiders.proofs.Counts.{counted_alone, counted_with}
use Rattle.ev_outsiders.proofs.outsider.Outsider.counted.Goals as goal

pub returns-then-is_message : goal.returns-then-is_message
returns-then-is_message c = record { counted = λ n e. counted_with c.args.kinds.now n (outsider_of c.args.self) (outsider_of c.in_ok-found.found) c.in_ok-messages.messages (e ∙ ap messages_of c.if-is_message.true) c.in_ok-found.ensures c.in_ok-messages.ensures }

pub returns : goal.returns
returns c = record { counted = λ n e. counted_alone c.args.kinds.now n (outsider_of c.args.self) (outsider_of c.in_ok-found.found) (e ∙ ap messages_of c.if-is_message.false) c.in_ok-found.ensures }
