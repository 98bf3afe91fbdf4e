use Rattle.std.proofs.Common.{refl}
use Rattle.ev_event.proofs.ValueLemmas.{entered, entered_less}
use Rattle.ev_event.proofs.values.enter.Goals as goal

pub returns-in_ok-push_separator-in-Some-clause-text : goal.returns-in_ok-push_separator-in-Some-clause-text
returns-in_ok-push_separator-in-Some-clause-text c = λ vats. entered vats c.args.behind c.in-Some.first.now c.in-Some.more.now _ _ _ _ _ c.in-Some.more c.in-Some.ensures.cases.0 c.in_ok-push_separator-in-Some.ensures c.in_ok-push-in-Some.ensures.items refl

pub returns-in_ok-push_separator-in-Some-clause-less : goal.returns-in_ok-push_separator-in-Some-clause-less
returns-in_ok-push_separator-in-Some-clause-less c = entered_less c.in-Some.first.now c.in-Some.more.now _ _ _ c.in-Some.more c.in-Some.ensures.cases.0 c.in_ok-push-in-Some.ensures.items refl
