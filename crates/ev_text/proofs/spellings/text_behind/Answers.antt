use Rattle.std.proofs.Common.{sym}
use Rattle.ev_text.proofs.UnquotingLemmas.{at_quote, before_more, no_end}
use Rattle.ev_text.proofs.spellings.text_behind.Goals as goal

pub returns-then-rest-eq1 : goal.returns-then-rest-eq1
returns-then-rest-eq1 c = at_quote _ c.loop-first.rest.now _ _ _ (sym c.in-Some.ensures) c.if-first-eq34.true c.if-rest-eq1.true c.loop-first.invariant.read

pub returns-else-rest-eq1 : goal.returns-else-rest-eq1
returns-else-rest-eq1 c = before_more _ c.loop-first.rest.now _ _ _ (sym c.in-Some.ensures) c.if-first-eq34.true c.if-rest-eq1.false c.loop-first.invariant.read

pub returns : goal.returns
returns c = no_end _ c.loop-first.rest.now _ _ (sym c.in_default.ensures) c.loop-first.invariant.read
