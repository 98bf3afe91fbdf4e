use Rattle.std.proofs.Common.{subst}
use Rattle.def_event.specs.Uses.{IsAmong}
use Rattle.ev_known.specs.declared.facts.Fact.{Fact}
use Rattle.ev_known.proofs.Marking.{captured_held, given_held}
use Rattle.ev_known.proofs.marks.Marks.tell_fact.Goals as goal

pub returns-in-Given-clause-stands : goal.returns-in-Given-clause-stands
returns-in-Given-clause-stands c past s i m =
    c.mark.ensures.stands past
    (given_held c.args.facts.now past c.in-Given.activation c.in-Given.label s (subst (λ (f : Fact). IsAmong f c.args.facts.now) c.in-Given.is i)) m

pub returns-in-Captured-clause-stands : goal.returns-in-Captured-clause-stands
returns-in-Captured-clause-stands c past s i m =
    c.mark-in-Captured.ensures.stands past
    (captured_held c.args.facts.now past c.in-Captured.object c.in-Captured.label s (subst (λ (f : Fact). IsAmong f c.args.facts.now) c.in-Captured.is i)) m
