-- What is planned so far is the plan of the lines so far.
use Rattle.ev_links.proofs.Planning.{Planning}
use Rattle.ev_links.proofs.chains.plan_of.Given as goal

abbrev pub invariant-loop-event : goal.invariant-loop-event
invariant-loop-event l = Planning l.at l.events l.event-index l.plan
