-- The chain leads from the name at hand, in the steps that are left, where it leads from the first one.
use Rattle.std.proofs.Common.{◌≡◌, length, ◌-◌}
use Rattle.ev_refs.specs.Waiting.{waits_lead}
use Rattle.ev_refs.proofs.refs.Refs.waits_lead.Given as goal

abbrev pub invariant-loop : goal.invariant-loop
invariant-loop l = waits_lead (l.end - l.counter) l.self.known l.to l.at ≡ waits_lead (length l.self.known) l.self.known l.to l.from
