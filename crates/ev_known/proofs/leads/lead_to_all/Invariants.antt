-- The values so far.
use Rattle.std.proofs.Common.{map, take}
use Rattle.def_event.specs.Uses.{things}
use Rattle.ev_links.specs.Label.{label}
use Rattle.ev_known.specs.Leads.{AddsEach}
use Rattle.ev_known.proofs.leads.lead_to_all.Given as goal

abbrev pub invariant-loop-value : goal.invariant-loop-value
invariant-loop-value l = AddsEach l.link (map label (things (take l.value-index l.values))) l.fn.links l.links
