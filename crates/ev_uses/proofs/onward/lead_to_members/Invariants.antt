-- The members so far.
use Rattle.std.proofs.Common.{map, take}
use Rattle.def_event.specs.Uses.{things}
use Rattle.ev_links.specs.Label.{label}
use Rattle.ev_links.specs.declared.links.Way.TheVariants.{Listed}
use Rattle.ev_uses.specs.Onward.{LeadsTo}
use Rattle.ev_uses.proofs.onward.lead_to_members.Given as goal

abbrev pub invariant-loop-member : goal.invariant-loop-member
invariant-loop-member l = LeadsTo l.from Listed (map label (things (take l.member-index l.members))) l.fn.links l.links
