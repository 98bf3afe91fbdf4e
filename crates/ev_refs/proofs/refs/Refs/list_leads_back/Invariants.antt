-- Each list that was met is led to, and leads on only to such, but for those that are still to be looked at; and less is left each time.
use Rattle.std.proofs.Common.{◌+◌, ◌*◌, length}
use Rattle.ev_refs.proofs.Leads.{Good, unmet}
use Rattle.ev_refs.specs.Leading.{lists_in}
use Rattle.ev_refs.proofs.refs.Refs.list_leads_back.Given as goal

abbrev pub invariant-loop-next : goal.invariant-loop-next
invariant-loop-next l = Good l.self (lists_in l.heap) l.name l.fn.list l.search

abbrev pub decreases-loop-next : goal.decreases-loop-next
decreases-loop-next l = 2 * unmet l.search.met + length l.search.left
