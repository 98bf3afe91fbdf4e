use Rattle.std.proofs.Common.{ℕ, Some, sym, ap, ◌∙◌}
use Rattle.std.proofs.lemmas.List.{length-map}
use Rattle.ev_heap.specs.declared.kept.Listed.{Listed}
use Rattle.ev_refs.proofs.Leads.{search_begins, search_goes_on, search_finds, search_ends, search_shrinks}
use Rattle.ev_refs.specs.Leading.{lists_in, lists_of, meet}
use Rattle.ev_refs.proofs.refs.Refs.list_leads_back.Goals as goal

pub loop-next-init : goal.loop-next-init
loop-next-init c =
    search_begins c.args.self.now (lists_in c.args.heap.now) c.args.name c.args.list c.list_count.result c.in_ok-search.search c.meet.new.self
    (c.list_count.ensures ∙ sym (length-map c.args.heap.now.lists (λ (l : Listed). l.members))) c.in_ok-search.ensures
    (c.in_ok-meet.ensures ∙ ap (λ (k : ℕ). meet (Some k) c.in_ok-search.search) c.list.view_is)

pub loop-next-smaller : goal.loop-next-smaller
loop-next-smaller c =
    search_shrinks c.loop-next.search c.next.new.self c.meet_members.new.search c.in-Some.next (lists_of c.args.self.now c.members_in-members.result.now) c.in-Some.ensures c.in_ok-meet_members.ensures

pub loop-next-preserved : goal.loop-next-preserved
loop-next-preserved c =
    search_goes_on c.args.self.now (lists_in c.args.heap.now) c.args.name c.args.list c.loop-next.search c.next.new.self c.meet_members.new.search c.in-Some.next c.members_in-members.result.now
    c.in-Some.ensures c.members_in-members.ensures (sym c.is_named.ensures ∙ c.if-is_named.false) c.in_ok-meet_members.ensures c.loop-next.invariant

pub returns-then-is_named : goal.returns-then-is_named
returns-then-is_named c =
    sym (search_finds c.args.self.now (lists_in c.args.heap.now) c.args.name c.args.list c.loop-next.search c.next.new.self c.in-Some.next c.members_in-members.result.now
    c.in-Some.ensures c.members_in-members.ensures (sym c.is_named.ensures ∙ c.if-is_named.true) c.loop-next.invariant)

pub returns : goal.returns
returns c = sym (search_ends c.args.self.now (lists_in c.args.heap.now) c.args.name c.args.list c.loop-next.search c.in_default.ensures.0 c.loop-next.invariant)
