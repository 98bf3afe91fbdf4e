-- what is written, the next value and what is left of the lists that are open are the whole value
use Rattle.std.proofs.Common.{◌≡◌, ◌+◌, ◌++◌, string_bytes}
use Rattle.def_event.specs.Lines.{value}
use Rattle.ev_event.specs.Pending.{next_weight, open_weight, next_text, open_text}
use Rattle.ev_event.proofs.values.push_value.Given as goal

abbrev pub invariant-loop-next : goal.invariant-loop-next
invariant-loop-next l =
    string_bytes l.out ++ (next_text l.names l.next ++ open_text l.names l.lists.items) ≡ string_bytes l.fn.out ++ value l.names l.x

abbrev pub decreases-loop-next : goal.decreases-loop-next
decreases-loop-next l = next_weight l.next + open_weight l.lists.items
