use Rattle.std.proofs.Common.{◌≡◌, ◌+◌, ◌*◌, drop}
use Rattle.ev_arrive.specs.Bringing.{all_parts}
use Rattle.ev_arrive.specs.Learning.{learn, learn_each}
use Rattle.ev_arrive.proofs.Learns.{with_front}
use Rattle.ev_arrive.proofs.learning.+learning.Given as goal

abbrev pub decreases-learn_in : goal.decreases-learn_in
decreases-learn_in l = 3 * l.depth + 1

abbrev pub decreases-learn_list : goal.decreases-learn_list
decreases-learn_list l = 3 * l.depth

abbrev pub decreases-learn_each : goal.decreases-learn_each
decreases-learn_each l = 3 * l.depth + 2

-- what came to be, and then the rest, is all of it
abbrev pub invariant-learn_each-loop-member : goal.invariant-learn_each-loop-member
invariant-learn_each-loop-member l =
    with_front l.values (learn_each (learn l.depth l.from) (all_parts (drop l.member-index l.members)) l.host) ≡ learn_each (learn l.depth l.from) (all_parts l.members) l.initial.host
