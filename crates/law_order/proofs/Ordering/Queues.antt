-- The queues of worlds, and idle entries.
use Rattle.std.proofs.Common.{refl}
use Rattle.law_order.specs.Ordering.Places.{ways_of, ways, onward_at}
use Rattle.law_order.specs.Ordering.Worlds.{QueuesAreFree, IdleChangesNoWay}
use Rattle.law_order.proofs.Ordering.Changes.{heads_are_free}

pub queues_are_free : QueuesAreFree
unfolding ways ways_of onward_at
queues_are_free = λ script honest w v n. heads_are_free (ways script honest w) v n refl

pub idle_changes_no_way : IdleChangesNoWay
unfolding ways
idle_changes_no_way = λ script honest w es fuel drawn. refl
