-- The laws of single changes, under global names.
use Rattle.def_machine.specs.Values.{naming}
use Rattle.def_machine.specs.State.{Hold, Wait, WaitOn, See, React, ToTell, Settle}
use Rattle.law_fate.proofs.Name.SameNames.{reference_is}
use Rattle.law_reference.specs.Reference.Lists.{ChangesCloseNoRing, NewListsCloseNoRing, NewNamesCloseNoRing, NoticesCloseNoRing, FollowingSuffices, RinglessListsEnd}
use Rattle.law_reference.proofs.Reference.ListRings.{hold_closes_none, wait_closes_none, react_closes_none, tell_closes_none, sees, waits}
use Rattle.law_reference.proofs.Reference.ViewSettles.{settle_keeps_none}
use Rattle.law_reference.proofs.Reference.NewLists.{new_list_closes_none}
use Rattle.law_reference.proofs.Reference.FarEnough.{follows_within, new_name_closes_none, notice_closes_none}
use Rattle.law_reference.proofs.Reference.Heights.{leading_ends}

pub changes_close_no_ring : ChangesCloseNoRing
unfolding naming
changes_close_no_ring word v s (Settle y) p h none = settle_keeps_none (naming word v) reference_is s y p h none
changes_close_no_ring word v s (See g) p h none = sees (naming word v) reference_is s g p h none
changes_close_no_ring word v s (WaitOn q) p h none = waits (naming word v) reference_is s q p none
changes_close_no_ring word v s (Hold m) p h none = hold_closes_none (naming word v) reference_is s m p none
changes_close_no_ring word v s (Wait q) p h none = wait_closes_none (naming word v) reference_is s q p none
changes_close_no_ring word v s (React m) p h none = react_closes_none (naming word v) reference_is s m p none
changes_close_no_ring word v s (ToTell w) p h none = tell_closes_none (naming word v) reference_is s w p none

pub new_lists_close_no_ring : NewListsCloseNoRing
new_lists_close_no_ring word v s vs sound there none = new_list_closes_none (naming word v) s vs sound there none

pub new_names_close_no_ring : NewNamesCloseNoRing
unfolding naming
new_names_close_no_ring word v s n h none = new_name_closes_none (naming word v) reference_is s n h none

pub notices_close_no_ring : NoticesCloseNoRing
unfolding naming
notices_close_no_ring word v s w none = notice_closes_none (naming word v) reference_is s w none

pub following_suffices : FollowingSuffices
unfolding naming
following_suffices word v ks k d x e = follows_within (naming word v) reference_is ks k d x e

pub ringless_lists_end : RinglessListsEnd
ringless_lists_end word v s none x = leading_ends (naming word v) s none x
