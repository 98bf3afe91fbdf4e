-- What a play without hostile vats tells is the history of a run, which is in order.
use Rattle.std.proofs.Common.{◌≡◌, List, [], true, refl, sym, subst, ◌∙◌}
use Rattle.def_run.specs.Text as run
use Rattle.def_run.specs.World.{Script, Event, Run, Goes, Stopped}
use Rattle.def_run.specs.World as world
use Rattle.law_order.specs.Ordering.Example as order
use Rattle.law_order.specs.Ordering.Order as honest_vats
use Rattle.law_order.proofs.Whole.Ordered.{runs_are_ordered}
use Rattle.law_instance.proofs.Corollaries.{histories_told}
use Rattle.law_hostile_order.specs.Strays.{Ordered}
use Rattle.law_hostile_order.specs.Honest.{HonestPlaysAreOrdered}
use Rattle.law_hostile_order.proofs.Strayings.{strayings_need_hostile_vats}

one_history : (r : Run) → order.history_of r ≡ run.history_of r
unfolding order.history_of run.history_of
one_history (Goes w) = refl
one_history (Stopped c k w) = refl

none_hostile : (es : List Event) → honest_vats.Ordered es → Ordered [] es
none_hostile es h a b = strayings_need_hostile_vats es a b ∙ h a b

pub honest_plays_are_ordered : HonestPlaysAreOrdered
honest_plays_are_ordered script accepted = subst (Ordered []) (sym (histories_told script accepted))
    (subst (Ordered []) (one_history (world.run script)) (none_hostile (order.history_of (world.run script)) (runs_are_ordered script accepted.0 accepted.1 accepted.2)))
