-- A message that waits for a note is behind what stands in front of the note.
use Rattle.std.proofs.Common.{◌≡◌, [], ◌∷◌, refl, sym, subst, inl}
use Rattle.def_machine.specs.Values.{Root}
use Rattle.law_order.specs.Ordering.Ways.{Held, Way, Mid, Ahead, alike, in_mid, past_mid}
use Rattle.law_order.specs.Ordering.Places.{item}
use Rattle.law_order.specs.Ordering.Example.{message, passed_name, waiting_ways, opened_example, FirstIsAhead}

waits_there : waiting_ways.onward (Held 2 passed_name) passed_name ≡ Mid (Way 0 2) (item (message 0 0) (Root 2) ∷ []) (Root 2)
unfolding opened_example
waits_there = refl

pub first_is_ahead : FirstIsAhead
first_is_ahead = past_mid (subst (Ahead waiting_ways (message 0 0)) (sym waits_there) (in_mid (inl refl) alike))
