-- Whether a history is in order, by computing.
use Rattle.std.specs.Prelude.{◌≡◌, Bool, true, List, [], ◌∷◌}
use Rattle.std.specs.List.{list_all}
use Rattle.def_machine.specs.Values.{Name}
use Rattle.def_machine.specs.State.{Sends}
use Rattle.def_run.specs.World.{Event, Here}
use Rattle.law_order.specs.Ordering.Order.{Ordered, keeps_order, opened_order}

-- the messages that these lines send
unfoldable pub sent_in : List Event → List Name
sent_in [] = []
sent_in (Here v (Sends act x) ∷ es) = x.id ∷ sent_in es
sent_in (e ∷ es) = sent_in es

-- in the order of any two of these no wrong is done
unfoldable pub in_order : List Event → Bool
in_order es = list_all (λ a. list_all (λ b. keeps_order es a b) (sent_in es)) (sent_in es)

abbrev pub OrderIsDecided : Type 0
OrderIsDecided = (es : List Event) → (in_order es ≡ true → Ordered es) × (Ordered es → in_order es ≡ true)

-- opens each definition of this file, and of those below
unfoldable pub opened_decided : Unit {0}
unfolding sent_in in_order opened_order
opened_decided = tt
