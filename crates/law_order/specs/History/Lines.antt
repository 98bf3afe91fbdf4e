-- The lines of a history that count for which message is before which.
use Rattle.std.specs.Prelude.{◌≡◌, Bool, true, false, List, [], ◌∷◌, Option, Some, None, ◌||◌}
use Rattle.def_machine.specs.Values.{Name, same_name}
use Rattle.def_machine.specs.State.{Deliver, Took, Sends}
use Rattle.def_run.specs.World.{Event, Here, Carried}
use Rattle.law_order.specs.Ordering.Order.{takes_it, object_takes_it}

-- a send, a take, or the arrival of a message
unfoldable pub counts : Event → Bool
counts (Here v (Sends act x)) = true
counts (Here v (Took act x)) = true
counts (Carried k v w (Deliver x n verb ys) bytes) = true
counts _ = false

-- none of these lines counts
abbrev pub AllQuiet : List Event → Type 0
AllQuiet [] = Unit {0}
AllQuiet (e ∷ es) = (counts e ≡ false) × AllQuiet es

-- one line, or none, and those behind it
abbrev pub with_first : Option Event → List Event → List Event
with_first None es = es
with_first (Some e) es = e ∷ es

unfoldable pub was_taken : Name → List Event → Bool
was_taken a [] = false
was_taken a (e ∷ es) = takes_it a e || was_taken a es

unfoldable pub was_taken_by_object : Name → List Event → Bool
was_taken_by_object a [] = false
was_taken_by_object a (e ∷ es) = object_takes_it a e || was_taken_by_object a es

-- it is sent in that line
unfoldable pub sends_it : Name → Event → Bool
sends_it m (Here v (Sends act x)) = same_name x.id m
sends_it m _ = false

unfoldable pub was_sent : Name → List Event → Bool
was_sent a [] = false
was_sent a (e ∷ es) = sends_it a e || was_sent a es
