-- What a history comes to: how many of its events tell of messages that are sent, taken, lost or left, and how many steps there were.
use Rattle.std.specs.Prelude.{ℕ, Bool, true, false, List, [], ◌∷◌, ◌++◌, codes, decimal}
use Rattle.std.specs.List.{count_by}
use Rattle.def_event.specs.declared.event.Event.{Event}
use Rattle.def_event.specs.declared.event.Event.TheVariants.{Take, Send, SendOnly, When, LostCut, LostBroken, LeftQueue, LeftHeld, LeftWait, LeftLink}

-- a message goes out: it is sent, with an answer or without, or it is to come as a reaction
unfoldable pub is_sent : Event → Bool
is_sent (Send m) = true
is_sent (SendOnly m) = true
is_sent (When w) = true
is_sent _ = false

-- a turn takes a message
unfoldable pub is_taken : Event → Bool
is_taken (Take t) = true
is_taken _ = false

-- a message is lost, on a link that is cut or at a broken reference
unfoldable pub is_lost : Event → Bool
is_lost (LostCut m) = true
is_lost (LostBroken m) = true
is_lost _ = false

-- at the end something is left, in a queue, held for a promise, as a reaction that waits, or on a link
unfoldable pub is_left : Event → Bool
is_left (LeftQueue v m) = true
is_left (LeftHeld v p m) = true
is_left (LeftWait v x m) = true
is_left (LeftLink v w n) = true
is_left _ = false

-- a word and a count, as a line
abbrev pub counted : List ℕ → ℕ → List ℕ
counted word n = word ++ 32 ∷ decimal n ++ 10 ∷ []

-- the five lines of a history of so many steps
abbrev pub summary : List Event → ℕ → List ℕ
summary events steps =
    counted (codes "sent") (count_by is_sent events) ++ counted (codes "taken") (count_by is_taken events) ++ counted (codes "lost") (count_by is_lost events)
    ++ counted (codes "left") (count_by is_left events) ++ counted (codes "steps") steps
