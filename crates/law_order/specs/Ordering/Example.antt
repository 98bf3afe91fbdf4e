-- Two runs, and which message is before which in them; and a history in which a message is taken too early.
use Rattle.std.specs.Prelude.{◌≡◌, ℕ, pos, Bool, true, false, List, [], ◌∷◌, None, length, codes}
use Rattle.def_machine.specs.Values.{Ref, Name, Root, Promise, Gift, Sent, same_name, key}
use Rattle.def_machine.specs.Values as values
use Rattle.def_machine.specs.State.{Message, Took}
use Rattle.def_run.specs.World.{Entry, Turn, Carry, Script, Event, Here, World, Run, Goes, Stopped, then_goes, begins, open_from, steps_from, run}
use Rattle.def_run.specs.Draws.{draw_word}
use Rattle.def_kernel.specs.declared.node.Literal.TheVariants as literal
use Rattle.def_kernel.specs.declared.node.Node.{Node}
use Rattle.def_kernel.specs.declared.node.Node.TheVariants.{Lit, Noun, Def, Call, Sequence, Object, Method, Final, ListPattern}
use Rattle.law_order.specs.Ordering.Ways.{Queue, Held, Way, Item, Place, Nowhere, End, Mid, Ways, Ahead}
use Rattle.law_order.specs.Ordering.Places.{item, ways, leads, opened_places}
use Rattle.law_order.specs.Ordering.Messages.{place_of, opened_messages}
use Rattle.law_order.specs.Ordering.Order.{is_before, keeps_order, taken_after, opened_order}

-- def [p, r] := Ref.promise(); p <- f(p); p <- g(); r.resolve(c)
unfoldable pub tree_a : List Node
tree_a =
    Sequence (1 ∷ 7 ∷ 14 ∷ 20 ∷ [])
    ∷ Def 2 None 5
    ∷ ListPattern (3 ∷ 4 ∷ [])
    ∷ Final (codes "p") None
    ∷ Final (codes "r") None
    ∷ Call 6 (codes "promise") []
    ∷ Noun (codes "Ref")
    ∷ Call 8 (codes "send") (9 ∷ 10 ∷ 11 ∷ [])
    ∷ Noun (codes "E")
    ∷ Noun (codes "p")
    ∷ Lit (literal.Text (codes "f"))
    ∷ Call 12 (codes "run") (13 ∷ [])
    ∷ Noun (codes "__makeList")
    ∷ Noun (codes "p")
    ∷ Call 15 (codes "send") (16 ∷ 17 ∷ 18 ∷ [])
    ∷ Noun (codes "E")
    ∷ Noun (codes "p")
    ∷ Lit (literal.Text (codes "g"))
    ∷ Call 19 (codes "run") []
    ∷ Noun (codes "__makeList")
    ∷ Call 21 (codes "resolve") (22 ∷ [])
    ∷ Noun (codes "r")
    ∷ Noun (codes "c")
    ∷ []

-- def o { method f(x) { x <- h() }; method g() { 2 }; method h() { 3 } }
unfoldable pub tree_c : List Node
tree_c =
    Object 1 [] (2 ∷ 10 ∷ 12 ∷ [])
    ∷ Final (codes "o") None
    ∷ Method (codes "f") (3 ∷ []) 4
    ∷ Final (codes "x") None
    ∷ Call 5 (codes "send") (6 ∷ 7 ∷ 8 ∷ [])
    ∷ Noun (codes "E")
    ∷ Noun (codes "x")
    ∷ Lit (literal.Text (codes "h"))
    ∷ Call 9 (codes "run") []
    ∷ Noun (codes "__makeList")
    ∷ Method (codes "g") [] 11
    ∷ Lit (literal.Int (pos 2))
    ∷ Method (codes "h") [] 13
    ∷ Lit (literal.Int (pos 3))
    ∷ []

-- Both messages are held until c is known to be an object. Then f goes out with that object as its argument, and the turn of f sends h on it before g arrives.
unfoldable pub held_script : Script
held_script = record {
  key = [];
  fuel = 1000;
  depth = 100;
  vats = record { name = codes "a"; knows = 1 ∷ []; tree = tree_a } ∷ record { name = codes "c"; knows = []; tree = tree_c } ∷ [];
  schedule = Carry 1 0 ∷ Carry 0 1 ∷ Turn 1 ∷ Carry 0 1 ∷ Turn 1 ∷ Turn 1 ∷ [];
}

-- c <- f(); b <- take(c)
unfoldable pub tree_d : List Node
tree_d =
    Sequence (1 ∷ 7 ∷ [])
    ∷ Call 2 (codes "send") (3 ∷ 4 ∷ 5 ∷ [])
    ∷ Noun (codes "E")
    ∷ Noun (codes "c")
    ∷ Lit (literal.Text (codes "f"))
    ∷ Call 6 (codes "run") []
    ∷ Noun (codes "__makeList")
    ∷ Call 8 (codes "send") (9 ∷ 10 ∷ 11 ∷ [])
    ∷ Noun (codes "E")
    ∷ Noun (codes "b")
    ∷ Lit (literal.Text (codes "take"))
    ∷ Call 12 (codes "run") (13 ∷ [])
    ∷ Noun (codes "__makeList")
    ∷ Noun (codes "c")
    ∷ []

-- def t { method take(x) { x <- g() } }
unfoldable pub tree_b : List Node
tree_b =
    Object 1 [] (2 ∷ [])
    ∷ Final (codes "t") None
    ∷ Method (codes "take") (3 ∷ []) 4
    ∷ Final (codes "x") None
    ∷ Call 5 (codes "send") (6 ∷ 7 ∷ 8 ∷ [])
    ∷ Noun (codes "E")
    ∷ Noun (codes "x")
    ∷ Lit (literal.Text (codes "g"))
    ∷ Call 9 (codes "run") []
    ∷ Noun (codes "__makeList")
    ∷ []

-- def o { method f() { 1 }; method g() { 2 } }
unfoldable pub tree_e : List Node
tree_e =
    Object 1 [] (2 ∷ 4 ∷ [])
    ∷ Final (codes "o") None
    ∷ Method (codes "f") [] 3
    ∷ Lit (literal.Int (pos 1))
    ∷ Method (codes "g") [] 5
    ∷ Lit (literal.Int (pos 2))
    ∷ []

-- a sends f to c and then passes c to b, which sends g to it. g comes to c first, and waits there for the note that lets the gift go, which is behind f.
unfoldable pub passed_script : Script
passed_script = record {
  key = [];
  fuel = 1000;
  depth = 100;
  vats =
      record { name = codes "a"; knows = 1 ∷ 2 ∷ []; tree = tree_d } ∷
      record { name = codes "b"; knows = []; tree = tree_b } ∷
      record { name = codes "c"; knows = []; tree = tree_e } ∷
      [];
  schedule = Carry 0 1 ∷ Turn 1 ∷ Carry 1 2 ∷ Carry 1 2 ∷ Carry 0 2 ∷ Carry 0 2 ∷ Turn 2 ∷ Turn 2 ∷ [];
}

unfoldable pub history_of : Run → List Event
history_of (Goes w) = w.history
history_of (Stopped c k w) = w.history

-- message n of vat v
unfoldable pub message : ℕ → ℕ → Name
message v n = Sent (record { sender = v; number = n })

-- that history with the takes of two messages exchanged
unfoldable pub taken_for : Name → Name → Message Name → Message Name
taken_for a b m = elim (same_name m.id a) [ true ↦ record m { id = b } | false ↦ elim (same_name m.id b) [ true ↦ record m { id = a } | false ↦ m ] ]

unfoldable pub exchanged : Name → Name → List Event → List Event
exchanged a b [] = []
exchanged a b (Here v (Took act m) ∷ es) = Here v (Took act (taken_for a b m)) ∷ exchanged a b es
exchanged a b (e ∷ es) = e ∷ exchanged a b es

-- for two messages: whether the first is before the second, whether no object takes the second before the first is taken, and whether their order is kept
unfoldable pub judged : List Event → Name → Name → List Bool
judged es a b = is_before a b es ∷ taken_after a b es ∷ keeps_order es a b ∷ []

-- f is before g and comes first; but g is not before h, which is taken first: h was sent on what f brought, and f came before g was sent.
abbrev pub HeldOrder : Type 0
HeldOrder = let es = history_of (run held_script) in
    (judged es (message 0 0) (message 0 1) ≡ true ∷ true ∷ true ∷ [])
    × (judged es (message 0 1) (message 1 0) ≡ false ∷ false ∷ true ∷ [])
    × (judged es (message 0 0) (message 1 0) ≡ false ∷ true ∷ true ∷ [])
    × (judged es (message 1 0) (message 0 1) ≡ false ∷ true ∷ true ∷ [])

-- f is before g, which was sent on what a passed after it sent f, and comes first; a history in which g is taken for f and f for g is refused.
abbrev pub PassedOrder : Type 0
PassedOrder = let es = history_of (run passed_script) in
    (judged es (message 0 0) (message 1 0) ≡ true ∷ true ∷ true ∷ [])
    × (judged es (message 0 1) (message 1 0) ≡ false ∷ true ∷ true ∷ [])
    × (judged (exchanged (message 0 0) (message 1 0) es) (message 0 0) (message 1 0) ≡ true ∷ false ∷ false ∷ [])

-- ---- places

unfoldable pub world_of : Run → World
world_of (Goes w) = w
world_of (Stopped c k w) = w

-- the world of a script after the opening turns and those entries
unfoldable pub world_after : Script → List Entry → World
world_after script es = world_of (then_goes (open_from script 0 script.vats (begins script)) (λ w. steps_from script es (length script.vats) w))

-- the world in which f and the note behind it are still under way, and g has come to c and waits there
unfoldable pub waiting_world : World
waiting_world = world_after passed_script (Carry 0 1 ∷ Turn 1 ∷ Carry 1 2 ∷ Carry 1 2 ∷ [])

-- what a passed to b: the gift under the first word, at c
unfoldable pub passed_name : Name
passed_name = Gift 2 (key 0 (draw_word passed_script.key 0))

unfoldable pub waiting_ways : Ways
waiting_ways = ways passed_script (λ v. true) waiting_world

-- where b would send on what was passed to it, and c on its root
unfoldable pub leading : ℕ → Name → Place
leading v n = leads passed_script (λ u. true) waiting_world.vats waiting_world.links v (Ref n)

-- g waits for the note behind f on the link from a; b sends on to c, and c takes what is sent on its root.
abbrev pub PlacesAreTold : Type 0
PlacesAreTold =
    (waiting_ways.stands (Way 0 2) ≡ item (message 0 0) (Root 2) ∷ [])
    × (waiting_ways.stands (Held 2 passed_name) ≡ item (message 1 0) passed_name ∷ [])
    × (waiting_ways.onward (Held 2 passed_name) passed_name ≡ Mid (Way 0 2) (item (message 0 0) (Root 2) ∷ []) (Root 2))
    × (leading 1 passed_name ≡ End (Way 1 2) passed_name)
    × (leading 2 (Root 2) ≡ End (Queue 2) (values.Object 2 0))

unfoldable pub stood : Name → Place
stood m = place_of passed_script (λ v. true) waiting_world m

-- f stands first on its link, and g first of what c holds for the gift; the message that brought the gift to b was taken, and is nowhere.
abbrev pub MessagesAreFound : Type 0
MessagesAreFound =
    (stood (message 0 0) ≡ Mid (Way 0 2) [] (Root 2))
    × (stood (message 1 0) ≡ Mid (Held 2 passed_name) [] passed_name)
    × (stood (message 0 1) ≡ Nowhere)

-- where a message stands in such a world
unfoldable pub stood_after : Script → List Entry → Name → Place
stood_after script es m = place_of script (λ v. true) (world_after script es) m

-- the promise of a
unfoldable pub held_for : Name
held_for = Promise 0 0

-- f and g are held for the promise, f in front. As the promise settles they go to the link to c in that order, both on the object.
abbrev pub HeldGoInOrder : Type 0
HeldGoInOrder =
    (stood_after held_script [] (message 0 0) ≡ Mid (Held 0 held_for) [] held_for)
    × (stood_after held_script [] (message 0 1) ≡ Mid (Held 0 held_for) (item (message 0 0) held_for ∷ []) held_for)
    × (stood_after held_script (Carry 1 0 ∷ []) (message 0 0) ≡ Mid (Way 0 1) [] (values.Object 1 0))
    × (stood_after held_script (Carry 1 0 ∷ []) (message 0 1) ≡ Mid (Way 0 1) (item (message 0 0) (values.Object 1 0) ∷ []) (values.Object 1 0))

-- def o {}; def [p, r] := Ref.promise(); def [q, s] := Ref.promise(); q <- k(); s.resolve(p); p <- f(); p <- g(); r.resolve(o)
unfoldable pub tree_w : List Node
tree_w =
    Sequence (1 ∷ 3 ∷ 9 ∷ 15 ∷ 21 ∷ 24 ∷ 30 ∷ 36 ∷ [])
    ∷ Object 2 [] []
    ∷ Final (codes "o") None
    ∷ Def 4 None 7
    ∷ ListPattern (5 ∷ 6 ∷ [])
    ∷ Final (codes "p") None
    ∷ Final (codes "r") None
    ∷ Call 8 (codes "promise") []
    ∷ Noun (codes "Ref")
    ∷ Def 10 None 13
    ∷ ListPattern (11 ∷ 12 ∷ [])
    ∷ Final (codes "q") None
    ∷ Final (codes "s") None
    ∷ Call 14 (codes "promise") []
    ∷ Noun (codes "Ref")
    ∷ Call 16 (codes "send") (17 ∷ 18 ∷ 19 ∷ [])
    ∷ Noun (codes "E")
    ∷ Noun (codes "q")
    ∷ Lit (literal.Text (codes "k"))
    ∷ Call 20 (codes "run") []
    ∷ Noun (codes "__makeList")
    ∷ Call 22 (codes "resolve") (23 ∷ [])
    ∷ Noun (codes "s")
    ∷ Noun (codes "p")
    ∷ Call 25 (codes "send") (26 ∷ 27 ∷ 28 ∷ [])
    ∷ Noun (codes "E")
    ∷ Noun (codes "p")
    ∷ Lit (literal.Text (codes "f"))
    ∷ Call 29 (codes "run") []
    ∷ Noun (codes "__makeList")
    ∷ Call 31 (codes "send") (32 ∷ 33 ∷ 34 ∷ [])
    ∷ Noun (codes "E")
    ∷ Noun (codes "p")
    ∷ Lit (literal.Text (codes "g"))
    ∷ Call 35 (codes "run") []
    ∷ Noun (codes "__makeList")
    ∷ Call 37 (codes "resolve") (38 ∷ [])
    ∷ Noun (codes "r")
    ∷ Noun (codes "o")
    ∷ []

unfoldable pub settled_script : Script
settled_script = record { key = []; fuel = 1000; depth = 100; vats = record { name = codes "a"; knows = []; tree = tree_w } ∷ []; schedule = [] }

-- in the queue of a, all on o, with those in front
unfoldable pub queued_behind : List Name → List Item
queued_behind [] = []
queued_behind (m ∷ ms) = item m (values.Object 0 0) ∷ queued_behind ms

-- k was sent first, on a promise that waits for the one on which f and g were sent. As that settles what it held goes first.
abbrev pub WaitingComeLast : Type 0
WaitingComeLast =
    (stood_after settled_script [] (message 0 1) ≡ Mid (Queue 0) [] (values.Object 0 0))
    × (stood_after settled_script [] (message 0 2) ≡ Mid (Queue 0) (queued_behind (message 0 1 ∷ [])) (values.Object 0 0))
    × (stood_after settled_script [] (message 0 0) ≡ Mid (Queue 0) (queued_behind (message 0 1 ∷ message 0 2 ∷ [])) (values.Object 0 0))

-- So f is ahead of g there.
abbrev pub FirstIsAhead : Type 0
FirstIsAhead = Ahead waiting_ways (message 0 0) (Mid (Held 2 passed_name) [] passed_name)

-- opens the definitions of this file
unfoldable pub opened_example : Unit {0}
unfolding tree_a tree_b tree_c tree_d tree_e held_script passed_script history_of message taken_for exchanged judged world_of waiting_world passed_name waiting_ways leading stood world_after stood_after held_for tree_w settled_script queued_behind opened_order opened_places opened_messages
opened_example = tt
