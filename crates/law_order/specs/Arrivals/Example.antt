-- A run in which a vat is told of two names of other vats: by a note that one settled, and by one that one settled elsewhere.
use Rattle.std.specs.Prelude.{◌≡◌, ℕ, true, List, [], ◌∷◌, Some, None, codes}
use Rattle.def_machine.specs.Values.{Ref, Name, Root, Gift, key}
use Rattle.def_machine.specs.Values as values
use Rattle.def_machine.specs.State.{Plain, Note, SettledTo, Elsewhere}
use Rattle.def_run.specs.World.{Entry, Carry, Script, link_at}
use Rattle.def_run.specs.Draws.{draw_word}
use Rattle.def_kernel.specs.declared.node.Literal.TheVariants as literal
use Rattle.def_kernel.specs.declared.node.Node.{Node}
use Rattle.def_kernel.specs.declared.node.Node.TheVariants.{Lit, Noun, Call}
use Rattle.law_order.specs.Ordering.Ways.{Queue, Held, Way, Place, End, Mid, Ways}
use Rattle.law_order.specs.Ordering.Places.{item, ways, leads}
use Rattle.law_order.specs.Ordering.Example.{tree_e, message, world_after, opened_example}

-- b <- f()
unfoldable pub tree_a : List Node
tree_a =
    Call 1 (codes "send") (2 ∷ 3 ∷ 4 ∷ [])
    ∷ Noun (codes "E")
    ∷ Noun (codes "b")
    ∷ Lit (literal.Text (codes "f"))
    ∷ Call 5 (codes "run") []
    ∷ Noun (codes "__makeList")
    ∷ []

-- c
unfoldable pub tree_b : List Node
tree_b = Noun (codes "c") ∷ []

-- The root of b waits for that of c, which is an object. As b is told so its root settles to that object, and a is told that it is elsewhere.
unfoldable pub told_script : Script
told_script = record {
  key = [];
  fuel = 1000;
  depth = 100;
  vats =
      record { name = codes "a"; knows = 1 ∷ []; tree = tree_a } ∷
      record { name = codes "b"; knows = 2 ∷ []; tree = tree_b } ∷
      record { name = codes "c"; knows = []; tree = tree_e } ∷
      [];
  schedule = Carry 2 1 ∷ Carry 1 0 ∷ [];
}

-- the object of c, and what a has for it then: the gift of b under the first word
unfoldable pub root_object : Name
root_object = values.Object 2 0

unfoldable pub view : Name
view = Gift 2 (key 1 (draw_word told_script.key 0))

-- after the opening turns and those entries: the ways, and where a vat would send on a name
unfoldable pub ways_after : List Entry → Ways
ways_after es = ways told_script (λ v. true) (world_after told_script es)

unfoldable pub leading_after : List Entry → ℕ → Name → Place
leading_after es v n = let w = world_after told_script es in leads told_script (λ u. true) w.vats w.links v (Ref n)

-- the notes under way from one vat to another
unfoldable pub notes_after : List Entry → ℕ → ℕ → List (Note Name)
notes_after es a b = elim (link_at a b (world_after told_script es).links) [ Some l ↦ l.notes | None ↦ [] ]

-- Two notes tell what is so at their senders. A note from c tells that its root settled, and it leads there as that object. Then a note from b tells that its root is elsewhere, and it leads there over the link to c.
abbrev pub NotesTell : Type 0
NotesTell =
    (notes_after [] 2 1 ≡ SettledTo (Root 2) (Plain (Ref root_object)) ∷ [])
    × (leading_after [] 2 (Root 2) ≡ End (Queue 2) root_object)
    × (leading_after [] 1 (Root 2) ≡ End (Way 1 2) (Root 2))
    × (notes_after (Carry 2 1 ∷ []) 1 0 ≡ Elsewhere (Root 1) 2 ∷ [])
    × (leading_after (Carry 2 1 ∷ []) 1 (Root 1) ≡ End (Way 1 2) root_object)
    × (leading_after (Carry 2 1 ∷ []) 0 (Root 1) ≡ End (Way 0 1) (Root 1))

-- Then a has a gift at c for the root of b. What waits for the gift at c is behind f, which a sent on the root.
abbrev pub ViewsWait : Type 0
ViewsWait = let es = Carry 2 1 ∷ Carry 1 0 ∷ [] in
    ((ways_after es).stands (Way 0 1) ≡ item (message 0 0) (Root 1) ∷ [])
    × (leading_after es 0 (Root 1) ≡ End (Way 0 2) view)
    × ((ways_after es).onward (Way 0 2) view ≡ End (Held 2 view) view)
    × ((ways_after es).onward (Held 2 view) view ≡ Mid (Way 0 1) (item (message 0 0) (Root 1) ∷ []) (Root 1))

-- opens the definitions of this file, and of those below
unfoldable pub opened_told : Unit {0}
unfolding tree_a tree_b told_script root_object view ways_after leading_after notes_after opened_example
opened_told = tt
