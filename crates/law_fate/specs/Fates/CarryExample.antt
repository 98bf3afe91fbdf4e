-- A run in which one message is carried twice: to the host of a promise, and on to the host of the object to which it settled.
use Rattle.std.specs.Prelude.{◌≡◌, ℕ, pos, List, [], ◌∷◌, None, codes}
use Rattle.def_machine.specs.Values.{Sent}
use Rattle.def_run.specs.World.{Turn, Carry, Script, Event, Run, Goes, Stopped, run}
use Rattle.def_kernel.specs.declared.node.Literal.TheVariants as literal
use Rattle.def_kernel.specs.declared.node.Node.{Node}
use Rattle.def_kernel.specs.declared.node.Node.TheVariants.{Lit, Noun, Call, Object, Method, Final}
use Rattle.law_fate.specs.Fates.Fate.{sent, takes}
use Rattle.law_fate.specs.Fates.Carry.{carries}

-- b <- put()
unfoldable pub tree_a : List Node
tree_a =
    Call 1 (codes "send") (2 ∷ 3 ∷ 4 ∷ [])
    ∷ Noun (codes "E")
    ∷ Noun (codes "b")
    ∷ Lit (literal.Text (codes "put"))
    ∷ Call 5 (codes "run") []
    ∷ Noun (codes "__makeList")
    ∷ []

-- the root of b is what the root of c becomes
unfoldable pub tree_b : List Node
tree_b = Noun (codes "c") ∷ []

-- def o { method put() { 1 } }
unfoldable pub tree_c : List Node
tree_c = Object 1 [] (2 ∷ []) ∷ Final (codes "o") None ∷ Method (codes "put") [] 3 ∷ Lit (literal.Int (pos 1)) ∷ []

-- The message comes to b before b is told that the root of c is an object.
unfoldable pub script : Script
script = record {
  key = [];
  fuel = 1000;
  depth = 100;
  vats =
      record { name = codes "a"; knows = 1 ∷ []; tree = tree_a } ∷
      record { name = codes "b"; knows = 2 ∷ []; tree = tree_b } ∷
      record { name = codes "c"; knows = []; tree = tree_c } ∷
      [];
  schedule = Carry 0 1 ∷ Carry 2 1 ∷ Carry 1 2 ∷ Turn 2 ∷ [];
}

unfoldable pub history_of : Run → List Event
history_of (Goes w) = w.history
history_of (Stopped c k w) = w.history

-- how often message n of vat 0 was sent, carried and taken
unfoldable pub counts : ℕ → List ℕ
counts n = let x = Sent (record { sender = 0; number = n }) in let es = history_of (run script) in sent x es ∷ carries x es ∷ takes x es ∷ []

-- the only message is carried twice
abbrev pub IsCarriedTwice : Type 0
IsCarriedTwice = (counts 0 ≡ 1 ∷ 2 ∷ 1 ∷ []) × (counts 1 ≡ 0 ∷ 0 ∷ 0 ∷ [])

-- opens the definitions of this file
unfoldable pub opened_example : Unit {0}
unfolding tree_a tree_b tree_c script history_of counts
opened_example = tt
