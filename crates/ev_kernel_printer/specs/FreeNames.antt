-- The names that a node uses and does not bind, in the order of first use.
use Rattle.std.specs.Prelude.{ℕ, List, [], ◌∷◌, Option, Some, slice_get}
use Rattle.def_machine.specs.Free.{free_nouns}
use Rattle.def_kernel.specs.declared.node.Node.{Node}
use Rattle.def_kernel.specs.declared.node.Node.TheVariants.{Object}

-- the nodes whose names count: the methods and matchers of an object, and else the node
abbrev pub counted : ℕ → Option Node → List ℕ
counted id (Some (Object pattern auditors members)) = members
counted id _ = id ∷ []

abbrev pub free_names : List Node → ℕ → List (List ℕ)
free_names tree id = free_nouns tree (counted id (slice_get tree id))
