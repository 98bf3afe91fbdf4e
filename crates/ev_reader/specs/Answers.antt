-- What the check of a tree answers.
use Rattle.std.specs.Prelude.{◌≡◌, List, ℕ, Option, Some, None, Result, Ok, Err}
use Rattle.def_kernel.specs.declared.node.Node.{Node}
use Rattle.ev_reader.specs.declared.scope_fault.ScopeFault.{ScopeFault}
use Rattle.ev_reader.specs.declared.scope_fault.ScopeFault.TheVariants.{Unbound, AssignToFinal, BoundTwice, Memory}
use Rattle.ev_reader.specs.declared.accepted.Scoped.{Scoped}
use Rattle.ev_reader.specs.Scopes.{first_fault}

-- The tree with the names where it has no fault, and else its first fault, unless memory runs out.
abbrev pub Answers : Result Scoped ScopeFault → List Node → List (List ℕ) → Type 0
Answers (Ok scoped) tree given = (first_fault tree given ≡ None) × (scoped.tree ≡ tree) × (scoped.given ≡ given)
Answers (Err Memory) tree given = Unit {0}
Answers (Err (Unbound id)) tree given = first_fault tree given ≡ Some (Unbound id)
Answers (Err (AssignToFinal id)) tree given = first_fault tree given ≡ Some (AssignToFinal id)
Answers (Err (BoundTwice id)) tree given = first_fault tree given ≡ Some (BoundTwice id)
