-- The expansion of a surface tree.
use Rattle.std.specs.Prelude.{◌≡◌, ℕ, List, [], Option, Some, None, Result, Ok, Err}
use Rattle.def_kernel.specs.declared.node.Node.{Node}
use Rattle.def_syntax.specs.declared.sugar.SugarNode.{SugarNode}
use Rattle.ev_piece.specs.Placed.{placed, opened_placed}
use Rattle.ev_expand.specs.declared.marks.Marks.{Marks}
use Rattle.ev_expand.specs.declared.marks.Fault.{Fault}
use Rattle.ev_expand.specs.declared.marks.FaultKind.{FaultKind}
use Rattle.ev_expand.specs.declared.marks.FaultKind.TheVariants.{Return, Break, Name}
use Rattle.ev_expand.specs.declared.expansion.ExpandFault.{ExpandFault}
use Rattle.ev_expand.specs.declared.expansion.ExpandFault.TheVariants.{MisplacedReturn, MisplacedBreak, ReservedName, Memory}
use Rattle.def_kernel.specs.declared.kernel.Kernel.{Kernel}
use Rattle.ev_expand.specs.Marked.{marked, marks_at, closed}
use Rattle.ev_expand.specs.Table.{piece_at, expanded_behind, opened_table}

-- nothing is round the whole tree
unfoldable pub fault_of : List Marks → ℕ → Option Fault
fault_of marks root = (closed (marks_at marks root)).fault

unfoldable pub tree_of : List Marks → List SugarNode → ℕ → List Node
tree_of marks nodes root = placed 0 (piece_at (expanded_behind marks [] nodes) root)

unfoldable pub expanded_with : Option Fault → List Marks → List SugarNode → ℕ → Result (List Node) Fault
expanded_with (Some f) marks nodes root = Err f
expanded_with None marks nodes root = Ok (tree_of marks nodes root)

-- the kernel tree of a surface tree, or its first fault
unfoldable pub expanded : List SugarNode → ℕ → Result (List Node) Fault
expanded nodes root = expanded_with (fault_of (marked nodes) root) (marked nodes) nodes root

unfoldable pub opened_expanded : Unit {0}
unfolding fault_of tree_of expanded_with expanded opened_table opened_placed
opened_expanded = tt

-- the answer tells this fault
abbrev pub IsRefusal : ExpandFault → Fault → Type 0
IsRefusal (MisplacedReturn t) f = f ≡ record { kind = Return; token = t }
IsRefusal (MisplacedBreak t) f = f ≡ record { kind = Break; token = t }
IsRefusal (ReservedName t) f = f ≡ record { kind = Name; token = t }
IsRefusal Memory f = ⊥

-- the answer is that of the definition, unless memory runs out
abbrev pub Answers : Result Kernel ExpandFault → Result (List Node) Fault → Type 0
Answers (Ok nodes) due = due ≡ Ok nodes
Answers (Err (MisplacedReturn t)) due = due ≡ Err (record { kind = Return; token = t })
Answers (Err (MisplacedBreak t)) due = due ≡ Err (record { kind = Break; token = t })
Answers (Err (ReservedName t)) due = due ≡ Err (record { kind = Name; token = t })
Answers (Err Memory) due = Unit {0}
