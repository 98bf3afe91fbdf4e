-- The expansion of a text: its tokens, the surface tree that they spell, and what that expands to.
use Rattle.std.specs.Prelude.{◌≡◌, ℕ, ◌-◌, List, [], ◌∷◌, ◌++◌, length, Result, Ok, Err}
use Rattle.def_syntax.specs.declared.token.Token.{Token}
use Rattle.def_syntax.specs.declared.syntax.Word.{Word}
use Rattle.def_syntax.specs.declared.syntax.Shape.{Shape}
use Rattle.def_syntax.specs.Grammar.{Tree, Trees, node, none, more, leaf}
use Rattle.def_syntax.specs.Heights.{Answer, tree, no_spelling, too_nested, answer, answer_from, low_frames}
use Rattle.def_syntax.specs.Machine.{begin, step, step_in, pop, finish, end_frames}
use Rattle.ev_lexer.specs.Lexed.{lexed}
use Rattle.ev_lexer.specs.Examples.{opened_lexer}
use Rattle.ev_parser.specs.declared.draft.Part.{Part}
use Rattle.ev_parser.specs.declared.draft.Part.TheVariants as pieces
use Rattle.ev_parser.specs.Parsed.{numbered}
use Rattle.ev_parser.specs.Surface.{surface}
use Rattle.def_syntax.specs.declared.sugar.SugarNode.{SugarNode}
use Rattle.def_kernel.specs.declared.node.Node.{Node}
use Rattle.def_kernel.specs.Reading.{read, opened_reading}
use Rattle.ev_expand.specs.declared.marks.Fault.{Fault}
use Rattle.ev_expand.specs.declared.marks.FaultKind.{FaultKind}
use Rattle.ev_expand.specs.declared.marks.FaultKind.TheVariants.{Name}
use Rattle.ev_expand.specs.Expanded.{expanded, opened_expanded}

-- the nodes with one more, and its parts being these
abbrev pub with_node : List ℕ → List Token → Shape → Word → List SugarNode × List Part → List SugarNode
with_node s ts shape first laid = laid.0 ++ record { form = surface s ts shape first laid.1; first = first.number } ∷ []

-- the surface nodes of a tree behind those that are there, each behind its parts; the root comes last
abbrev mutual
  pub nodes_of : List ℕ → List Token → List SugarNode → Tree → List SugarNode
  nodes_of s ts ns (node shape first trees) = with_node s ts shape first (nodes_of_all s ts ns trees)

  pub nodes_of_all : List ℕ → List Token → List SugarNode → Trees → List SugarNode × List Part
  nodes_of_all s ts ns none = (ns, [])
  nodes_of_all s ts ns (more trees t) = let laid = nodes_of_all s ts ns trees in let ms = nodes_of s ts laid.0 t in (ms, laid.1 ++ pieces.Tree (length ms - 1) ∷ [])
  nodes_of_all s ts ns (leaf trees w) = let laid = nodes_of_all s ts ns trees in (laid.0, laid.1 ++ pieces.Token w ∷ [])

abbrev pub expansion_of_nodes : List SugarNode → Result (List Node) Fault
expansion_of_nodes ns = expanded ns (length ns - 1)

-- a text that spells no tree has no nodes here, and so no row speaks of one
abbrev pub expansion_of_answer : List ℕ → List Token → Answer → Result (List Node) Fault
expansion_of_answer s ts (tree w) = expansion_of_nodes (nodes_of s ts [] w)
expansion_of_answer s ts (no_spelling n) = Ok []
expansion_of_answer s ts (too_nested n) = Ok []

abbrev pub expansion_of_tokens : List ℕ → Result (List Token) (ℕ × ℕ) → Result (List Node) Fault
expansion_of_tokens s (Ok ts) = expansion_of_answer s ts (answer (numbered 0 ts))
expansion_of_tokens s (Err fault) = Ok []

abbrev pub expansion : List ℕ → Result (List Node) Fault
expansion s = expansion_of_tokens s (lexed s)

-- the tree of a form; of what is no form no row speaks
abbrev pub tree_read : Result (List Node) ℕ → Result (List Node) Fault
tree_read (Ok ns) = Ok ns
tree_read (Err place) = Err (record { kind = Name; token = place })

-- this text expands to the tree of this form
abbrev pub Expands : List ℕ → List ℕ → Type 0
Expands source form = expansion source ≡ tree_read (read form)

-- this text is refused with this fault, at this token
abbrev pub Refused : List ℕ → FaultKind → ℕ → Type 0
Refused source kind token = expansion source ≡ Err (record { kind = kind; token = token })

-- opens what the definitions of this file stand on
unfoldable pub opened_sources : Unit {0}
unfolding answer_from step step_in pop begin finish end_frames low_frames opened_lexer opened_reading opened_expanded
opened_sources = tt
