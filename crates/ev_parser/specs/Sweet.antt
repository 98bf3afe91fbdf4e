-- The surface node of a node that has been read.
use Rattle.std.specs.Prelude.{ℕ, List}
use Rattle.def_syntax.specs.declared.token.Token.{Token}
use Rattle.ev_parser.specs.declared.draft.Node.{Node}
use Rattle.def_syntax.specs.declared.sugar.SugarNode.{SugarNode}
use Rattle.ev_parser.specs.Surface.{surface}

abbrev pub node_of : List ℕ → List Token → Node → SugarNode
node_of s ts n = record { form = surface s ts n.shape n.first n.parts.items; first = n.first.number }
