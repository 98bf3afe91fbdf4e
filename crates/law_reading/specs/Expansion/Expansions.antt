-- What a text expands to is a kernel tree.
use Rattle.std.specs.Prelude.{◌≡◌, ℕ, List, [], ◌∷◌, Some, Ok}
use Rattle.std.specs.Str.{IsUtf8}
use Rattle.def_syntax.specs.declared.token.Token.{Token}
use Rattle.def_syntax.specs.declared.token.TokenKind.TheVariants as kinds
use Rattle.def_syntax.specs.declared.sugar.Sugar.{Sugar}
use Rattle.def_kernel.specs.declared.node.Node.{Node}
use Rattle.def_kernel.specs.Trees.{IsName, IsTree}
use Rattle.ev_parser.specs.Surface.{token_text}
use Rattle.ev_parser.specs.Parsed.{IsParsed}
use Rattle.ev_desugar.specs.Words.{ejector}
use Rattle.ev_expand.specs.Expanded.{expanded}
use Rattle.law_reading.specs.Expansion.Shapes.{IsLeave}

-- the text of an identifier is one, and that of a word that leaves a form makes the name of an ejector
pub record IsSpelled (text : List ℕ) (t : Token) : Type 0 where
  pub name : t.kind ≡ kinds.Identifier → IsName (token_text text (Some t))
  pub leave : IsLeave t.kind → IsName (ejector (token_text text (Some t)))

abbrev pub AreSpelled : List ℕ → List Token → Type 0
AreSpelled text [] = Unit {0}
AreSpelled text (t ∷ ts) = IsSpelled text t × AreSpelled text ts

-- Law: what a text in UTF-8, read by tokens that are spelled so, expands to is a kernel tree.
abbrev pub ExpandsToATree : Type 0
ExpandsToATree = (text : List ℕ) (tokens : List Token) (sugar : Sugar) (nodes : List Node) → IsUtf8 text → AreSpelled text tokens
    → IsParsed text tokens (Ok sugar) → expanded sugar.nodes sugar.root ≡ Ok nodes → IsTree nodes
