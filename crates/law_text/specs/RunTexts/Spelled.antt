-- Trees of which texts, verbs and names are such that a line can tell them.
use Rattle.law_text.specs.RunTexts.Fitting.{IsObjectName, TextFits}
use Rattle.def_kernel.specs.Trees.{IsInt}
use Rattle.std.specs.Prelude.{List}
use Rattle.std.specs.Char.{IsScalar}
use Rattle.def_kernel.specs.declared.node.Literal.{Literal}
use Rattle.def_kernel.specs.declared.node.Literal.TheVariants.{Int, Char, Text}
use Rattle.def_kernel.specs.declared.node.Node.{Node}
use Rattle.def_kernel.specs.declared.node.Node.TheVariants.{Lit, Noun, Set, Call, Method, Final, Var}
use Rattle.law_text.specs.Text.Feeds.{AllOf}

abbrev pub LiteralFits : Literal → Type 0
LiteralFits (Int z) = IsInt z
LiteralFits (Char c) = IsScalar c
LiteralFits (Text t) = TextFits t

-- its texts fit, and the name that it binds finally is an identifier
abbrev pub NodeFits : Node → Type 0
NodeFits (Lit l) = LiteralFits l
NodeFits (Noun x) = TextFits x
NodeFits (Set x e) = TextFits x
NodeFits (Call r verb args) = TextFits verb
NodeFits (Method verb ps b) = TextFits verb
NodeFits (Final x g) = TextFits x × IsObjectName x
NodeFits (Var x g) = TextFits x
NodeFits other = Unit {0}

abbrev pub TreeFits : List Node → Type 0
TreeFits tree = AllOf NodeFits tree
