-- What a text is read as is one thing.
use Rattle.std.specs.Prelude.{◌≡◌, ℕ, List, map, Result, Ok, Err}
use Rattle.def_syntax.specs.declared.token.Token.{Token}
use Rattle.def_syntax.specs.declared.syntax.Word.{Word}
use Rattle.def_syntax.specs.Grammar.{Tree, SpellsProgram}
use Rattle.def_syntax.specs.Heights.{Answer}
use Rattle.def_syntax.specs.Exact.{IsAnswer}
use Rattle.ev_parser.specs.Draft.{Shows}
use Rattle.ev_parser.specs.Parsed.{IsParsed}
use Rattle.ev_parser.specs.Sweet.{node_of}
use Rattle.ev_parser.specs.declared.draft.Node.{Node}
use Rattle.def_syntax.specs.declared.sugar.Sugar.{Sugar}
use Rattle.ev_expand.specs.Expanded.{expanded}
use Rattle.ev_reader.specs.declared.accepted.Scoped.{Scoped}
use Rattle.ev_reader.specs.Program.{Answers}
use Rattle.ev_reader.specs.declared.fault.ProgramFault.{ProgramFault}
use Rattle.ev_reader.specs.declared.fault.ProgramFault.TheVariants.{At, Memory}

-- Law: what a parser of the grammar answers for a token list is one thing.
abbrev pub OneAnswer : Type 0
OneAnswer = (words : List Word) (a b : Answer) → IsAnswer words a → IsAnswer words b → a ≡ b

-- Law: two arenas that show one tree, which some tokens spell, have one expansion: the same nodes, or the same fault.
abbrev pub OneTreeOneExpansion : Type 0
OneTreeOneExpansion = (text : List ℕ) (tokens : List Token) (words : List Word) (w : Tree) → SpellsProgram w words
    → (ns ms : List Node) (i j : ℕ) → Shows ns i w → Shows ms j w
    → expanded (map (node_of text tokens) ns) i ≡ expanded (map (node_of text tokens) ms) j

-- Law: two surface trees of one text have one expansion.
abbrev pub OneTextOneExpansion : Type 0
OneTextOneExpansion = (text : List ℕ) (tokens : List Token) (a b : Sugar)
    → IsParsed text tokens (Ok a) → IsParsed text tokens (Ok b) → expanded a.nodes a.root ≡ expanded b.nodes b.root

-- two answers tell the same: one tree under the same given names, or one stage, kind and place; or memory ran out
abbrev pub Agree : Result Scoped ProgramFault → Result Scoped ProgramFault → Type 0
Agree (Ok a) (Ok b) = (a.tree ≡ b.tree) × (a.given ≡ b.given)
Agree (Err (At stage kind place)) (Err (At stage' kind' place')) = (stage ≡ stage') × (kind ≡ kind') × (place ≡ place')
Agree (Err Memory) b = Unit {0}
Agree a (Err Memory) = Unit {0}
Agree (Ok a) (Err (At stage kind place)) = ⊥
Agree (Err (At stage kind place)) (Ok b) = ⊥

-- Law: two answers for one text under the same given names tell the same.
abbrev pub AnswersAgree : Type 0
AnswersAgree = (text : List ℕ) (given : List (List ℕ)) (a b : Result Scoped ProgramFault)
    → Answers a text given → Answers b text given → Agree a b
