-- What a text is read as: its tokens, the surface tree that they spell, the expansion of that tree, checked for scopes. The
-- first of these that there is none of is the refusal.
use Rattle.std.specs.Prelude.{◌≡◌, ℕ, List, Result, Ok, Err, Some, None}
use Rattle.def_syntax.specs.declared.token.Token.{Token}
use Rattle.ev_lexer.specs.Lexed.{lexed}
use Rattle.ev_parser.specs.Parsed.{IsParsed}
use Rattle.ev_parser.specs.declared.parser.ParseFault.TheVariants.{NoSpelling, TooNested}
use Rattle.def_syntax.specs.declared.sugar.Sugar.{Sugar}
use Rattle.def_kernel.specs.declared.node.Node.{Node}
use Rattle.ev_expand.specs.declared.marks.Fault.{Fault}
use Rattle.ev_expand.specs.declared.marks.FaultKind.{FaultKind}
use Rattle.ev_expand.specs.declared.marks.FaultKind.TheVariants.{Return, Break, Name}
use Rattle.ev_expand.specs.Expanded.{expanded}
use Rattle.ev_reader.specs.declared.scope_fault.ScopeFault.{ScopeFault}
use Rattle.ev_reader.specs.declared.scope_fault.ScopeFault.TheVariants.{Unbound, AssignToFinal, BoundTwice, Memory as NoMemory}
use Rattle.ev_reader.specs.declared.accepted.Scoped.{Scoped}
use Rattle.ev_reader.specs.Scopes.{first_fault}
use Rattle.ev_reader.specs.declared.fault.ProgramFault.{ProgramFault}
use Rattle.ev_reader.specs.declared.fault.ProgramFault.TheVariants.{At, Memory}
use Rattle.ev_reader.specs.declared.fault.Stage.TheVariants.{Lex, Parse, Nested, Expand, Scope}

-- the number of a fault of the expansion: a misplaced return, a misplaced break or continue, a reserved name
abbrev pub expansion_kind : FaultKind → ℕ
expansion_kind Return = 1
expansion_kind Break = 2
expansion_kind Name = 3

-- a noun that is not bound, an assignment to a final one, one that is bound twice
abbrev pub IsScopeFault : ℕ → ℕ → ScopeFault → Type 0
IsScopeFault kind place (Unbound id) = (kind ≡ 1) × (place ≡ id)
IsScopeFault kind place (AssignToFinal id) = (kind ≡ 2) × (place ≡ id)
IsScopeFault kind place (BoundTwice id) = (kind ≡ 3) × (place ≡ id)
IsScopeFault kind place NoMemory = ⊥

-- the refusal tells that fault
abbrev pub IsRefusal : ProgramFault → ScopeFault → Type 0
IsRefusal (At Scope kind place) fault = IsScopeFault kind place fault
IsRefusal (At _ kind place) fault = ⊥
IsRefusal Memory fault = fault ≡ NoMemory

-- the text has these tokens, and they spell this tree
abbrev pub Spells : List ℕ → List Token → Sugar → Type 0
Spells text tokens sugar = (lexed text ≡ Ok tokens) × IsParsed text tokens (Ok sugar)

-- and it expands to these nodes
abbrev pub Expands : List ℕ → List Token → Sugar → List Node → Type 0
Expands text tokens sugar nodes = Spells text tokens sugar × (expanded sugar.nodes sugar.root ≡ Ok nodes)

-- what is answered for a text under given names, unless memory runs out
abbrev pub Answers : Result Scoped ProgramFault → List ℕ → List (List ℕ) → Type 0
Answers (Ok scoped) text given =
    (tokens : List Token) × (sugar : Sugar) × Expands text tokens sugar scoped.tree × (first_fault scoped.tree given ≡ None) × (scoped.given ≡ given)
Answers (Err (At Lex kind place)) text given = lexed text ≡ Err (kind, place)
Answers (Err (At Parse kind place)) text given =
    (tokens : List Token) × (lexed text ≡ Ok tokens) × IsParsed text tokens (Err (NoSpelling place)) × (kind ≡ 0)
Answers (Err (At Nested kind place)) text given =
    (tokens : List Token) × (lexed text ≡ Ok tokens) × IsParsed text tokens (Err (TooNested place)) × (kind ≡ 0)
Answers (Err (At Expand kind place)) text given =
    (tokens : List Token) × (sugar : Sugar) × (fault : Fault) × Spells text tokens sugar × (expanded sugar.nodes sugar.root ≡ Err fault)
    × (kind ≡ expansion_kind fault.kind) × (place ≡ fault.token)
Answers (Err (At Scope kind place)) text given =
    (tokens : List Token) × (sugar : Sugar) × (nodes : List Node) × (fault : ScopeFault) × Expands text tokens sugar nodes
    × (first_fault nodes given ≡ Some fault) × IsScopeFault kind place fault
Answers (Err Memory) text given = Unit {0}

-- ---- the same of each stage alone

abbrev pub LexAnswers : Result (List Token) ProgramFault → List ℕ → Type 0
LexAnswers (Ok tokens) text = lexed text ≡ Ok tokens
LexAnswers (Err (At Lex kind place)) text = lexed text ≡ Err (kind, place)
LexAnswers (Err (At _ kind place)) text = ⊥
LexAnswers (Err Memory) text = Unit {0}

abbrev pub ParseAnswers : Result Sugar ProgramFault → List ℕ → List Token → Type 0
ParseAnswers (Ok sugar) text tokens = IsParsed text tokens (Ok sugar)
ParseAnswers (Err (At Parse kind place)) text tokens = IsParsed text tokens (Err (NoSpelling place)) × (kind ≡ 0)
ParseAnswers (Err (At Nested kind place)) text tokens = IsParsed text tokens (Err (TooNested place)) × (kind ≡ 0)
ParseAnswers (Err (At _ kind place)) text tokens = ⊥
ParseAnswers (Err Memory) text tokens = Unit {0}

abbrev pub ExpandAnswers : Result (List Node) ProgramFault → Sugar → Type 0
ExpandAnswers (Ok nodes) sugar = expanded sugar.nodes sugar.root ≡ Ok nodes
ExpandAnswers (Err (At Expand kind place)) sugar =
    (fault : Fault) × (expanded sugar.nodes sugar.root ≡ Err fault) × (kind ≡ expansion_kind fault.kind) × (place ≡ fault.token)
ExpandAnswers (Err (At _ kind place)) sugar = ⊥
ExpandAnswers (Err Memory) sugar = Unit {0}

abbrev pub ScopeAnswers : Result Scoped ProgramFault → List Node → List (List ℕ) → Type 0
ScopeAnswers (Ok scoped) nodes given = (first_fault nodes given ≡ None) × (scoped.tree ≡ nodes) × (scoped.given ≡ given)
ScopeAnswers (Err (At Scope kind place)) nodes given = (fault : ScopeFault) × (first_fault nodes given ≡ Some fault) × IsScopeFault kind place fault
ScopeAnswers (Err (At _ kind place)) nodes given = ⊥
ScopeAnswers (Err Memory) nodes given = Unit {0}
