-- What some tokens are read as.
use Rattle.std.specs.Prelude.{◌≡◌, Result, Ok, Err, map, ℕ, suc, List, [], ◌∷◌}
use Rattle.def_syntax.specs.declared.token.Token.{Token}
use Rattle.def_syntax.specs.declared.syntax.Word.{Word}
use Rattle.def_syntax.specs.Grammar.{Tree}
use Rattle.def_syntax.specs.Heights.{tree, no_spelling, too_nested}
use Rattle.def_syntax.specs.Exact.{IsAnswer}
use Rattle.ev_parser.specs.Draft.{Shows}
use Rattle.ev_parser.specs.declared.draft.Node.{Node}
use Rattle.ev_parser.specs.declared.parser.ParseFault.{ParseFault}
use Rattle.ev_parser.specs.declared.parser.ParseFault.TheVariants as faults
use Rattle.def_syntax.specs.declared.sugar.Sugar.{Sugar}
use Rattle.ev_parser.specs.Sweet.{node_of}
use Rattle.ev_parser.specs.declared.read.Reading.{Reading}
use Rattle.ev_parser.specs.declared.read.Reading.TheVariants as readings

-- the tokens by kind and number, the first having this number
abbrev pub numbered : ℕ → List Token → List Word
numbered n [] = []
numbered n (t ∷ ts) = record { kind = t.kind; number = n } ∷ numbered (suc n) ts

-- the reading is exact
abbrev pub IsRead : List Token → Reading → Type 0
IsRead ts (readings.Tree ns i) = (w : Tree) × Shows ns.items i w × IsAnswer (numbered 0 ts) (tree w)
IsRead ts (readings.NoSpelling k) = IsAnswer (numbered 0 ts) (no_spelling k)
IsRead ts (readings.TooNested k) = IsAnswer (numbered 0 ts) (too_nested k)

-- The surface tree has the nodes of the tree that the tokens spell, and a refusal is exact.
abbrev pub IsParsed : List ℕ → List Token → Result Sugar ParseFault → Type 0
IsParsed s ts (Ok sugar) = (ns : List Node) × (w : Tree) × (sugar.nodes ≡ map (λ n. node_of s ts n) ns) × Shows ns sugar.root w × IsAnswer (numbered 0 ts) (tree w)
IsParsed s ts (Err (faults.NoSpelling k)) = IsAnswer (numbered 0 ts) (no_spelling k)
IsParsed s ts (Err (faults.TooNested k)) = IsAnswer (numbered 0 ts) (too_nested k)
IsParsed s ts (Err faults.Memory) = Unit {0}
