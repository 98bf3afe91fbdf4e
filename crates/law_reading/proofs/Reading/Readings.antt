-- Two answers for one text tell the same.
use Rattle.std.proofs.Common.{◌≡◌, ℕ, List, Option, Some, None, Result, Ok, Err, refl, sym, ◌∙◌, subst, ap}
use Rattle.def_syntax.specs.declared.token.Token.{Token}
use Rattle.ev_lexer.specs.Lexed.{lexed}
use Rattle.def_syntax.specs.Grammar.{Tree}
use Rattle.def_syntax.specs.Heights.{Answer, tree, no_spelling, too_nested}
use Rattle.def_syntax.specs.Exact.{IsAnswer}
use Rattle.def_syntax.proofs.Verdicts.{one_tree}
use Rattle.ev_parser.specs.Draft.{Shows}
use Rattle.ev_parser.specs.Parsed.{numbered, IsParsed}
use Rattle.def_syntax.specs.declared.sugar.Sugar.{Sugar}
use Rattle.def_syntax.specs.declared.sugar.SugarNode.{SugarNode}
use Rattle.def_kernel.specs.declared.node.Node.{Node}
use Rattle.ev_expand.specs.declared.marks.Fault.{Fault}
use Rattle.ev_expand.specs.Expanded.{expanded}
use Rattle.ev_reader.specs.declared.scope_fault.ScopeFault.{ScopeFault}
use Rattle.ev_reader.specs.declared.scope_fault.ScopeFault.TheVariants.{Unbound, AssignToFinal, BoundTwice, Memory as NoMemory}
use Rattle.ev_reader.specs.declared.accepted.Scoped.{Scoped}
use Rattle.ev_reader.specs.Scopes.{first_fault}
use Rattle.ev_reader.specs.Program.{expansion_kind, IsScopeFault, Spells, Answers}
use Rattle.ev_reader.specs.declared.fault.Stage.{Stage}
use Rattle.ev_reader.specs.declared.fault.Stage.TheVariants.{Lex, Parse, Nested, Expand, Scope}
use Rattle.ev_reader.specs.declared.fault.ProgramFault.{ProgramFault}
use Rattle.ev_reader.specs.declared.fault.ProgramFault.TheVariants.{At, Memory}
use Rattle.law_reading.specs.Reading.Laws.{Agree}
use Rattle.law_reading.proofs.Reading.Answered.{one_answer}
use Rattle.law_reading.proofs.Reading.Arena.{one_expansion}

pub one_text : (text : List ℕ) (tokens : List Token) (a b : Sugar) → IsParsed text tokens (Ok a) → IsParsed text tokens (Ok b) → expanded a.nodes a.root ≡ expanded b.nodes b.root
one_text text tokens a b x y =
    let e : x.1 ≡ y.1 = one_tree (numbered 0 tokens) x.1 y.1 x.4.0 y.4.0 in
    ap (λ (ns : List SugarNode). expanded ns a.root) x.2
    ∙ one_expansion text tokens (numbered 0 tokens) x.1 x.4.0 x.0 y.0 a.root b.root x.3 (subst (λ (w : Tree). Shows y.0 b.root w) (sym e) y.3)
    ∙ sym (ap (λ (ns : List SugarNode). expanded ns b.root) y.2)

-- ---- how far a text is read

data Course : Type 0 where
  -- it has no tokens
  unlexed : ℕ × ℕ → Course
  -- they spell no tree, or one that is too high
  unparsed : Answer → Course
  -- they spell one, with this expansion
  comes_to : Result (List Node) Fault → Course

abbrev NoTree : Answer → Type 0
NoTree (tree w) = ⊥
NoTree (no_spelling k) = Unit {0}
NoTree (too_nested k) = Unit {0}

abbrev Takes : List ℕ → Course → Type 0
Takes text (unlexed f) = lexed text ≡ Err f
Takes text (unparsed a) = (tokens : List Token) × (lexed text ≡ Ok tokens) × IsAnswer (numbered 0 tokens) a × NoTree a
Takes text (comes_to r) = (tokens : List Token) × (sugar : Sugar) × Spells text tokens sugar × (expanded sugar.nodes sugar.root ≡ r)

ok_is : {A B : Type 0} {r : Result A B} {a b : A} → r ≡ Ok a → r ≡ Ok b → a ≡ b
ok_is {A} {B} {r} {a} {b} x y = cc

err_is : {A B : Type 0} {r : Result A B} {a b : B} → r ≡ Err a → r ≡ Err b → a ≡ b
err_is {A} {B} {r} {a} {b} x y = cc

not_both : {A B : Type 0} {r : Result A B} {a : A} {b : B} → r ≡ Ok a → r ≡ Err b → ⊥
not_both {A} {B} {r} {a} {b} x y = cc

-- two answers for one text by the grammar
answers_same : (text : List ℕ) (ts us : List Token) (a b : Answer) → lexed text ≡ Ok ts → lexed text ≡ Ok us → IsAnswer (numbered 0 ts) a → IsAnswer (numbered 0 us) b → a ≡ b
answers_same text ts us a b d e x y = one_answer (numbered 0 us) a b (subst (λ (z : List Token). IsAnswer (numbered 0 z) a) (ok_is d e) x) y

one_end : (text : List ℕ) (ts us : List Token) (a b : Sugar) → Spells text ts a → Spells text us b → expanded a.nodes a.root ≡ expanded b.nodes b.root
one_end text ts us a b x y = one_text text us a b (subst (λ (z : List Token). IsParsed text z (Ok a)) (ok_is x.0 y.0) x.1) y.1

no_tree : (text : List ℕ) (ts us : List Token) (a : Answer) (b : Sugar) → lexed text ≡ Ok ts → IsAnswer (numbered 0 ts) a → NoTree a → Spells text us b → ⊥
no_tree text ts us a b e x n y = subst NoTree (answers_same text ts us a (tree y.1.1) e y.0 x y.1.4) n

one_course : (text : List ℕ) (c d : Course) → Takes text c → Takes text d → c ≡ d
one_course text (unlexed f) (unlexed g) x y = ap unlexed (err_is x y)
one_course text (unlexed f) (unparsed b) x y = absurd (not_both y.1 x)
one_course text (unlexed f) (comes_to q) x y = absurd (not_both y.2.0 x)
one_course text (unparsed a) (unlexed g) x y = absurd (not_both x.1 y)
one_course text (unparsed a) (unparsed b) x y = ap unparsed (answers_same text x.0 y.0 a b x.1 y.1 x.2 y.2)
one_course text (unparsed a) (comes_to q) x y = absurd (no_tree text x.0 y.0 a y.1 x.1 x.2 x.3 y.2)
one_course text (comes_to r) (unlexed g) x y = absurd (not_both x.2.0 y)
one_course text (comes_to r) (unparsed b) x y = absurd (no_tree text y.0 x.0 b x.1 y.1 y.2 y.3 x.2)
one_course text (comes_to r) (comes_to q) x y = ap comes_to (sym x.3 ∙ one_end text x.0 y.0 x.1 y.1 x.2 y.2 ∙ y.3)

-- ---- what is told of it

data Told : Type 0 where
  scoped : List Node → List (List ℕ) → Told
  refused : Stage → ℕ → ℕ → Told
  nothing : Told

abbrev told_fault : ScopeFault → Told
told_fault (Unbound id) = refused Scope 1 id
told_fault (AssignToFinal id) = refused Scope 2 id
told_fault (BoundTwice id) = refused Scope 3 id
told_fault NoMemory = nothing

abbrev told_scope : Option ScopeFault → List Node → List (List ℕ) → Told
told_scope None nodes given = scoped nodes given
told_scope (Some f) nodes given = told_fault f

abbrev told : List (List ℕ) → Course → Told
told given (unlexed f) = refused Lex f.0 f.1
told given (unparsed (tree w)) = nothing
told given (unparsed (no_spelling k)) = refused Parse 0 k
told given (unparsed (too_nested k)) = refused Nested 0 k
told given (comes_to (Ok nodes)) = told_scope (first_fault nodes given) nodes given
told given (comes_to (Err f)) = refused Expand (expansion_kind f.kind) f.token

abbrev told_by : Result Scoped ProgramFault → Told
told_by (Ok s) = scoped s.tree s.given
told_by (Err (At stage kind place)) = refused stage kind place
told_by (Err Memory) = nothing

-- a course that an answer tells
abbrev Finds : List ℕ → List (List ℕ) → Result Scoped ProgramFault → Type 0
Finds text given (Err Memory) = Unit {0}
Finds text given r = (c : Course) × Takes text c × (told given c ≡ told_by r)

fault_told : (kind place : ℕ) (f : ScopeFault) → IsScopeFault kind place f → told_fault f ≡ refused Scope kind place
fault_told kind place (Unbound id) h = ap (λ (x : ℕ). refused Scope 1 x) (sym h.1) ∙ ap (λ (x : ℕ). refused Scope x place) (sym h.0)
fault_told kind place (AssignToFinal id) h = ap (λ (x : ℕ). refused Scope 2 x) (sym h.1) ∙ ap (λ (x : ℕ). refused Scope x place) (sym h.0)
fault_told kind place (BoundTwice id) h = ap (λ (x : ℕ). refused Scope 3 x) (sym h.1) ∙ ap (λ (x : ℕ). refused Scope x place) (sym h.0)
fault_told kind place NoMemory h = absurd h

finds : (text : List ℕ) (given : List (List ℕ)) (r : Result Scoped ProgramFault) → Answers r text given → Finds text given r
finds text given (Ok s) h = (
  comes_to (Ok s.tree),
  (h.0, h.1, h.2.0, h.2.1),
  ap (λ (x : Option ScopeFault). told_scope x s.tree given) h.3 ∙ ap (λ (x : List (List ℕ)). scoped s.tree x) (sym h.4),
)
finds text given (Err (At Lex kind place)) h = (unlexed (kind, place), h, refl)
finds text given (Err (At Parse kind place)) h = (unparsed (no_spelling place), (h.0, h.1, h.2, tt), ap (λ (x : ℕ). refused Parse x place) (sym h.3))
finds text given (Err (At Nested kind place)) h = (unparsed (too_nested place), (h.0, h.1, h.2, tt), ap (λ (x : ℕ). refused Nested x place) (sym h.3))
finds text given (Err (At Expand kind place)) h = (
  comes_to (Err h.2),
  (h.0, h.1, h.3, h.4),
  ap (λ (x : ℕ). refused Expand x h.2.token) (sym h.5) ∙ ap (λ (x : ℕ). refused Expand kind x) (sym h.6),
)
finds text given (Err (At Scope kind place)) h = (
  comes_to (Ok h.2),
  (h.0, h.1, h.4.0, h.4.1),
  ap (λ (x : Option ScopeFault). told_scope x h.2 given) h.5 ∙ fault_told kind place h.3 h.6,
)
finds text given (Err Memory) h = tt

tell_same : (a b : Result Scoped ProgramFault) → told_by a ≡ told_by b → Agree a b
tell_same (Ok a) (Ok b) e = (cc, cc)
tell_same (Err (At stage kind place)) (Err (At stage' kind' place')) e = (cc, cc, cc)
tell_same (Err Memory) b e = tt
tell_same (Ok a) (Err (At stage kind place)) e = cc
tell_same (Err (At stage kind place)) (Ok b) e = cc
tell_same other (Err Memory) e = tt

one_told : (text : List ℕ) (given : List (List ℕ)) (a b : Result Scoped ProgramFault) (c d : Course) → Takes text c → Takes text d → told given c ≡ told_by a → told given d ≡ told_by b → Agree a b
one_told text given a b c d x y p q = tell_same a b (sym p ∙ ap (told given) (one_course text c d x y) ∙ q)

agree : (text : List ℕ) (given : List (List ℕ)) (a b : Result Scoped ProgramFault) → Finds text given a → Finds text given b → Agree a b
agree text given (Err Memory) b x y = tt
agree text given (Ok a) (Ok b) x y = one_told text given (Ok a) (Ok b) x.0 y.0 x.1 y.1 x.2 y.2
agree text given (Ok a) (Err (At s k p)) x y = one_told text given (Ok a) (Err (At s k p)) x.0 y.0 x.1 y.1 x.2 y.2
agree text given (Err (At s k p)) (Ok b) x y = one_told text given (Err (At s k p)) (Ok b) x.0 y.0 x.1 y.1 x.2 y.2
agree text given (Err (At s k p)) (Err (At s' k' p')) x y = one_told text given (Err (At s k p)) (Err (At s' k' p')) x.0 y.0 x.1 y.1 x.2 y.2
agree text given other (Err Memory) x y = tt

pub answers_agree : (text : List ℕ) (given : List (List ℕ)) (a b : Result Scoped ProgramFault) → Answers a text given → Answers b text given → Agree a b
answers_agree text given a b x y = agree text given a b (finds text given a x) (finds text given b y)
