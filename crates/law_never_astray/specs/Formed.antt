-- Which nodes of a tree stand where an expression, a pattern, a member or the name of an object is wanted.
use Rattle.std.specs.Prelude.{ℕ, zero, suc, List, [], ◌∷◌, None, length}
use Rattle.def_kernel.specs.declared.node.Node.{Node}
use Rattle.def_kernel.specs.declared.node.Node.TheVariants.{Lit, Noun, Set, Def, Call, Sequence, If, Escape, Try, Finally, Hide, MatchBind, Object, Method, Matcher, Final, Var, Any, ListPattern, Via}
use Rattle.def_kernel.specs.declared.shape.Kind.{Kind}
use Rattle.def_kernel.specs.declared.shape.Kind.TheVariants.{Expression, Pattern, Member, Naming}
use Rattle.def_machine.specs.State.{WhereSome}
use Rattle.def_kernel.specs.Trees.{Has}

-- what holds of each of a list
abbrev pub AllOf : {A : Type 0} → (A → Type 0) → List A → Type 0
AllOf P [] = Unit {0}
AllOf P (x ∷ xs) = P x × AllOf P xs

-- a node of this kind, whose parts are of the kinds that it wants
abbrev pub FormedBy : (Kind → ℕ → Type 0) → Kind → Node → Type 0
FormedBy P Expression (Lit l) = Unit {0}
FormedBy P Expression (Noun x) = Unit {0}
FormedBy P Expression (Set x e) = P Expression e
FormedBy P Expression (Def p exit e) = P Pattern p × WhereSome (P Expression) exit × P Expression e
FormedBy P Expression (Call r verb args) = P Expression r × AllOf (P Expression) args
FormedBy P Expression (Sequence parts) = AllOf (P Expression) parts
FormedBy P Expression (If a b c) = P Expression a × P Expression b × P Expression c
FormedBy P Expression (Escape p b c) = P Pattern p × P Expression b × WhereSome (λ (caught : ℕ × ℕ). P Pattern caught.0 × P Expression caught.1) c
FormedBy P Expression (Try b p h) = P Expression b × P Pattern p × P Expression h
FormedBy P Expression (Finally a b) = P Expression a × P Expression b
FormedBy P Expression (Hide e) = P Expression e
FormedBy P Expression (MatchBind e p) = P Expression e × P Pattern p
FormedBy P Expression (Object p auditors members) = P Naming p × AllOf (P Expression) auditors × AllOf (P Member) members
FormedBy P Member (Method verb patterns b) = AllOf (P Pattern) patterns × P Expression b
FormedBy P Member (Matcher p b) = P Pattern p × P Expression b
FormedBy P Pattern (Final x g) = WhereSome (P Expression) g
FormedBy P Pattern (Var x g) = WhereSome (P Expression) g
FormedBy P Pattern (Any g) = WhereSome (P Expression) g
FormedBy P Pattern (ListPattern patterns) = AllOf (P Pattern) patterns
FormedBy P Pattern (Via e p) = P Expression e × P Pattern p
FormedBy P Naming (Final x None) = Unit {0}
FormedBy P Naming (Any None) = Unit {0}
FormedBy P kind node = ⊥

-- the node of this number is of this kind, and at most so high
abbrev pub FormedWithin : List Node → ℕ → Kind → ℕ → Type 0
FormedWithin tree zero kind n = ⊥
FormedWithin tree (suc h) kind n = (node : Node) × Has tree n node × FormedBy (FormedWithin tree h) kind node

abbrev pub Formed : List Node → Kind → ℕ → Type 0
Formed tree kind n = FormedWithin tree (length tree) kind n
