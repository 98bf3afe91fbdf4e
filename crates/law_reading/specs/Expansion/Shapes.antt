-- What the parts of a node are: which kind of tree each shape is, and which kinds it wants where.
use Rattle.std.specs.Prelude.{◌≡◌, ◌⊎◌, ℕ, List, [], ◌∷◌, ◌++◌, false, Option, Some, None, slice_get}
use Rattle.def_kernel.specs.declared.shape.Kind.{Kind}
use Rattle.def_kernel.specs.declared.shape.Kind.TheVariants.{Expression, Pattern, Member}
use Rattle.def_syntax.specs.declared.token.TokenKind.{TokenKind}
use Rattle.def_syntax.specs.declared.token.TokenKind.TheVariants as kinds
use Rattle.def_syntax.specs.declared.syntax.Word.{Word}
use Rattle.def_syntax.specs.declared.syntax.Shape.{Shape}
use Rattle.def_syntax.specs.declared.syntax.Shape.TheVariants as shapes
use Rattle.def_syntax.specs.Kinds.{same}
use Rattle.def_syntax.specs.Grammar.{Tree, Trees, node, none, more, leaf, shape_of}

-- the kind of tree that a node of this shape expands to; a guard is an expression
abbrev pub sort_of : Shape → Kind
sort_of shapes.AnyPattern = Pattern
sort_of shapes.FinalPattern = Pattern
sort_of shapes.VarPattern = Pattern
sort_of shapes.ListPattern = Pattern
sort_of shapes.ViaPattern = Pattern
sort_of shapes.To = Member
sort_of shapes.Method = Member
sort_of shapes.Matcher = Member
sort_of _ = Expression

-- a part of a node: a tree, by its kind, or a token, by its own
pub data Slot : Type 0 where
  part : Kind → Slot
  token : TokenKind → Slot

abbrev pub slots : Trees → List Slot
slots none = []
slots (more ts v) = slots ts ++ part (sort_of (shape_of v)) ∷ []
slots (leaf ts t) = slots ts ++ token t.kind ∷ []

-- all trees are of this kind
abbrev pub Only : Kind → List Slot → Type 0
Only kind [] = Unit {0}
Only kind (part j ∷ ss) = (j ≡ kind) × Only kind ss
Only kind (token t ∷ ss) = Only kind ss

-- all trees are of this kind, and no token is the mark
abbrev pub Before : TokenKind → Kind → List Slot → Type 0
Before mark kind [] = Unit {0}
Before mark kind (part j ∷ ss) = (j ≡ kind) × Before mark kind ss
Before mark kind (token t ∷ ss) = (same t mark ≡ false) × Before mark kind ss

-- trees of one kind, the mark, and trees of another kind
pub record Turned (mark : TokenKind) (a b : Kind) (ss : List Slot) : Type 0 where
  pub front : List Slot
  pub back : List Slot
  pub is : ss ≡ front ++ token mark ∷ back
  pub first : Before mark a front
  pub second : Only b back

-- the part at this place is a tree of this kind
abbrev pub At : Kind → List Slot → ℕ → Type 0
At kind ss n = slice_get ss n ≡ Some (part kind)

abbrev pub MayBe : Kind → Option Slot → Type 0
MayBe kind None = Unit {0}
MayBe kind (Some (part j)) = j ≡ kind
MayBe kind (Some (token t)) = Unit {0}

-- the first part is a token of this kind
abbrev pub Heads : TokenKind → List Slot → Type 0
Heads t ss = slice_get ss 0 ≡ Some (token t)

-- the last part is an expression
abbrev pub EndsWell : List Slot → Type 0
EndsWell ss = (xs : List Slot) × (ss ≡ xs ++ part Expression ∷ [])

-- the first part is a name, or `_`
abbrev pub IsObjectName : List Slot → Type 0
IsObjectName ss = Heads kinds.Identifier ss ⊎ Heads kinds.Ignore ss

-- the token is `return`, `break` or `continue`
abbrev pub IsLeave : TokenKind → Type 0
IsLeave kinds.Return = Unit {0}
IsLeave kinds.Break = Unit {0}
IsLeave kinds.Continue = Unit {0}
IsLeave _ = ⊥

-- behind the block of a `try`: catches, and what is done finally
pub data Tries : List Slot → Type 0 where
  no_more : Tries []
  finishes : Tries (token kinds.Finally ∷ part Expression ∷ [])
  catches : {ss : List Slot} → Tries ss → Tries (token kinds.Catch ∷ part Pattern ∷ part Expression ∷ ss)

abbrev pub with_key : List Slot
with_key = part Pattern ∷ token kinds.FatArrow ∷ part Pattern ∷ token kinds.In ∷ []

abbrev pub without_key : List Slot
without_key = part Pattern ∷ token kinds.In ∷ []

abbrev pub two_more : List Slot → List Slot
two_more ss = (ss ++ part Expression ∷ []) ++ part Expression ∷ []

-- the parts of a node of this shape, whose first token is of this kind, are of the kinds that it wants
abbrev pub Sorted : Shape → TokenKind → List Slot → Type 0
Sorted shapes.Literal k ss = Unit {0}
Sorted shapes.Noun k ss = (k ≡ kinds.Identifier) × (ss ≡ [])
Sorted shapes.For k ss = (ss ≡ two_more with_key) ⊎ (ss ≡ two_more without_key)
Sorted shapes.Escape k ss = At Pattern ss 0 × (At Expression ss 1 × (MayBe Pattern (slice_get ss 3) × MayBe Expression (slice_get ss 4)))
Sorted shapes.Try k ss = (rs : List Slot) × ((ss ≡ part Expression ∷ rs) × Tries rs)
Sorted shapes.When k ss = At Expression ss 1 × (At Expression ss 4 × (MayBe Pattern (slice_get ss 6) × MayBe Expression (slice_get ss 7)))
Sorted shapes.Function k ss = (xs : List Slot) × ((ss ≡ xs ++ part Expression ∷ []) × Only Pattern xs)
Sorted shapes.MatchBind k ss = At Expression ss 0 × At Pattern ss 2
Sorted shapes.Assign k ss = (k ≡ kinds.Identifier) × Only Expression ss
Sorted shapes.Leave k ss = IsLeave k × Only Expression ss
Sorted shapes.DefineObject k ss = IsObjectName ss × Turned kinds.OpenBrace Expression Member ss
Sorted shapes.DefineFunction k ss = Heads kinds.Identifier ss × (Turned kinds.CloseParen Pattern Expression ss × EndsWell ss)
Sorted shapes.Define k ss = (rs : List Slot) × ((ss ≡ part Pattern ∷ rs) × (Only Expression rs × EndsWell ss))
Sorted shapes.DefineVar k ss = Heads kinds.Identifier ss × (Only Expression ss × EndsWell ss)
Sorted shapes.FinalPattern k ss = (k ≡ kinds.Identifier) × Only Expression ss
Sorted shapes.VarPattern k ss = Heads kinds.Identifier ss × Only Expression ss
Sorted shapes.ListPattern k ss = Only Pattern ss
Sorted shapes.ViaPattern k ss = At Expression ss 1 × At Pattern ss 3
Sorted shapes.NounGuard k ss = (k ≡ kinds.Identifier) × Only Expression ss
Sorted shapes.To k ss = Turned kinds.CloseParen Pattern Expression ss × EndsWell ss
Sorted shapes.Method k ss = Turned kinds.CloseParen Pattern Expression ss × EndsWell ss
Sorted shapes.Matcher k ss = At Pattern ss 0 × At Expression ss 1
Sorted _ k ss = Only Expression ss

-- each node of the tree is so, and each token in it is one of these
abbrev mutual
  pub Fair : (Word → Type 0) → Tree → Type 0
  Fair G (node s t ts) = Sorted s t.kind (slots ts) × (G t × AllFair G ts)

  pub AllFair : (Word → Type 0) → Trees → Type 0
  AllFair G none = Unit {0}
  AllFair G (more ts v) = AllFair G ts × Fair G v
  AllFair G (leaf ts t) = AllFair G ts × G t
