-- The surface node of a node that has been read: its fields by the parts of its line.
use Rattle.std.specs.Prelude.{◌≡◌, ℕ, suc, List, [], ◌∷◌, ◌-◌, Option, Some, None, Bool, true, false, cond, not, ◌&&◌, ◌||◌, nat_le, nat_lt, slice_get, slice_index, slice_range, length, take, drop}
use Rattle.def_syntax.specs.declared.token.Token.{Token}
use Rattle.def_syntax.specs.declared.token.TokenKind.{TokenKind}
use Rattle.def_syntax.specs.declared.token.TokenKind.TheVariants as kinds
use Rattle.def_syntax.specs.declared.syntax.Word.{Word}
use Rattle.def_syntax.specs.declared.syntax.Shape.{Shape}
use Rattle.def_syntax.specs.declared.syntax.Shape.TheVariants as shapes
use Rattle.def_syntax.specs.Kinds.{same}
use Rattle.ev_parser.specs.declared.draft.Part.{Part}
use Rattle.ev_parser.specs.declared.draft.Part.TheVariants as piece
use Rattle.def_syntax.specs.declared.form.Form.{Form}
use Rattle.def_syntax.specs.declared.form.Form.TheVariants as forms

-- whether a text may be cut at an index
abbrev pub is_boundary : List ℕ → ℕ → Bool
is_boundary s i = nat_le i (length s) && (not (nat_lt i (length s)) || (nat_lt (slice_index s i) 128 || nat_le 192 (slice_index s i)))

-- the bytes from an index to before another one, or none where the text may not be cut there
abbrev pub cut : List ℕ → ℕ → ℕ → List ℕ
cut s i j = cond (nat_le i j && (is_boundary s i && is_boundary s j)) (slice_range s i j) []

abbrev pub token_text : List ℕ → Option Token → List ℕ
token_text s None = []
token_text s (Some t) = cut s t.start t.end

-- the text of a token
abbrev pub word_text : List ℕ → List Token → Word → List ℕ
word_text s ts w = token_text s (slice_get ts w.number)

abbrev pub part_text : List ℕ → List Token → Option Part → List ℕ
part_text s ts None = []
part_text s ts (Some (piece.Tree i)) = []
part_text s ts (Some (piece.Token w)) = word_text s ts w

-- the text of the token that is this part
abbrev pub text_at : List ℕ → List Token → List Part → ℕ → List ℕ
text_at s ts ps k = part_text s ts (slice_get ps k)

abbrev pub part_tree : Option Part → Option ℕ
part_tree None = None
part_tree (Some (piece.Tree i)) = Some i
part_tree (Some (piece.Token w)) = None

-- the tree that is this part, if it is one
abbrev pub tree_if : List Part → ℕ → Option ℕ
tree_if ps k = part_tree (slice_get ps k)

abbrev pub or_zero : Option ℕ → ℕ
or_zero None = 0
or_zero (Some i) = i

-- the tree that is this part; each line has one there
abbrev pub tree_at : List Part → ℕ → ℕ
tree_at ps k = or_zero (tree_if ps k)

-- the tree that is the last part
abbrev pub last_tree : List Part → ℕ
last_tree ps = tree_at ps (length ps - 1)

-- all parts but the last
abbrev pub front : List Part → List Part
front ps = take (length ps - 1) ps

-- the trees among some parts
abbrev pub trees : List Part → List ℕ
trees [] = []
trees (piece.Tree i ∷ ps) = i ∷ trees ps
trees (piece.Token w ∷ ps) = trees ps

abbrev pub is_mark : TokenKind → Part → Bool
is_mark k (piece.Tree i) = false
is_mark k (piece.Token w) = same w.kind k

-- how many parts stand before the first token of a kind
abbrev pub mark : TokenKind → List Part → ℕ
mark k [] = 0
mark k (p ∷ ps) = cond (is_mark k p) 0 (suc (mark k ps))

-- the parts before the first token of a kind, and those behind it
abbrev pub before : TokenKind → List Part → List Part
before k ps = take (mark k ps) ps

abbrev pub behind : TokenKind → List Part → List Part
behind k ps = drop (suc (mark k ps)) ps

-- a pattern with its block
abbrev pub caught_pair : Option ℕ → Option ℕ → Option (ℕ × ℕ)
caught_pair (Some p) (Some b) = Some (p, b)
caught_pair _ _ = None

abbrev pub caught_at : List Part → ℕ → ℕ → Option (ℕ × ℕ)
caught_at ps i j = caught_pair (tree_if ps i) (tree_if ps j)

-- the catches of a `try`, behind its block
abbrev pub catches : List Part → List (ℕ × ℕ)
catches (piece.Token w ∷ (piece.Tree p ∷ (piece.Tree b ∷ ps))) = (p, b) ∷ catches ps
catches _ = []

-- the first of these catches, if there is one
abbrev pub CatchAt : List Part → Option (ℕ × ℕ) → Type 0
CatchAt ps None = catches ps ≡ []
CatchAt ps (Some c) = (w : Word) × (qs : List Part) × (ps ≡ piece.Token w ∷ (piece.Tree c.0 ∷ (piece.Tree c.1 ∷ qs)))

-- the key and the value of a `for`
abbrev pub for_form : Bool → List Part → Form
for_form true ps = forms.For (Some (tree_at ps 0)) (tree_at ps 2) (tree_at ps 4) (tree_at ps 5)
for_form false ps = forms.For None (tree_at ps 0) (tree_at ps 2) (tree_at ps 3)

abbrev pub is_part : TokenKind → Option Part → Bool
is_part k None = false
is_part k (Some p) = is_mark k p

-- the verb of a send, if there is one
abbrev pub verb_if : List ℕ → List Token → List Part → Option (List ℕ)
verb_if s ts ps = cond (is_part kinds.OpenParen (slice_get ps 2)) None (Some (text_at s ts ps 2))

-- the name of an object, if there is one
abbrev pub name_if : List ℕ → List Token → List Part → Option (List ℕ)
name_if s ts ps = cond (is_part kinds.Ignore (slice_get ps 0)) None (Some (text_at s ts ps 0))

abbrev pub literal : TokenKind → List ℕ → Form
literal kinds.Number x = forms.Number x
literal kinds.Character x = forms.Character x
literal _ x = forms.Text x

-- behind the patterns of a function or a member
abbrev pub rest_of : List Part → List Part
rest_of ps = behind kinds.CloseParen ps

abbrev pub guard_of : List Part → Option ℕ
guard_of ps = tree_if (behind kinds.Colon ps) 0

abbrev pub surface : List ℕ → List Token → Shape → Word → List Part → Form
surface s ts shapes.Literal f ps = literal f.kind (word_text s ts f)
surface s ts shapes.Noun f ps = forms.Noun (word_text s ts f)
surface s ts shapes.List f ps = forms.List (trees ps)
surface s ts shapes.Group f ps = forms.Group (tree_at ps 0)
surface s ts shapes.Block f ps = forms.Block (trees ps)
surface s ts shapes.If f ps = forms.If (tree_at ps 1) (tree_at ps 3) (tree_if ps 5)
surface s ts shapes.While f ps = forms.While (tree_at ps 1) (tree_at ps 3)
surface s ts shapes.For f ps = for_form (is_part kinds.FatArrow (slice_get ps 1)) ps
surface s ts shapes.Escape f ps = forms.Escape (tree_at ps 0) (tree_at ps 1) (caught_at ps 3 4)
surface s ts shapes.Try f ps = forms.Try (tree_at ps 0) (catches (drop 1 ps)) (tree_if (behind kinds.Finally ps) 0)
surface s ts shapes.When f ps = forms.When (tree_at ps 1) (tree_at ps 4) (caught_at ps 6 7)
surface s ts shapes.Function f ps = forms.Function (trees (front ps)) (last_tree ps)
surface s ts shapes.Call f ps = forms.Call (tree_at ps 0) (trees (drop 1 ps))
surface s ts shapes.Index f ps = forms.Index (tree_at ps 0) (trees (drop 1 ps))
surface s ts shapes.VerbCall f ps = forms.VerbCall (tree_at ps 0) (text_at s ts ps 2) (trees (drop 1 ps))
surface s ts shapes.Send f ps = forms.Send (tree_at ps 0) (verb_if s ts ps) (trees (drop 1 ps))
surface s ts shapes.Prefix f ps = forms.Prefix (word_text s ts f) (tree_at ps 0)
surface s ts shapes.Binary f ps = forms.Binary (tree_at ps 0) (text_at s ts ps 1) (tree_at ps 2)
surface s ts shapes.MatchBind f ps = forms.MatchBind (tree_at ps 0) (tree_at ps 2)
surface s ts shapes.Assign f ps = forms.Assign (word_text s ts f) (text_at s ts ps 0) (tree_at ps 1)
surface s ts shapes.AssignIndex f ps = forms.AssignIndex (tree_at ps 0) (trees (front (drop 1 ps))) (last_tree ps)
surface s ts shapes.Leave f ps = forms.Leave (word_text s ts f) (tree_if ps 0)
surface s ts shapes.DefineObject f ps = forms.DefineObject (name_if s ts ps) (trees (before kinds.OpenBrace ps)) (trees (behind kinds.OpenBrace ps))
surface s ts shapes.DefineFunction f ps = forms.DefineFunction (text_at s ts ps 0) (trees (before kinds.CloseParen ps)) (guard_of (rest_of ps)) (trees (front (behind kinds.Implements (rest_of ps)))) (last_tree ps)
surface s ts shapes.Define f ps = forms.Define (tree_at ps 0) (tree_if (behind kinds.Exit ps) 0) (last_tree ps)
surface s ts shapes.DefineVar f ps = forms.DefineVar (text_at s ts ps 0) (guard_of ps) (tree_if (behind kinds.Exit ps) 0) (last_tree ps)
surface s ts shapes.AnyPattern f ps = forms.AnyPattern (guard_of ps)
surface s ts shapes.FinalPattern f ps = forms.FinalPattern (word_text s ts f) (guard_of ps)
surface s ts shapes.VarPattern f ps = forms.VarPattern (text_at s ts ps 0) (guard_of ps)
surface s ts shapes.ListPattern f ps = forms.ListPattern (trees ps)
surface s ts shapes.ViaPattern f ps = forms.ViaPattern (tree_at ps 1) (tree_at ps 3)
surface s ts shapes.NounGuard f ps = forms.NounGuard (word_text s ts f) (trees ps)
surface s ts shapes.ExprGuard f ps = forms.ExprGuard (tree_at ps 0)
surface s ts shapes.To f ps = forms.To (text_at s ts ps 0) (trees (before kinds.CloseParen ps)) (guard_of (rest_of ps)) (last_tree ps)
surface s ts shapes.Method f ps = forms.Method (text_at s ts ps 0) (trees (before kinds.CloseParen ps)) (guard_of (rest_of ps)) (last_tree ps)
surface s ts shapes.Matcher f ps = forms.Matcher (tree_at ps 0) (tree_at ps 1)
surface s ts shapes.Program f ps = forms.Program (trees ps)

-- the surface node of a node of this shape
abbrev pub IsFormOf : Shape → List ℕ → List Token → Word → List Part → Form → Type 0
IsFormOf h s ts f ps form = form ≡ surface s ts h f ps
