-- The form of a node in pieces: its word with the name, verb or literal behind it, and then its parts from left to right.
use Rattle.std.specs.Prelude.{ℕ, zero, suc, List, [], ◌∷◌, ◌++◌, map, slice_get, codes, Option, Some, None}
use Rattle.def_text.specs.Keywords.{printed_verb}
use Rattle.def_kernel.specs.Forms.{literal_form}
use Rattle.def_kernel.specs.declared.node.Node.{Node}
use Rattle.def_kernel.specs.declared.node.Node.TheVariants.{Lit, Noun, Set, Def, Call, Sequence, If, Escape, Try, Finally, Hide, MatchBind, Object, Method, Matcher, Final, Var, Any, ListPattern, Via}
use Rattle.ev_kernel_printer.specs.declared.pieces.Piece.{Piece}
use Rattle.ev_kernel_printer.specs.declared.pieces.Piece.TheVariants.{Spaced, Group, Verb, Exit, Open, Close}

-- the opening bracket, the word and what is no node behind it, up to the first part
abbrev pub head : Node → List ℕ
head (Lit literal) = codes "(lit " ++ literal_form literal
head (Noun name) = codes "(noun " ++ name
head (Set name value) = codes "(set " ++ name
head (Def pattern exit value) = codes "(def"
head (Call receiver verb args) = codes "(call"
head (Sequence parts) = codes "(seq"
head (If test then_part else_part) = codes "(if"
head (Escape pattern body caught) = codes "(escape"
head (Try body pattern handler) = codes "(try"
head (Finally body after) = codes "(finally"
head (Hide body) = codes "(hide"
head (MatchBind value pattern) = codes "(match"
head (Object pattern auditors members) = codes "(object"
head (Method verb patterns body) = codes "(method " ++ printed_verb verb
head (Matcher pattern body) = codes "(matcher"
head (Final name guard) = codes "(final " ++ name
head (Var name guard) = codes "(var " ++ name
head (Any guard) = codes "(any"
head (ListPattern patterns) = codes "(list"
head (Via value pattern) = codes "(via"

-- nodes, each behind a space
abbrev pub items : ℕ → List ℕ → List Piece
items height ids = map (λ id. Spaced id height) ids

-- nodes between brackets
abbrev pub group : ℕ → List ℕ → List Piece
group height [] = Open ∷ Close ∷ []
group height (id ∷ ids) = Group id height ∷ (items height ids ++ Close ∷ [])

-- a node or none
abbrev pub perhaps : ℕ → Option ℕ → List Piece
perhaps height None = []
perhaps height (Some id) = Spaced id height ∷ []

abbrev pub exit_parts : ℕ → Option ℕ → List Piece
exit_parts height None = []
exit_parts height (Some id) = Exit ∷ Spaced id height ∷ []

abbrev pub caught_parts : ℕ → Option (ℕ × ℕ) → List Piece
caught_parts height None = []
caught_parts height (Some caught) = Spaced caught.0 height ∷ Spaced caught.1 height ∷ []

-- the pieces of the node of this number, behind its head and before its closing bracket
abbrev pub inner_parts : ℕ → ℕ → Node → List Piece
inner_parts id height (Lit literal) = []
inner_parts id height (Noun name) = []
inner_parts id height (Set name value) = Spaced value height ∷ []
inner_parts id height (Def pattern exit value) = Spaced pattern height ∷ (exit_parts height exit ++ Spaced value height ∷ [])
inner_parts id height (Call receiver verb args) = Spaced receiver height ∷ Verb id ∷ items height args
inner_parts id height (Sequence parts) = items height parts
inner_parts id height (If test then_part else_part) = Spaced test height ∷ Spaced then_part height ∷ Spaced else_part height ∷ []
inner_parts id height (Escape pattern body caught) = Spaced pattern height ∷ Spaced body height ∷ caught_parts height caught
inner_parts id height (Try body pattern handler) = Spaced body height ∷ Spaced pattern height ∷ Spaced handler height ∷ []
inner_parts id height (Finally body after) = Spaced body height ∷ Spaced after height ∷ []
inner_parts id height (Hide body) = Spaced body height ∷ []
inner_parts id height (MatchBind value pattern) = Spaced value height ∷ Spaced pattern height ∷ []
inner_parts id height (Object pattern auditors members) = Spaced pattern height ∷ (group height auditors ++ items height members)
inner_parts id height (Method verb patterns body) = group height patterns ++ Spaced body height ∷ []
inner_parts id height (Matcher pattern body) = Spaced pattern height ∷ Spaced body height ∷ []
inner_parts id height (Final name guard) = perhaps height guard
inner_parts id height (Var name guard) = perhaps height guard
inner_parts id height (Any guard) = perhaps height guard
inner_parts id height (ListPattern patterns) = items height patterns
inner_parts id height (Via value pattern) = Spaced value height ∷ Spaced pattern height ∷ []

abbrev pub parts : ℕ → ℕ → Node → List Piece
parts id height node = inner_parts id height node ++ Close ∷ []

-- what is written of a node before its parts, and the pieces that then come, to so many levels
abbrev pub head_of : Option Node → List ℕ
head_of None = []
head_of (Some node) = head node

abbrev pub parts_of : ℕ → ℕ → Option Node → List Piece
parts_of id height None = []
parts_of id height (Some node) = parts id height node

abbrev pub opening : List Node → ℕ → ℕ → List ℕ
opening nodes id zero = []
opening nodes id (suc height) = head_of (slice_get nodes id)

abbrev pub following : List Node → ℕ → ℕ → List Piece
following nodes id zero = []
following nodes id (suc height) = parts_of id height (slice_get nodes id)

-- the verb of a call
abbrev pub verb_of : Option Node → List ℕ
verb_of (Some (Call receiver verb args)) = printed_verb verb
verb_of _ = []

-- what is written of a piece at once, and the pieces that it leaves
abbrev pub written : List Node → Piece → List ℕ
written nodes (Spaced id height) = 32 ∷ opening nodes id height
written nodes (Group id height) = 32 ∷ 40 ∷ opening nodes id height
written nodes (Verb id) = 32 ∷ verb_of (slice_get nodes id)
written nodes Exit = codes " exit"
written nodes Open = codes " ("
written nodes Close = codes ")"

abbrev pub left : List Node → Piece → List Piece
left nodes (Spaced id height) = following nodes id height
left nodes (Group id height) = following nodes id height
left nodes _ = []
