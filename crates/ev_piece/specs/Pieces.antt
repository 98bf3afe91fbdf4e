-- Pieces of a kernel tree, put together. A piece is the list of its nodes in the order in which its form is read from left
-- to right. A node in it names each of its parts by how many places behind the node that part begins.
use Rattle.std.specs.Prelude.{ℕ, suc, ◌+◌, List, [], ◌∷◌, ◌++◌, length, Option, Some, None, option_map, codes}
use Rattle.def_kernel.specs.declared.node.Literal.{Literal}
use Rattle.def_kernel.specs.declared.node.Node.{Node}
use Rattle.def_kernel.specs.declared.node.Node.TheVariants as node

abbrev pub Piece : Type 0
Piece = List Node

-- where a part begins that stands behind these nodes, counted from the node before them
abbrev pub after : Piece → ℕ
after nodes = suc (length nodes)

-- pieces one behind another
unfoldable pub joined : List Piece → Piece
joined [] = []
joined (p ∷ ps) = p ++ joined ps

-- where each of these pieces begins, which stand one behind another behind so many nodes
unfoldable pub starts : ℕ → List Piece → List ℕ
starts n [] = []
starts n (p ∷ ps) = suc n ∷ starts (n + length p) ps

-- a piece that may be left out
unfoldable pub optional : Option Piece → Piece
optional None = []
optional (Some p) = p

-- where it begins
unfoldable pub start_if : Piece → Option Piece → Option ℕ
start_if nodes None = None
start_if nodes (Some p) = Some (after nodes)

-- `(lit L)`, `(noun x)`, `(set x E)`
unfoldable pub lit : Literal → Piece
lit l = node.Lit l ∷ []

unfoldable pub noun : List ℕ → Piece
noun x = node.Noun x ∷ []

unfoldable pub set : List ℕ → Piece → Piece
set x e = node.Set x (after []) ∷ e

-- `(def P E)`, `(def P exit J E)`
unfoldable pub def : Piece → Option Piece → Piece → Piece
def p j e = node.Def (after []) (start_if p j) (after (p ++ optional j)) ∷ (p ++ optional j ++ e)

-- `(call E verb E ..)`
unfoldable pub call : Piece → List ℕ → List Piece → Piece
call r v es = node.Call (after []) v (starts (length r) es) ∷ (r ++ joined es)

-- `(seq E ..)`
unfoldable pub seq : List Piece → Piece
seq es = node.Sequence (starts 0 es) ∷ joined es

-- `(if E E E)`
unfoldable pub if_ : Piece → Piece → Piece → Piece
if_ a b c = node.If (after []) (after a) (after (a ++ b)) ∷ (a ++ b ++ c)

-- `(escape P E)`, and with a catch `(escape P E P E)`
unfoldable pub escape : Piece → Piece → Piece
escape p b = node.Escape (after []) (after p) None ∷ (p ++ b)

unfoldable pub escape_catch : Piece → Piece → Piece → Piece → Piece
escape_catch p b q c = node.Escape (after []) (after p) (Some (after (p ++ b), after (p ++ b ++ q))) ∷ (p ++ b ++ q ++ c)

-- `(try E P E)`, `(finally E E)`, `(hide E)`, `(match E P)`
unfoldable pub try_catch : Piece → Piece → Piece → Piece
try_catch b p h = node.Try (after []) (after b) (after (b ++ p)) ∷ (b ++ p ++ h)

unfoldable pub finally : Piece → Piece → Piece
finally a b = node.Finally (after []) (after a) ∷ (a ++ b)

unfoldable pub hide : Piece → Piece
hide e = node.Hide (after []) ∷ e

unfoldable pub match_bind : Piece → Piece → Piece
match_bind e p = node.MatchBind (after []) (after e) ∷ (e ++ p)

-- `(object P (E ..) M ..)`
unfoldable pub object : Piece → List Piece → List Piece → Piece
object p es ms = node.Object (after []) (starts (length p) es) (starts (length (p ++ joined es)) ms) ∷ (p ++ joined es ++ joined ms)

-- `(method verb (P ..) E)`, `(matcher P E)`
unfoldable pub method : List ℕ → List Piece → Piece → Piece
method v ps b = node.Method v (starts 0 ps) (after (joined ps)) ∷ (joined ps ++ b)

unfoldable pub matcher : Piece → Piece → Piece
matcher p b = node.Matcher (after []) (after p) ∷ (p ++ b)

-- `(final x G)`, `(var x G)`, `(any G)`, the guard being left out where there is none
unfoldable pub final_pattern : List ℕ → Option Piece → Piece
final_pattern x g = node.Final x (start_if [] g) ∷ optional g

unfoldable pub variable : List ℕ → Option Piece → Piece
variable x g = node.Var x (start_if [] g) ∷ optional g

unfoldable pub any : Option Piece → Piece
any g = node.Any (start_if [] g) ∷ optional g

-- `(list P ..)`, `(via E P)`
unfoldable pub list : List Piece → Piece
list ps = node.ListPattern (starts 0 ps) ∷ joined ps

unfoldable pub via : Piece → Piece → Piece
via e p = node.Via (after []) (after e) ∷ (e ++ p)

unfoldable pub opened_pieces : Unit {0}
unfolding joined starts optional start_if lit noun set def call seq if_ escape escape_catch try_catch finally hide match_bind object method matcher final_pattern variable any list via
opened_pieces = tt
