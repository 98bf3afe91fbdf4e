-- The rows of the expansion: what each form of the surface is in the kernel language, by what its parts are there. `b`,
-- `c` and `f` are blocks.
use Rattle.std.specs.Prelude.{ℕ, Bool, ◌==◌, if◌then◌else◌, List, [], ◌∷◌, ◌++◌, codes, Option, Some, None}
use Rattle.std.specs.Str.{bytes_eq}
use Rattle.def_kernel.specs.declared.node.Literal.TheVariants as literals
use Rattle.ev_piece.specs.Pieces.{Piece, lit, noun, set, def, call, seq, if_, escape, escape_catch, try_catch, finally, hide, match_bind, object, method, matcher, final_pattern, variable, any, list, via, opened_pieces}
use Rattle.ev_desugar.specs.Words.{Words, arithmetic, updating, comparing, ranging, prefixing, ejector, text}

unfoldable pub null : Piece
null = noun (codes "null")

unfoldable pub truth : Piece
truth = noun (codes "true")

unfoldable pub falsehood : Piece
falsehood = noun (codes "false")

-- a block: of no expression null, of one this, of several a sequence
unfoldable pub body : List Piece → Piece
body [] = null
body (e ∷ []) = e
body (e ∷ d ∷ es) = seq (e ∷ d ∷ es)

-- `[a, b]`
unfoldable pub made_list : List Piece → Piece
made_list es = call (noun (codes "__makeList")) (codes "run") es

-- `a <- v(x)`, the verb being `run` where there is none
unfoldable pub sent_verb : Option Words → Words
sent_verb None = codes "run"
sent_verb (Some v) = v

unfoldable pub send : Piece → Option Words → List Piece → Piece
send a v es = call (noun (codes "E")) (codes "send") (a ∷ lit (literals.Text (sent_verb v)) ∷ made_list es ∷ [])

-- `x := e`, `x += e`
unfoldable pub assign_with : Option Words → Words → Piece → Piece
assign_with None x e = set x e
assign_with (Some verb) x e = set x (call (noun x) verb (e ∷ []))

unfoldable pub assign : Words → Words → Piece → Piece
assign x op e = assign_with (updating op) x e

-- `o[i] := e`
unfoldable pub put : Piece → List Piece → Piece → Piece
put o es e = call o (codes "put") (es ++ e ∷ [])

-- `-a`, `!a`
unfoldable pub prefix : Words → Piece → Piece
prefix op a = call a (prefixing op) []

-- `a == b`
unfoldable pub same : Piece → Piece → Piece
same a b = call (noun (codes "__equalizer")) (codes "sameEver") (a ∷ b ∷ [])

-- `a != b`
unfoldable pub different : Piece → Piece → Piece
different a b = call (same a b) (codes "not") []

-- `a && b`
unfoldable pub conjunction : Piece → Piece → Piece
conjunction a b = if_ a (if_ b truth falsehood) falsehood

-- `a || b`
unfoldable pub disjunction : Piece → Piece → Piece
disjunction a b = if_ a truth (if_ b truth falsehood)

-- `a < b` and its like, `a .. b`, `a ..! b`
unfoldable pub compared : Option Words → Piece → Words → Piece → Piece
compared None a op b = call (noun (codes "__makeList")) (ranging op) (a ∷ b ∷ [])
compared (Some verb) a op b = call (noun (codes "__comparer")) verb (a ∷ b ∷ [])

-- `a + b` and its like
unfoldable pub computed : Option Words → Piece → Words → Piece → Piece
computed None a op b = compared (comparing op) a op b
computed (Some verb) a op b = call a verb (b ∷ [])

unfoldable pub binary : Piece → Words → Piece → Piece
binary a op b =
    if bytes_eq op (codes "==") then same a b
    else if bytes_eq op (codes "!=") then different a b
    else if bytes_eq op (codes "&&") then conjunction a b
    else if bytes_eq op (codes "||") then disjunction a b
    else computed (arithmetic op) a op b

-- `if (t) B else C`
unfoldable pub else_or_null : Option Piece → Piece
else_or_null None = null
else_or_null (Some c) = c

unfoldable pub conditional : Piece → Piece → Option Piece → Piece
conditional t b c = if_ t b (else_or_null c)

-- an ejector of this name round it, where it is called
unfoldable pub leavable : Bool → Words → Piece → Piece
leavable called name b = if called then escape (final_pattern name None) b else b

-- an object without a name that has one method
unfoldable pub closure : List Piece → Piece → Piece
closure ps b = object (any None) [] (method (codes "run") ps b ∷ [])

-- `while (t) B`, the block being made already
unfoldable pub repeated : Piece → Piece → Piece
repeated t c = call (noun (codes "__loop")) (codes "run") (closure [] (if_ t (seq (c ∷ truth ∷ [])) falsehood) ∷ [])

-- `for k => v in c B`
unfoldable pub key_or_any : Option Piece → Piece
key_or_any None = any None
key_or_any (Some k) = k

unfoldable pub iterated : Option Piece → Piece → Piece → Piece → Piece
iterated k v c b = call c (codes "iterate") (closure (key_or_any k ∷ v ∷ []) (seq (b ∷ null ∷ [])) ∷ [])

-- whether a `break` or a `continue` of its own is there
unfoldable pub while_loop : Bool → Bool → Piece → Piece → Piece
while_loop breaks continues t b = leavable breaks (codes "__break") (repeated t (leavable continues (codes "__continue") b))

unfoldable pub for_loop : Bool → Bool → Option Piece → Piece → Piece → Piece → Piece
for_loop breaks continues k v c b = leavable breaks (codes "__break") (iterated k v c (leavable continues (codes "__continue") b))

-- `escape p B catch q C`
unfoldable pub escaped : Piece → Piece → Option (Piece × Piece) → Piece
escaped p b None = escape p b
escaped p b (Some c) = escape_catch p b c.0 c.1

-- each further catch is round the former ones
unfoldable pub caught : Piece → List (Piece × Piece) → Piece
caught b [] = b
caught b (c ∷ cs) = caught (try_catch b c.0 c.1) cs

-- `try B catch p C finally F`; with neither it is a block
unfoldable pub tried : Piece → List (Piece × Piece) → Option Piece → Piece
tried b cs (Some f) = finally (caught b cs) f
tried b [] None = hide b
tried b (c ∷ cs) None = caught b (c ∷ cs)

-- `when (e) -> B catch p C`
unfoldable pub fulfilment : Piece
fulfilment = call (noun (codes "Ref")) (codes "fulfillment") (noun (codes "__w") ∷ [])

unfoldable pub fulfilled : Piece → Piece
fulfilled b = seq (fulfilment ∷ b ∷ [])

unfoldable pub settled : Piece → Option (Piece × Piece) → Piece
settled b None = fulfilled b
settled b (Some c) = try_catch (fulfilled b) c.0 c.1

unfoldable pub awaited : Piece → Piece → Option (Piece × Piece) → Piece
awaited e b c = call (noun (codes "Ref")) (codes "whenResolved") (e ∷ closure (final_pattern (codes "__w") None ∷ []) (settled b c) ∷ [])

-- the result of a method is guarded
unfoldable pub guarded : Option Piece → Piece → Piece
guarded None x = x
guarded (Some g) x = seq (def (final_pattern (codes "__r") (Some g)) None x ∷ noun (codes "__r") ∷ [])

-- `to v(p) B`, whether a `return` of its own is there
unfoldable pub to_method : Bool → Words → List Piece → Option Piece → Piece → Piece
to_method returns v ps g b = method v ps (guarded g (leavable returns (codes "__return") (seq (b ∷ null ∷ []))))

-- `method v(p) B`
unfoldable pub plain_method : Words → List Piece → Option Piece → Piece → Piece
plain_method v ps g b = method v ps (guarded g b)

-- `def x {..}`, `def _ {..}`
unfoldable pub object_pattern : Option Words → Piece
object_pattern None = any None
object_pattern (Some x) = final_pattern x None

unfoldable pub defined_object : Option Words → List Piece → List Piece → Piece
defined_object x es ms = object (object_pattern x) es ms

-- `def f(p) B`
unfoldable pub defined_function : Bool → Words → List Piece → Option Piece → List Piece → Piece → Piece
defined_function returns x ps g es b = defined_object (Some x) es (to_method returns (codes "run") ps g b ∷ [])

-- `var x :G exit j := e`
unfoldable pub defined_var : Words → Option Piece → Option Piece → Piece → Piece
defined_var x g j e = def (variable x g) j e

-- `return e`, `break e`, `continue e`
unfoldable pub value_or_null : Option Piece → Piece
value_or_null None = null
value_or_null (Some e) = e

unfoldable pub leave : Words → Option Piece → Piece
leave word e = call (noun (ejector word)) (codes "run") (value_or_null e ∷ [])

-- a guard `g[x]`
unfoldable pub noun_guard : Words → List Piece → Piece
noun_guard x [] = noun x
noun_guard x (e ∷ es) = call (noun x) (codes "get") (e ∷ es)

unfoldable pub opened_rows : Unit {0}
unfolding null truth falsehood body made_list sent_verb send assign_with assign put prefix same different conjunction disjunction compared computed binary else_or_null conditional leavable closure repeated key_or_any iterated while_loop for_loop escaped caught tried fulfilment fulfilled settled awaited guarded to_method plain_method object_pattern defined_object defined_function defined_var value_or_null leave noun_guard opened_pieces
opened_rows = tt
