-- The expansion of each node of a surface tree, by those of the nodes before it.
use Rattle.std.specs.Prelude.{ℕ, Bool, true, false, if◌then◌else◌, List, [], ◌∷◌, ◌++◌, map, slice_get, codes, option_map, Option, Some, None, is_some}
use Rattle.def_kernel.specs.declared.node.Literal.TheVariants as literals
use Rattle.def_syntax.specs.declared.form.Form.{Form}
use Rattle.def_syntax.specs.declared.form.Form.TheVariants as forms
use Rattle.def_syntax.specs.declared.sugar.SugarNode.{SugarNode}
use Rattle.ev_piece.specs.Pieces.{Piece, lit, noun, call, def, hide, match_bind, matcher, final_pattern, variable, any, list, via}
use Rattle.ev_expand.specs.declared.marks.Marks.{Marks}
use Rattle.ev_expand.specs.declared.part.Part.{Part}
use Rattle.ev_expand.specs.Marked.{inside, marks_at, opened_marked}
use Rattle.ev_desugar.specs.Words.{Words, number, text, verb_behind, character, opened_words}
use Rattle.ev_desugar.specs.Rows.{null, body, made_list, send, assign, put, prefix, binary, conditional, while_loop, for_loop, escaped, tried, awaited, closure, to_method, plain_method, defined_object, defined_function, defined_var, leave, noun_guard, opened_rows}

-- the expansion of a part; each is there, and null stands for another one
unfoldable pub found : Option Part → Part
found None = record { piece = null; is_block = false }
found (Some p) = p

unfoldable pub part_at : List Part → ℕ → Part
part_at done i = found (slice_get done i)

-- a part as the block of a form, or as a pattern, a guard or a member
unfoldable pub piece_at : List Part → ℕ → Piece
piece_at done i = (part_at done i).piece

-- a part as an expression: a block is hidden
unfoldable pub value_of : Part → Piece
value_of p = if p.is_block then hide p.piece else p.piece

unfoldable pub value_at : List Part → ℕ → Piece
value_at done i = value_of (part_at done i)

unfoldable pub pieces_at : List Part → List ℕ → List Piece
pieces_at done is = map (λ i. piece_at done i) is

unfoldable pub values_at : List Part → List ℕ → List Piece
values_at done is = map (λ i. value_at done i) is

unfoldable pub piece_if : List Part → Option ℕ → Option Piece
piece_if done i = option_map (λ i. piece_at done i) i

unfoldable pub value_if : List Part → Option ℕ → Option Piece
value_if done i = option_map (λ i. value_at done i) i

-- the pattern and the block of a catch
unfoldable pub pair_at : List Part → ℕ × ℕ → Piece × Piece
pair_at done c = (piece_at done c.0, piece_at done c.1)

unfoldable pub pair_if : List Part → Option (ℕ × ℕ) → Option (Piece × Piece)
pair_if done c = option_map (λ c. pair_at done c) c

unfoldable pub pairs_at : List Part → List (ℕ × ℕ) → List (Piece × Piece)
pairs_at done cs = map (λ c. pair_at done c) cs

-- whether a `return` or a `break` of its own is in the form, and a `continue` of its own in the block
unfoldable pub returns_in : List Marks → Form → Bool
returns_in marks form = is_some (inside marks form).returns

unfoldable pub breaks_in : List Marks → Form → Bool
breaks_in marks form = is_some (inside marks form).breaks

unfoldable pub continues_in : List Marks → ℕ → Bool
continues_in marks b = is_some (marks_at marks b).continues

-- what a form expands to; a block as the block of a form
unfoldable pub form_piece : List Marks → List Part → Form → Piece
form_piece marks done (forms.Number s) = lit (literals.Int (number s))
form_piece marks done (forms.Text s) = lit (literals.Text (text s))
form_piece marks done (forms.Character s) = lit (literals.Char (character s))
form_piece marks done (forms.Noun x) = noun x
form_piece marks done (forms.List es) = made_list (values_at done es)
form_piece marks done (forms.Group e) = value_at done e
form_piece marks done (forms.Block es) = body (values_at done es)
form_piece marks done (forms.If t b c) = conditional (value_at done t) (piece_at done b) (piece_if done c)
form_piece marks done (forms.While t b) = while_loop (breaks_in marks (forms.While t b)) (continues_in marks b) (value_at done t) (piece_at done b)
form_piece marks done (forms.For k v c b) = for_loop (breaks_in marks (forms.For k v c b)) (continues_in marks b) (piece_if done k) (piece_at done v) (value_at done c) (piece_at done b)
form_piece marks done (forms.Escape p b c) = escaped (piece_at done p) (piece_at done b) (pair_if done c)
form_piece marks done (forms.Try b cs f) = tried (piece_at done b) (pairs_at done cs) (piece_if done f)
form_piece marks done (forms.When e b c) = awaited (value_at done e) (piece_at done b) (pair_if done c)
form_piece marks done (forms.Function ps b) = closure (pieces_at done ps) (piece_at done b)
form_piece marks done (forms.Call f es) = call (value_at done f) (codes "run") (values_at done es)
form_piece marks done (forms.Index o es) = call (value_at done o) (codes "get") (values_at done es)
form_piece marks done (forms.VerbCall o v es) = call (value_at done o) (verb_behind v) (values_at done es)
form_piece marks done (forms.Send o v es) = send (value_at done o) (option_map verb_behind v) (values_at done es)
form_piece marks done (forms.Prefix op e) = prefix op (value_at done e)
form_piece marks done (forms.Binary a op b) = binary (value_at done a) op (value_at done b)
form_piece marks done (forms.MatchBind e p) = match_bind (value_at done e) (piece_at done p)
form_piece marks done (forms.Assign x op e) = assign x op (value_at done e)
form_piece marks done (forms.AssignIndex o es e) = put (value_at done o) (values_at done es) (value_at done e)
form_piece marks done (forms.Leave word e) = leave word (value_if done e)
form_piece marks done (forms.DefineObject x es ms) = defined_object x (values_at done es) (pieces_at done ms)
form_piece marks done (forms.DefineFunction x ps g es b) = defined_function (returns_in marks (forms.DefineFunction x ps g es b)) x (pieces_at done ps) (piece_if done g) (values_at done es) (piece_at done b)
form_piece marks done (forms.Define p j e) = def (piece_at done p) (value_if done j) (value_at done e)
form_piece marks done (forms.DefineVar x g j e) = defined_var x (piece_if done g) (value_if done j) (value_at done e)
form_piece marks done (forms.AnyPattern g) = any (piece_if done g)
form_piece marks done (forms.FinalPattern x g) = final_pattern x (piece_if done g)
form_piece marks done (forms.VarPattern x g) = variable x (piece_if done g)
form_piece marks done (forms.ListPattern ps) = list (pieces_at done ps)
form_piece marks done (forms.ViaPattern e p) = via (value_at done e) (piece_at done p)
form_piece marks done (forms.NounGuard x es) = noun_guard x (values_at done es)
form_piece marks done (forms.ExprGuard e) = value_at done e
form_piece marks done (forms.To v ps g b) = to_method (returns_in marks (forms.To v ps g b)) (verb_behind v) (pieces_at done ps) (piece_if done g) (piece_at done b)
form_piece marks done (forms.Method v ps g b) = plain_method (verb_behind v) (pieces_at done ps) (piece_if done g) (piece_at done b)
form_piece marks done (forms.Matcher p b) = matcher (piece_at done p) (piece_at done b)
form_piece marks done (forms.Program es) = body (values_at done es)

unfoldable pub is_block : Form → Bool
is_block (forms.Block es) = true
is_block _ = false

unfoldable pub form_part : List Marks → List Part → Form → Part
form_part marks done form = record { piece = form_piece marks done form; is_block = is_block form }

-- the expansion of each node, those before it being expanded
unfoldable pub expanded_behind : List Marks → List Part → List SugarNode → List Part
expanded_behind marks done [] = done
expanded_behind marks done (n ∷ ns) = expanded_behind marks (done ++ form_part marks done n.form ∷ []) ns

unfoldable pub opened_table : Unit {0}
unfolding found part_at piece_at value_of value_at pieces_at values_at piece_if value_if pair_at pair_if pairs_at returns_in breaks_in continues_in form_piece is_block form_part expanded_behind opened_rows opened_words opened_marked
opened_table = tt
