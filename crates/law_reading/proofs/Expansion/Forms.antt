-- What a node expands to is a tree of the kind of its shape, where its parts are.
use Rattle.std.proofs.Common.{◌≡◌, ◌⊎◌, inl, inr, ℕ, suc, ◌-◌, List, [], ◌∷◌, Bool, true, false, cond, map, drop, length, slice_get, Option, Some, None, option_map, codes, refl, sym, subst}
use Rattle.std.specs.Str.{IsUtf8}
use Rattle.std.proofs.lemmas.Str.{IsUtf8-nil}
use Rattle.def_syntax.specs.declared.token.Token.{Token}
use Rattle.def_syntax.specs.declared.token.TokenKind.{TokenKind}
use Rattle.def_syntax.specs.declared.token.TokenKind.TheVariants as kinds
use Rattle.def_syntax.specs.declared.syntax.Word.{Word}
use Rattle.def_syntax.specs.declared.syntax.Shape.{Shape}
use Rattle.def_syntax.specs.declared.syntax.Shape.TheVariants as shapes
use Rattle.def_syntax.specs.Kinds.{same}
use Rattle.ev_parser.specs.declared.draft.Part.{Part}
use Rattle.ev_parser.specs.declared.draft.Part.TheVariants as piece
use Rattle.ev_parser.specs.Surface.{tree_if, tree_at, last_tree, front, mark, before, behind, catches as all_catches, is_part, for_form, literal, rest_of, guard_of, word_text, part_text, text_at, name_if, surface}
use Rattle.def_kernel.specs.declared.node.Literal.TheVariants as literals
use Rattle.def_kernel.specs.declared.shape.Kind.TheVariants.{Expression, Pattern, Member}
use Rattle.def_kernel.specs.Trees.{IsName}
use Rattle.ev_desugar.specs.Words.{Words, number, text, character, verb_behind, ejector}
use Rattle.ev_expand.specs.declared.marks.Marks.{Marks}
use Rattle.ev_expand.specs.declared.part.Part.{Part as Expansion}
use Rattle.ev_expand.specs.Table.{piece_at, piece_if, value_if, pair_at, pairs_at, form_piece}
use Rattle.law_reading.proofs.Reading.Whole.{tree_there, has, and_left, and_right}
use Rattle.law_reading.proofs.Reading.Alike.{slot}
use Rattle.law_reading.specs.Expansion.Fitting.{Fits, FitsIf}
use Rattle.law_reading.proofs.Expansion.Fitting.{fits_lit, fits_noun, fits_def, fits_call, fits_match, fits_matcher, fits_final, fits_variable, fits_any, fits_list, fits_via}
use Rattle.law_reading.proofs.Expansion.Rows.{AllFitPairs, Spoken, silent, says, Named, nameless, has_name, run_utf8, get_utf8, fits_body, fits_made_list, fits_send, fits_assign, fits_put, fits_prefix, fits_binary, fits_conditional, fits_closure, fits_while, fits_for, fits_escaped, fits_tried, fits_awaited, fits_to, fits_plain, fits_defined_object, fits_defined_function, fits_defined_var, fits_leave, fits_noun_guard}
use Rattle.law_reading.specs.Expansion.Shapes.{IsLeave, sort_of, Slot, part, Only, EndsWell, IsObjectName, Tries, no_more, finishes, catches, with_key, without_key, two_more, Sorted}
use Rattle.law_reading.proofs.Expansion.Parts.{Agree, nothing, tree, word, Uniform, uniform_of, uniform_take, uniform_drop, value_fits, uniform_pieces, uniform_values, uniform_if, uniform_value_if, uniform_at, uniform_value_at, uniform_last, at_fits, may_fit, caught_fits, First, first_token, same_self, turned_split, ends_with, last_fits, front_uniform}
use Rattle.law_reading.proofs.Expansion.Literals.{text_utf8, verb_utf8, character_scalar, number_int, word_utf8}

-- an identifier is a name, and what ends a form names an ejector
pub record Good (s : List ℕ) (ts : List Token) (w : Word) : Type 0 where
  pub name : w.kind ≡ kinds.Identifier → IsName (word_text s ts w)
  pub leave : IsLeave w.kind → IsName (ejector (word_text s ts w))

-- ---- the texts of tokens

part_utf8 : (s : List ℕ) (ts : List Token) → IsUtf8 s → (o : Option Part) → IsUtf8 (part_text s ts o)
part_utf8 s ts u (Some (piece.Token w)) = word_utf8 s ts w u
part_utf8 s ts u other = IsUtf8-nil

verb_at : (s : List ℕ) (ts : List Token) (ps : List Part) (n : ℕ) → IsUtf8 s → IsUtf8 (verb_behind (text_at s ts ps n))
verb_at s ts ps n u = verb_utf8 (text_at s ts ps n) (part_utf8 s ts u (slice_get ps n))

spoken_if : (b : Bool) (v : Words) → IsUtf8 v → Spoken (option_map verb_behind (cond b None (Some v)))
spoken_if true v u = silent
spoken_if false v u = says (verb_utf8 v u)

named_if : (b : Bool) (x : Words) → IsName x → Named (cond b None (Some x))
named_if true x i = nameless
named_if false x i = has_name i

-- the name that a first token is
name_at : (s : List ℕ) (ts : List Token) (ps : List Part) → First (Good s ts) kinds.Identifier ps → IsName (text_at s ts ps 0)
name_at s ts ps f = subst (λ (x : List Part). IsName (text_at s ts x 0)) (sym f.is) (f.good.name f.kind)

object_name : (s : List ℕ) (ts : List Token) (made : List Expansion) (ss : List Slot) (ps : List Part) → Agree (Good s ts) made ss ps → IsObjectName ss → Named (name_if s ts ps)
object_name s ts made ss ps a (inl h) =
    let f = first_token (Good s ts) made kinds.Identifier a h in
    named_if (is_part kinds.Ignore (slice_get ps 0)) (text_at s ts ps 0) (name_at s ts ps f)
object_name s ts made ss ps a (inr h) =
    let f = first_token (Good s ts) made kinds.Ignore a h in
    subst (λ (x : List Part). Named (name_if s ts x)) (sym f.is) (subst (λ (b : Bool). Named (cond b None (Some (word_text s ts f.at)))) (sym (same_self f.at.kind kinds.Ignore f.kind)) nameless)

-- ---- a `for` and a `try`

keyed : (s : List ℕ) (ts : List Token) (known : List Marks) (made : List Expansion) (ps : List Part) → Agree (Good s ts) made (two_more with_key) ps → Fits Expression (form_piece known made (for_form (is_part kinds.FatArrow (slice_get ps 1)) ps))
unfolding form_piece piece_if
keyed s ts known made ps (tree {i = k} fk (word {w = w} e g (tree {i = v} fv (word {w = w'} e' g' (tree {i = c} fc (tree {i = b} fb nothing)))))) =
    subst (λ (x : Bool). Fits Expression (form_piece known made (for_form x (piece.Tree k ∷ piece.Token w ∷ piece.Tree v ∷ piece.Token w' ∷ piece.Tree c ∷ piece.Tree b ∷ []))))
    (sym (same_self w.kind kinds.FatArrow e)) (fits_for _ _ _ _ _ _ fk fv (value_fits made c fc) fb)

keyless : (s : List ℕ) (ts : List Token) (known : List Marks) (made : List Expansion) (ps : List Part) → Agree (Good s ts) made (two_more without_key) ps → Fits Expression (form_piece known made (for_form (is_part kinds.FatArrow (slice_get ps 1)) ps))
unfolding form_piece piece_if
keyless s ts known made ps (tree {i = v} fv (word {w = w} e g (tree {i = c} fc (tree {i = b} fb nothing)))) =
    subst (λ (x : TokenKind). Fits Expression (form_piece known made (for_form (same x kinds.FatArrow) (piece.Tree v ∷ piece.Token w ∷ piece.Tree c ∷ piece.Tree b ∷ []))))
    (sym e) (fits_for _ _ _ _ _ _ tt fv (value_fits made c fc) fb)

for_fits : (s : List ℕ) (ts : List Token) (known : List Marks) (made : List Expansion) (ss : List Slot) (ps : List Part) → Agree (Good s ts) made ss ps → ((ss ≡ two_more with_key) ⊎ (ss ≡ two_more without_key)) → Fits Expression (form_piece known made (for_form (is_part kinds.FatArrow (slice_get ps 1)) ps))
for_fits s ts known made ss ps a (inl e) = keyed s ts known made ps (subst (λ (x : List Slot). Agree (Good s ts) made x ps) e a)
for_fits s ts known made ss ps a (inr e) = keyless s ts known made ps (subst (λ (x : List Slot). Agree (Good s ts) made x ps) e a)

tries_pairs : (G : Word → Type 0) (made : List Expansion) {ss : List Slot} {ps : List Part} → Tries ss → Agree G made ss ps → AllFitPairs (pairs_at made (all_catches ps))
unfolding pairs_at pair_at
tries_pairs G made no_more nothing = tt
tries_pairs G made finishes (word e g (tree f nothing)) = tt
tries_pairs G made (catches t) (word e g (tree f (tree h r))) = ((f, h), tries_pairs G made t r)

tries_end : (G : Word → Type 0) (made : List Expansion) {ss : List Slot} {ps : List Part} → Tries ss → Agree G made ss ps → FitsIf Expression (piece_if made (tree_if (behind kinds.Finally ps) 0))
unfolding piece_if
tries_end G made no_more nothing = tt
tries_end G made finishes (word {w = w} e g (tree {i = i} f nothing)) =
    subst (λ (x : Bool). FitsIf Expression (piece_if made (tree_if (drop (suc (cond x 0 (suc (mark kinds.Finally (piece.Tree i ∷ []))))) (piece.Token w ∷ piece.Tree i ∷ [])) 0))) (sym (same_self w.kind kinds.Finally e)) f
tries_end G made (catches t) (word {w = w} e g (tree {i = i} f (tree {i = j} {ps = qs} h r))) =
    subst (λ (x : TokenKind). FitsIf Expression (piece_if made (tree_if (drop (suc (cond (same x kinds.Finally) 0 (suc (mark kinds.Finally (piece.Tree i ∷ piece.Tree j ∷ qs))))) (piece.Token w ∷ piece.Tree i ∷ piece.Tree j ∷ qs)) 0))) (sym e) (tries_end G made t r)

try_fits : (s : List ℕ) (ts : List Token) (known : List Marks) (made : List Expansion) (f : Word) (rs : List Slot) (ps : List Part) → Tries rs → Agree (Good s ts) made (part Expression ∷ rs) ps → Fits Expression (form_piece known made (surface s ts shapes.Try f ps))
unfolding form_piece
try_fits s ts known made f rs ps t (tree {i = i} b r) = fits_tried _ _ _ b (tries_pairs (Good s ts) made t r) (tries_end (Good s ts) made t r)

-- ---- definitions

exit_fits : (G : Word → Type 0) (made : List Expansion) (rs : List Slot) (ps : List Part) → Only Expression rs → Agree G made (part Pattern ∷ rs) ps → FitsIf Expression (value_if made (tree_if (behind kinds.Exit ps) 0))
exit_fits G made rs ps o (tree {i = i} {ps = qs} f r) = uniform_value_if made (behind kinds.Exit qs) 0 (uniform_drop made Expression (suc (mark kinds.Exit qs)) qs (uniform_of G made Expression r o))

guard_fits : (made : List Expansion) (ps : List Part) → Uniform made Expression ps → FitsIf Expression (piece_if made (guard_of ps))
guard_fits made ps u = uniform_if made Expression (behind kinds.Colon ps) 0 (uniform_drop made Expression (suc (mark kinds.Colon ps)) ps u)

last_of : (G : Word → Type 0) (made : List Expansion) (ss : List Slot) (ps : List Part) → EndsWell ss → Agree G made ss ps → Fits Expression (piece_at made (last_tree ps))
last_of G made ss ps e a = last_fits made Expression ps (ends_with G made Expression e.0 ps (subst (λ (x : List Slot). Agree G made x ps) e.1 a))

literal_fits : (known : List Marks) (made : List Expansion) (k : TokenKind) (x : List ℕ) → IsUtf8 x → Fits Expression (form_piece known made (literal k x))
unfolding form_piece
literal_fits known made kinds.Number x u = fits_lit (literals.Int (number x)) (number_int x)
literal_fits known made kinds.Character x u = fits_lit (literals.Char (character x)) (character_scalar x u)
literal_fits known made _ x u = fits_lit (literals.Text (text x)) (text_utf8 x u)

-- ---- each form

pub form_fits : (s : List ℕ) (ts : List Token) → IsUtf8 s → (known : List Marks) (made : List Expansion) (h : Shape) (f : Word) (ss : List Slot) (ps : List Part)
    → Agree (Good s ts) made ss ps → Sorted h f.kind ss → Good s ts f → has h (map slot ps) ≡ true → Fits (sort_of h) (form_piece known made (surface s ts h f ps))
unfolding form_piece
form_fits s ts u known made shapes.Literal f ss ps a o g p = literal_fits known made f.kind (word_text s ts f) (word_utf8 s ts f u)
form_fits s ts u known made shapes.Noun f ss ps a o g p = fits_noun (word_text s ts f) (g.name o.0)
form_fits s ts u known made shapes.List f ss ps a o g p = fits_made_list _ (uniform_values made ps (uniform_of (Good s ts) made Expression a o))
form_fits s ts u known made shapes.Block f ss ps a o g p = fits_body _ (uniform_values made ps (uniform_of (Good s ts) made Expression a o))
form_fits s ts u known made shapes.If f ss ps a o g p =
    let all = uniform_of (Good s ts) made Expression a o in
    fits_conditional _ _ _ (uniform_value_at made ps 1 all (and_left _ _ p)) (uniform_at made Expression ps 3 all (and_right (tree_there (map slot ps) 1) _ p)) (uniform_if made Expression ps 5 all)
form_fits s ts u known made shapes.While f ss ps a o g p =
    let all = uniform_of (Good s ts) made Expression a o in
    fits_while _ _ _ _ (uniform_value_at made ps 1 all (and_left _ _ p)) (uniform_at made Expression ps 3 all (and_right (tree_there (map slot ps) 1) _ p))
form_fits s ts u known made shapes.For f ss ps a o g p = for_fits s ts known made ss ps a o
form_fits s ts u known made shapes.Escape f ss ps a o g p =
    fits_escaped _ _ _ (at_fits (Good s ts) made Pattern a 0 o.0) (at_fits (Good s ts) made Expression a 1 o.1.0) (caught_fits made ps 3 4 (may_fit (Good s ts) made Pattern a 3 o.1.1.0) (may_fit (Good s ts) made Expression a 4 o.1.1.1))
form_fits s ts u known made shapes.Try f ss ps a o g p = try_fits s ts known made f o.0 ps o.1.1 (subst (λ (x : List Slot). Agree (Good s ts) made x ps) o.1.0 a)
form_fits s ts u known made shapes.When f ss ps a o g p =
    fits_awaited _ _ _ (value_fits made (tree_at ps 1) (at_fits (Good s ts) made Expression a 1 o.0)) (at_fits (Good s ts) made Expression a 4 o.1.0) (caught_fits made ps 6 7 (may_fit (Good s ts) made Pattern a 6 o.1.1.0) (may_fit (Good s ts) made Expression a 7 o.1.1.1))
form_fits s ts u known made shapes.Function f ss ps a o g p =
    let b = subst (λ (x : List Slot). Agree (Good s ts) made x ps) o.1.0 a in
    fits_closure _ _ (uniform_pieces made Pattern (front ps) (front_uniform (Good s ts) made Pattern o.0 Expression ps o.1.1 b)) (last_fits made Expression ps (ends_with (Good s ts) made Expression o.0 ps b))
form_fits s ts u known made shapes.Call f ss ps a o g p =
    let all = uniform_of (Good s ts) made Expression a o in
    fits_call _ (codes "run") _ (uniform_value_at made ps 0 all p) run_utf8 (uniform_values made (drop 1 ps) (uniform_drop made Expression 1 ps all))
form_fits s ts u known made shapes.Index f ss ps a o g p =
    let all = uniform_of (Good s ts) made Expression a o in
    fits_call _ (codes "get") _ (uniform_value_at made ps 0 all p) get_utf8 (uniform_values made (drop 1 ps) (uniform_drop made Expression 1 ps all))
form_fits s ts u known made shapes.VerbCall f ss ps a o g p =
    let all = uniform_of (Good s ts) made Expression a o in
    fits_call _ (verb_behind (text_at s ts ps 2)) _ (uniform_value_at made ps 0 all p) (verb_at s ts ps 2 u) (uniform_values made (drop 1 ps) (uniform_drop made Expression 1 ps all))
form_fits s ts u known made shapes.Send f ss ps a o g p =
    let all = uniform_of (Good s ts) made Expression a o in
    fits_send _ _ _ (uniform_value_at made ps 0 all p) (spoken_if (is_part kinds.OpenParen (slice_get ps 2)) (text_at s ts ps 2) (part_utf8 s ts u (slice_get ps 2))) (uniform_values made (drop 1 ps) (uniform_drop made Expression 1 ps all))
form_fits s ts u known made shapes.Prefix f ss ps a o g p = fits_prefix _ _ (uniform_value_at made ps 0 (uniform_of (Good s ts) made Expression a o) p)
form_fits s ts u known made shapes.Binary f ss ps a o g p =
    let all = uniform_of (Good s ts) made Expression a o in
    fits_binary _ _ _ (uniform_value_at made ps 0 all (and_left _ _ p)) (uniform_value_at made ps 2 all (and_right (tree_there (map slot ps) 0) _ p))
form_fits s ts u known made shapes.MatchBind f ss ps a o g p = fits_match _ _ (value_fits made (tree_at ps 0) (at_fits (Good s ts) made Expression a 0 o.0)) (at_fits (Good s ts) made Pattern a 2 o.1)
form_fits s ts u known made shapes.Assign f ss ps a o g p = fits_assign _ _ _ (g.name o.0) (uniform_value_at made ps 1 (uniform_of (Good s ts) made Expression a o.1) p)
form_fits s ts u known made shapes.AssignIndex f ss ps a o g p =
    let all = uniform_of (Good s ts) made Expression a o in
    fits_put _ _ _ (uniform_value_at made ps 0 all (and_left _ _ p))
    (uniform_values made (front (drop 1 ps)) (uniform_take made Expression (length (drop 1 ps) - 1) (drop 1 ps) (uniform_drop made Expression 1 ps all)))
    (value_fits made (last_tree ps) (uniform_last made Expression ps all (and_right (tree_there (map slot ps) 0) _ p)))
form_fits s ts u known made shapes.Leave f ss ps a o g p = fits_leave _ _ (g.leave o.0) (uniform_value_if made ps 0 (uniform_of (Good s ts) made Expression a o.1))
form_fits s ts u known made shapes.DefineObject f ss ps a o g p =
    let d = turned_split (Good s ts) made kinds.OpenBrace Expression Member ss ps o.1 a in
    fits_defined_object _ _ _ (object_name s ts made ss ps a o.0) (uniform_values made (before kinds.OpenBrace ps) d.before) (uniform_pieces made Member (behind kinds.OpenBrace ps) d.behind)
form_fits s ts u known made shapes.DefineFunction f ss ps a o g p =
    let d = turned_split (Good s ts) made kinds.CloseParen Pattern Expression ss ps o.1.0 a in
    let more = behind kinds.Implements (rest_of ps) in
    fits_defined_function _ _ _ _ _ _ (name_at s ts ps (first_token (Good s ts) made kinds.Identifier a o.0)) (uniform_pieces made Pattern (before kinds.CloseParen ps) d.before) (guard_fits made (rest_of ps) d.behind)
    (uniform_values made (front more) (uniform_take made Expression (length more - 1) more (uniform_drop made Expression (suc (mark kinds.Implements (rest_of ps))) (rest_of ps) d.behind)))
    (last_of (Good s ts) made ss ps o.1.1 a)
form_fits s ts u known made shapes.Define f ss ps a o g p =
    let b = subst (λ (x : List Slot). Agree (Good s ts) made x ps) o.1.0 a in
    fits_def _ _ _ (at_fits (Good s ts) made Pattern b 0 refl) (exit_fits (Good s ts) made o.0 ps o.1.1.0 b) (value_fits made (last_tree ps) (last_of (Good s ts) made ss ps o.1.1.1 a))
form_fits s ts u known made shapes.DefineVar f ss ps a o g p =
    let all = uniform_of (Good s ts) made Expression a o.1.0 in
    fits_defined_var _ _ _ _ (name_at s ts ps (first_token (Good s ts) made kinds.Identifier a o.0)) (guard_fits made ps all)
    (uniform_value_if made (behind kinds.Exit ps) 0 (uniform_drop made Expression (suc (mark kinds.Exit ps)) ps all)) (value_fits made (last_tree ps) (last_of (Good s ts) made ss ps o.1.1 a))
form_fits s ts u known made shapes.AnyPattern f ss ps a o g p = fits_any _ (guard_fits made ps (uniform_of (Good s ts) made Expression a o))
form_fits s ts u known made shapes.FinalPattern f ss ps a o g p = fits_final _ _ (g.name o.0) (guard_fits made ps (uniform_of (Good s ts) made Expression a o.1))
form_fits s ts u known made shapes.VarPattern f ss ps a o g p = fits_variable _ _ (name_at s ts ps (first_token (Good s ts) made kinds.Identifier a o.0)) (guard_fits made ps (uniform_of (Good s ts) made Expression a o.1))
form_fits s ts u known made shapes.ListPattern f ss ps a o g p = fits_list _ (uniform_pieces made Pattern ps (uniform_of (Good s ts) made Pattern a o))
form_fits s ts u known made shapes.ViaPattern f ss ps a o g p = fits_via _ _ (value_fits made (tree_at ps 1) (at_fits (Good s ts) made Expression a 1 o.0)) (at_fits (Good s ts) made Pattern a 3 o.1)
form_fits s ts u known made shapes.NounGuard f ss ps a o g p = fits_noun_guard _ _ (g.name o.0) (uniform_values made ps (uniform_of (Good s ts) made Expression a o.1))
form_fits s ts u known made shapes.To f ss ps a o g p =
    let d = turned_split (Good s ts) made kinds.CloseParen Pattern Expression ss ps o.0 a in
    fits_to _ _ _ _ _ (verb_at s ts ps 0 u) (uniform_pieces made Pattern (before kinds.CloseParen ps) d.before) (guard_fits made (rest_of ps) d.behind) (last_of (Good s ts) made ss ps o.1 a)
form_fits s ts u known made shapes.Method f ss ps a o g p =
    let d = turned_split (Good s ts) made kinds.CloseParen Pattern Expression ss ps o.0 a in
    fits_plain _ _ _ _ (verb_at s ts ps 0 u) (uniform_pieces made Pattern (before kinds.CloseParen ps) d.before) (guard_fits made (rest_of ps) d.behind) (last_of (Good s ts) made ss ps o.1 a)
form_fits s ts u known made shapes.Matcher f ss ps a o g p = fits_matcher _ _ (at_fits (Good s ts) made Pattern a 0 o.0) (at_fits (Good s ts) made Expression a 1 o.1)
form_fits s ts u known made shapes.Program f ss ps a o g p = fits_body _ (uniform_values made ps (uniform_of (Good s ts) made Expression a o))
form_fits s ts u known made other f ss ps a o g p = uniform_value_at made ps 0 (uniform_of (Good s ts) made Expression a o) p
