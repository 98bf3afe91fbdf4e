-- What a node expands to weighs no more than its parts, each with one node more, and thirteen nodes.
use Rattle.std.proofs.Common.{◌≡◌, ℕ, suc, ◌+◌, ◌-◌, ◌≤◌, List, ◌∷◌, Bool, true, false, cond, map, drop, length, slice_get, Some, None, option_map, codes, sym, subst, arith}
use Rattle.std.proofs.lemmas.List.{length-map}
use Rattle.def_syntax.specs.declared.token.Token.{Token}
use Rattle.def_syntax.specs.declared.token.TokenKind.{TokenKind}
use Rattle.def_syntax.specs.declared.token.TokenKind.TheVariants as kinds
use Rattle.def_syntax.specs.declared.syntax.Word.{Word}
use Rattle.def_syntax.specs.declared.syntax.Shape.{Shape}
use Rattle.def_syntax.specs.declared.syntax.Shape.TheVariants as shapes
use Rattle.ev_parser.specs.declared.draft.Part.{Part}
use Rattle.ev_parser.specs.declared.draft.Part.TheVariants as piece
use Rattle.ev_parser.specs.Surface.{tree_if, tree_at, last_tree, front, trees, mark, before, behind, catches, caught_at, is_part, for_form, literal, rest_of, guard_of, word_text, text_at, verb_if, name_if, surface}
use Rattle.def_kernel.specs.declared.node.Literal.TheVariants as literals
use Rattle.ev_desugar.specs.Words.{Words, number, text, character, verb_behind}
use Rattle.ev_expand.specs.declared.marks.Marks.{Marks}
use Rattle.ev_expand.specs.declared.part.Part.{Part as Expansion}
use Rattle.ev_expand.specs.Table.{piece_at, value_at, pieces_at, values_at, piece_if, value_if, pair_if as found_pair, pairs_at, returns_in, breaks_in, continues_in, form_piece}
use Rattle.law_reading.proofs.Reading.Whole.{tree_there, for_has, has, and_left, and_right}
use Rattle.law_reading.proofs.Reading.Alike.{slot, kind_slot}
use Rattle.law_reading.specs.Sized.Weights.{weight}
use Rattle.law_reading.proofs.Sized.Pieces.{weighs_lit, weighs_noun, weighs_def, weighs_call, weighs_match, weighs_matcher, weighs_final, weighs_variable, weighs_any, weighs_list, weighs_via}
use Rattle.law_reading.proofs.Sized.Rows.{Brief, silent, says, light_body, light_made_list, light_send, light_assign, light_put, light_prefix, light_binary, light_conditional, light_closure, light_while, light_for, light_escaped, light_tried, light_awaited, light_to, light_plain, light_defined_object, light_defined_function, light_defined_var, light_leave, light_noun_guard}
use Rattle.law_reading.proofs.Sized.Tidiness.{Tidy}
use Rattle.law_reading.proofs.Sized.Sums.{sum, spread_sum, split, one_place, front_last, last_drop}
use Rattle.law_reading.proofs.Sized.Words.{text_over, verb_over, ejector_over, name_over, word_size, text_at_size}
use Rattle.law_reading.proofs.Sized.Costs.{cost, value_cost, pieces_cost, values_cost, if_cost, value_if_cost, at_cost, last_cost, caught_cost, marked_cost, marked_value_cost, tries_cost, member_cost, function_all, define_cost, variable_cost}

literal_light : (known : List Marks) (made : List Expansion) (k : TokenKind) (x : List ℕ) → length x ≤ 65536 → weight (form_piece known made (literal k x)) ≤ 13
unfolding form_piece
literal_light known made kinds.Number x l = omega (arith, weighs_lit (literals.Int (number x)))
literal_light known made kinds.Character x l = omega (arith, weighs_lit (literals.Char (character x)))
literal_light known made _ x l = omega (arith, weighs_lit (literals.Text (text x)), text_over x l)

verb_brief : (b : Bool) (v : Words) → length v ≤ 65536 → Brief (option_map verb_behind (cond b None (Some v)))
verb_brief true v l = silent
verb_brief false v l = says (verb_over v l)

name_brief : (b : Bool) (x : Words) → length x ≤ 65536 → Brief (cond b None (Some x))
name_brief true x l = silent
name_brief false x l = says (name_over x l)

-- ---- a `for` and a `try`

for_light : (known : List Marks) (made : List Expansion) (t : Bool) (ps : List Part) → for_has t (map slot ps) ≡ true → weight (form_piece known made (for_form t ps)) ≤ 13 + sum (cost made) ps
unfolding form_piece piece_if
for_light known made true ps p =
    let second = and_right (tree_there (map slot ps) 0) _ p in
    let third = and_right (tree_there (map slot ps) 2) _ second in
    omega (
      arith,
      light_for (breaks_in known (for_form true ps)) (continues_in known (tree_at ps 5)) (Some (piece_at made (tree_at ps 0))) (piece_at made (tree_at ps 2)) (value_at made (tree_at ps 4)) (piece_at made (tree_at ps 5)),
      at_cost made ps 0 (and_left _ _ p),
      at_cost made ps 2 (and_left _ _ second),
      value_cost made (tree_at ps 4),
      at_cost made ps 4 (and_left _ _ third),
      at_cost made ps 5 (and_right (tree_there (map slot ps) 4) _ third),
      spread_sum (cost made) ps 6,
    )
for_light known made false ps p =
    let second = and_right (tree_there (map slot ps) 0) _ p in
    omega (
      arith,
      light_for (breaks_in known (for_form false ps)) (continues_in known (tree_at ps 3)) None (piece_at made (tree_at ps 0)) (value_at made (tree_at ps 2)) (piece_at made (tree_at ps 3)),
      at_cost made ps 0 (and_left _ _ p),
      value_cost made (tree_at ps 2),
      at_cost made ps 2 (and_left _ _ second),
      at_cost made ps 3 (and_right (tree_there (map slot ps) 2) _ second),
      spread_sum (cost made) ps 4,
    )

try_light : (known : List Marks) (made : List Expansion) (s : List ℕ) (ts : List Token) (f : Word) (ps : List Part) → tree_there (map slot ps) 0 ≡ true → Tidy shapes.Try (map slot ps)
    → weight (form_piece known made (surface s ts shapes.Try f ps)) ≤ 13 + sum (cost made) ps
unfolding form_piece
try_light known made s ts f (piece.Tree i ∷ ps) p h =
    omega (arith, light_tried (piece_at made i) (pairs_at made (catches ps)) (piece_if made (tree_if (behind kinds.Finally ps) 0)), tries_cost made ps h)
try_light known made s ts f other p h = absurd (cc)

-- ---- each form

pub form_light : (s : List ℕ) (ts : List Token) → length s ≤ 65536 → (known : List Marks) (made : List Expansion) (h : Shape) (f : Word) (ps : List Part)
    → has h (map slot ps) ≡ true → Tidy h (map slot ps) → weight (form_piece known made (surface s ts h f ps)) ≤ 13 + sum (cost made) ps
unfolding form_piece
form_light s ts l known made shapes.Literal f ps p t = omega (arith, literal_light known made f.kind (word_text s ts f) (omega (arith, l, word_size s ts f)))
form_light s ts l known made shapes.Noun f ps p t = omega (arith, weighs_noun (word_text s ts f), name_over (word_text s ts f) (omega (arith, l, word_size s ts f)))
form_light s ts l known made shapes.List f ps p t = omega (arith, light_made_list (values_at made (trees ps)), values_cost made ps)
form_light s ts l known made shapes.Block f ps p t = omega (arith, light_body (values_at made (trees ps)), values_cost made ps)
form_light s ts l known made shapes.If f ps p t =
    omega (
      arith,
      light_conditional (value_at made (tree_at ps 1)) (piece_at made (tree_at ps 3)) (piece_if made (tree_if ps 5)),
      value_cost made (tree_at ps 1),
      at_cost made ps 1 (and_left _ _ p),
      at_cost made ps 3 (and_right (tree_there (map slot ps) 1) _ p),
      if_cost made ps 5,
      spread_sum (cost made) ps 6,
    )
form_light s ts l known made shapes.While f ps p t =
    omega (
      arith,
      light_while (breaks_in known (surface s ts shapes.While f ps)) (continues_in known (tree_at ps 3)) (value_at made (tree_at ps 1)) (piece_at made (tree_at ps 3)),
      value_cost made (tree_at ps 1),
      at_cost made ps 1 (and_left _ _ p),
      at_cost made ps 3 (and_right (tree_there (map slot ps) 1) _ p),
      spread_sum (cost made) ps 4,
    )
form_light s ts l known made shapes.For f ps p t =
    for_light known made (is_part kinds.FatArrow (slice_get ps 1)) ps (subst (λ (b : Bool). for_has b (map slot ps) ≡ true) (sym (kind_slot kinds.FatArrow ps 1)) p)
form_light s ts l known made shapes.Escape f ps p t =
    omega (
      arith,
      light_escaped (piece_at made (tree_at ps 0)) (piece_at made (tree_at ps 1)) (found_pair made (caught_at ps 3 4)),
      at_cost made ps 0 (and_left _ _ p),
      at_cost made ps 1 (and_right (tree_there (map slot ps) 0) _ p),
      caught_cost made ps 3 4,
      spread_sum (cost made) ps 5,
    )
form_light s ts l known made shapes.Try f ps p t = try_light known made s ts f ps p t
form_light s ts l known made shapes.When f ps p t =
    omega (
      arith,
      light_awaited (value_at made (tree_at ps 1)) (piece_at made (tree_at ps 4)) (found_pair made (caught_at ps 6 7)),
      value_cost made (tree_at ps 1),
      at_cost made ps 1 (and_left _ _ p),
      at_cost made ps 4 (and_right (tree_there (map slot ps) 1) _ p),
      caught_cost made ps 6 7,
      spread_sum (cost made) ps 8,
    )
form_light s ts l known made shapes.Function f ps p t =
    omega (arith, light_closure (pieces_at made (trees (front ps))) (piece_at made (last_tree ps)), pieces_cost made (front ps), last_cost made ps p, split (cost made) ps (length ps - 1))
form_light s ts l known made shapes.Call f ps p t =
    omega (arith, weighs_call (value_at made (tree_at ps 0)) (codes "run") (values_at made (trees (drop 1 ps))), value_cost made (tree_at ps 0), at_cost made ps 0 p, values_cost made (drop 1 ps), split (cost made) ps 0)
form_light s ts l known made shapes.Index f ps p t =
    omega (arith, weighs_call (value_at made (tree_at ps 0)) (codes "get") (values_at made (trees (drop 1 ps))), value_cost made (tree_at ps 0), at_cost made ps 0 p, values_cost made (drop 1 ps), split (cost made) ps 0)
form_light s ts l known made shapes.VerbCall f ps p t =
    omega (
      arith,
      weighs_call (value_at made (tree_at ps 0)) (verb_behind (text_at s ts ps 2)) (values_at made (trees (drop 1 ps))),
      verb_over (text_at s ts ps 2) (omega (arith, l, text_at_size s ts ps 2)),
      value_cost made (tree_at ps 0),
      at_cost made ps 0 p,
      values_cost made (drop 1 ps),
      split (cost made) ps 0,
    )
form_light s ts l known made shapes.Send f ps p t =
    omega (
      arith,
      light_send (value_at made (tree_at ps 0)) (option_map verb_behind (verb_if s ts ps)) (values_at made (trees (drop 1 ps))) (verb_brief (is_part kinds.OpenParen (slice_get ps 2)) (text_at s ts ps 2) (omega (arith, l, text_at_size s ts ps 2))),
      value_cost made (tree_at ps 0),
      at_cost made ps 0 p,
      values_cost made (drop 1 ps),
      split (cost made) ps 0,
    )
form_light s ts l known made shapes.Prefix f ps p t =
    omega (arith, light_prefix (word_text s ts f) (value_at made (tree_at ps 0)), value_cost made (tree_at ps 0), at_cost made ps 0 p, one_place (cost made) ps 0)
form_light s ts l known made shapes.Binary f ps p t =
    omega (
      arith,
      light_binary (value_at made (tree_at ps 0)) (text_at s ts ps 1) (value_at made (tree_at ps 2)),
      value_cost made (tree_at ps 0),
      at_cost made ps 0 (and_left _ _ p),
      value_cost made (tree_at ps 2),
      at_cost made ps 2 (and_right (tree_there (map slot ps) 0) _ p),
      spread_sum (cost made) ps 3,
    )
form_light s ts l known made shapes.MatchBind f ps p t =
    omega (
      arith,
      weighs_match (value_at made (tree_at ps 0)) (piece_at made (tree_at ps 2)),
      value_cost made (tree_at ps 0),
      at_cost made ps 0 (and_left _ _ p),
      at_cost made ps 2 (and_right (tree_there (map slot ps) 0) _ p),
      spread_sum (cost made) ps 3,
    )
form_light s ts l known made shapes.Assign f ps p t =
    omega (arith, light_assign (word_text s ts f) (text_at s ts ps 0) (value_at made (tree_at ps 1)) (name_over (word_text s ts f) (omega (arith, l, word_size s ts f))), value_cost made (tree_at ps 1), at_cost made ps 1 p, one_place (cost made) ps 1)
form_light s ts l known made shapes.AssignIndex f ps p t =
    omega (
      arith,
      light_put (value_at made (tree_at ps 0)) (values_at made (trees (front (drop 1 ps)))) (value_at made (last_tree ps)),
      value_cost made (tree_at ps 0),
      at_cost made ps 0 (and_left _ _ p),
      values_cost made (front (drop 1 ps)),
      value_cost made (last_tree ps),
      last_cost made ps (and_right (tree_there (map slot ps) 0) _ p),
      split (cost made) ps 0,
      front_last (cost made) 0 (drop 1 ps),
      last_drop (cost made) 1 ps (omega (arith, t.two, length-map ps slot)),
    )
form_light s ts l known made shapes.Leave f ps p t =
    omega (arith, light_leave (word_text s ts f) (value_if made (tree_if ps 0)) (ejector_over (word_text s ts f) (omega (arith, l, word_size s ts f))), value_if_cost made ps 0, one_place (cost made) ps 0)
form_light s ts l known made shapes.DefineObject f ps p t =
    omega (
      arith,
      light_defined_object (name_if s ts ps) (values_at made (trees (before kinds.OpenBrace ps))) (pieces_at made (trees (behind kinds.OpenBrace ps))) (name_brief (is_part kinds.Ignore (slice_get ps 0)) (text_at s ts ps 0) (omega (arith, l, text_at_size s ts ps 0))),
      values_cost made (before kinds.OpenBrace ps),
      pieces_cost made (behind kinds.OpenBrace ps),
      split (cost made) ps (mark kinds.OpenBrace ps),
    )
form_light s ts l known made shapes.DefineFunction f ps p t =
    omega (
      arith,
      light_defined_function (returns_in known (surface s ts shapes.DefineFunction f ps)) (text_at s ts ps 0) (pieces_at made (trees (before kinds.CloseParen ps))) (piece_if made (guard_of (rest_of ps)))
          (values_at made (trees (front (behind kinds.Implements (rest_of ps))))) (piece_at made (last_tree ps)) (name_over (text_at s ts ps 0) (omega (arith, l, text_at_size s ts ps 0))),
      pieces_cost made (before kinds.CloseParen ps),
      marked_cost made kinds.Colon (rest_of ps),
      values_cost made (front (behind kinds.Implements (rest_of ps))),
      last_cost made ps p,
      function_all (cost made) ps t.0 t.1.0 t.1.1,
    )
form_light s ts l known made shapes.Define f ps p t =
    omega (
      arith,
      weighs_def (piece_at made (tree_at ps 0)) (value_if made (tree_if (behind kinds.Exit ps) 0)) (value_at made (last_tree ps)),
      at_cost made ps 0 (and_left _ _ p),
      marked_value_cost made kinds.Exit ps,
      value_cost made (last_tree ps),
      last_cost made ps (and_right (tree_there (map slot ps) 0) _ p),
      define_cost (cost made) ps t,
    )
form_light s ts l known made shapes.DefineVar f ps p t =
    omega (
      arith,
      light_defined_var (text_at s ts ps 0) (piece_if made (guard_of ps)) (value_if made (tree_if (behind kinds.Exit ps) 0)) (value_at made (last_tree ps)) (name_over (text_at s ts ps 0) (omega (arith, l, text_at_size s ts ps 0))),
      marked_cost made kinds.Colon ps,
      marked_value_cost made kinds.Exit ps,
      value_cost made (last_tree ps),
      last_cost made ps p,
      variable_cost (cost made) ps t,
    )
form_light s ts l known made shapes.AnyPattern f ps p t = omega (arith, weighs_any (piece_if made (guard_of ps)), marked_cost made kinds.Colon ps, one_place (cost made) ps (suc (mark kinds.Colon ps)))
form_light s ts l known made shapes.FinalPattern f ps p t =
    omega (arith, weighs_final (word_text s ts f) (piece_if made (guard_of ps)), name_over (word_text s ts f) (omega (arith, l, word_size s ts f)), marked_cost made kinds.Colon ps, one_place (cost made) ps (suc (mark kinds.Colon ps)))
form_light s ts l known made shapes.VarPattern f ps p t =
    omega (arith, weighs_variable (text_at s ts ps 0) (piece_if made (guard_of ps)), name_over (text_at s ts ps 0) (omega (arith, l, text_at_size s ts ps 0)), marked_cost made kinds.Colon ps, one_place (cost made) ps (suc (mark kinds.Colon ps)))
form_light s ts l known made shapes.ListPattern f ps p t = omega (arith, weighs_list (pieces_at made (trees ps)), pieces_cost made ps)
form_light s ts l known made shapes.ViaPattern f ps p t =
    omega (
      arith,
      weighs_via (value_at made (tree_at ps 1)) (piece_at made (tree_at ps 3)),
      value_cost made (tree_at ps 1),
      at_cost made ps 1 (and_left _ _ p),
      at_cost made ps 3 (and_right (tree_there (map slot ps) 1) _ p),
      spread_sum (cost made) ps 4,
    )
form_light s ts l known made shapes.NounGuard f ps p t =
    omega (arith, light_noun_guard (word_text s ts f) (values_at made (trees ps)) (name_over (word_text s ts f) (omega (arith, l, word_size s ts f))), values_cost made ps)
form_light s ts l known made shapes.To f ps p t =
    omega (
      arith,
      light_to (returns_in known (surface s ts shapes.To f ps)) (verb_behind (text_at s ts ps 0)) (pieces_at made (trees (before kinds.CloseParen ps))) (piece_if made (guard_of (rest_of ps))) (piece_at made (last_tree ps)) (verb_over (text_at s ts ps 0) (omega (arith, l, text_at_size s ts ps 0))),
      pieces_cost made (before kinds.CloseParen ps),
      marked_cost made kinds.Colon (rest_of ps),
      last_cost made ps p,
      member_cost (cost made) ps t.0 t.1,
    )
form_light s ts l known made shapes.Method f ps p t =
    omega (
      arith,
      light_plain (verb_behind (text_at s ts ps 0)) (pieces_at made (trees (before kinds.CloseParen ps))) (piece_if made (guard_of (rest_of ps))) (piece_at made (last_tree ps)) (verb_over (text_at s ts ps 0) (omega (arith, l, text_at_size s ts ps 0))),
      pieces_cost made (before kinds.CloseParen ps),
      marked_cost made kinds.Colon (rest_of ps),
      last_cost made ps p,
      member_cost (cost made) ps t.0 t.1,
    )
form_light s ts l known made shapes.Matcher f ps p t =
    omega (arith, weighs_matcher (piece_at made (tree_at ps 0)) (piece_at made (tree_at ps 1)), at_cost made ps 0 (and_left _ _ p), at_cost made ps 1 (and_right (tree_there (map slot ps) 0) _ p), spread_sum (cost made) ps 2)
form_light s ts l known made shapes.Program f ps p t = omega (arith, light_body (values_at made (trees ps)), values_cost made ps)
form_light s ts l known made other f ps p t = omega (arith, value_cost made (tree_at ps 0), at_cost made ps 0 p, one_place (cost made) ps 0)
