-- What a node expands to is the same in two arenas.
use Rattle.std.proofs.Common.{◌≡◌, ℕ, List, [], ◌∷◌, Bool, true, false, map, drop, slice_get, Option, Some, None, option_map, is_some, codes, refl, sym, ◌∙◌, ap}
use Rattle.def_syntax.specs.declared.token.Token.{Token}
use Rattle.def_syntax.specs.declared.token.TokenKind.{TokenKind}
use Rattle.def_syntax.specs.declared.token.TokenKind.TheVariants as kinds
use Rattle.def_syntax.specs.declared.syntax.Word.{Word}
use Rattle.def_syntax.specs.declared.syntax.Shape.{Shape}
use Rattle.def_syntax.specs.declared.syntax.Shape.TheVariants as shapes
use Rattle.ev_parser.specs.declared.draft.Part.{Part}
use Rattle.ev_parser.specs.Surface.{tree_if, tree_at, last_tree, front, trees, before, behind, caught_at, catches, is_part, for_form, literal, rest_of, guard_of, word_text, surface}
use Rattle.def_syntax.specs.declared.form.Form.{Form}
use Rattle.ev_piece.specs.Pieces.{Piece, call, def, match_bind, matcher, final_pattern, variable, any, list, via}
use Rattle.ev_expand.specs.declared.marks.Marks.{Marks}
use Rattle.ev_expand.specs.declared.part.Part.{Part as Expansion}
use Rattle.ev_expand.specs.Marked.{marks_at, inside}
use Rattle.ev_expand.specs.Table.{part_at, piece_at, value_of, value_at, pieces_at, values_at, piece_if, value_if, pair_at, pair_if, pairs_at, returns_in, breaks_in, continues_in, form_piece, is_block, form_part}
use Rattle.ev_desugar.specs.Words.{verb_behind}
use Rattle.ev_desugar.specs.Rows.{body, made_list, send, assign, put, prefix, binary, conditional, while_loop, for_loop, escaped, tried, awaited, closure, to_method, plain_method, defined_object, defined_function, defined_var, leave, noun_guard}
use Rattle.law_reading.proofs.Reading.Whole.{tree_there, last_there, for_has, has, and_left, and_right}
use Rattle.law_reading.proofs.Reading.Alike.{Matches, BothIf, Each, Pair, PairIf, Pairs, slot, matches_to, front_like, drop_like, before_like, behind_like, tree_if_like, guard_like, tree_at_like, last_like, trees_like, caught_like, text_like, kind_like, kind_slot, verb_like, name_like, catches_like}
use Rattle.law_reading.proofs.Reading.Inside.{Known, inside_alike, rest_like, auditors_like, exit_like}

-- what is known in two arenas, and what was made there
pub record Two : Type 0 where
  pub known : List Marks
  pub known' : List Marks
  pub made : List Expansion
  pub made' : List Expansion

-- two numbers at which the same is known, and the same was made
abbrev pub Same : Two → ℕ → ℕ → Type 0
Same a i j = (marks_at a.known i ≡ marks_at a.known' j) × (part_at a.made i ≡ part_at a.made' j)

-- ---- equal arguments

ap2 : {A B C : Type 0} (f : A → B → C) {a a' : A} {b b' : B} → a ≡ a' → b ≡ b' → f a b ≡ f a' b'
ap2 {A} {B} {C} f {a} {a'} {b} {b'} d e = ap (λ (x : A). f x b) d ∙ ap (λ (y : B). f a' y) e

ap3 : {A B C D : Type 0} (f : A → B → C → D) {a a' : A} {b b' : B} {c c' : C} → a ≡ a' → b ≡ b' → c ≡ c' → f a b c ≡ f a' b' c'
ap3 {A} {B} {C} {D} f {a} {a'} {b} {b'} {c} {c'} d e g = ap (λ (x : A). f x b c) d ∙ ap2 (f a') e g

ap4 : {A B C D E : Type 0} (f : A → B → C → D → E) {a a' : A} {b b' : B} {c c' : C} {d d' : D} → a ≡ a' → b ≡ b' → c ≡ c' → d ≡ d' → f a b c d ≡ f a' b' c' d'
ap4 {A} {B} {C} {D} {E} f {a} {a'} {b} {b'} {c} {c'} {d} {d'} p q r t = ap (λ (x : A). f x b c d) p ∙ ap3 (f a') q r t

ap5 : {A B C D E F : Type 0} (f : A → B → C → D → E → F) {a a' : A} {b b' : B} {c c' : C} {d d' : D} {e e' : E} → a ≡ a' → b ≡ b' → c ≡ c' → d ≡ d' → e ≡ e' → f a b c d e ≡ f a' b' c' d' e'
ap5 {A} {B} {C} {D} {E} {F} f {a} {a'} {b} {b'} {c} {c'} {d} {d'} {e} {e'} p q r t u = ap (λ (x : A). f x b c d e) p ∙ ap4 (f a') q r t u

ap6 : {A B C D E F G : Type 0} (f : A → B → C → D → E → F → G) {a a' : A} {b b' : B} {c c' : C} {d d' : D} {e e' : E} {g g' : F} → a ≡ a' → b ≡ b' → c ≡ c' → d ≡ d' → e ≡ e' → g ≡ g' → f a b c d e g ≡ f a' b' c' d' e' g'
ap6 {A} {B} {C} {D} {E} {F} {G} f {a} {a'} {b} {b'} {c} {c'} {d} {d'} {e} {e'} {g} {g'} p q r t u v = ap (λ (x : A). f x b c d e g) p ∙ ap5 (f a') q r t u v

-- ---- what was made of parts

piece_same : (a : Two) (i j : ℕ) → Same a i j → piece_at a.made i ≡ piece_at a.made' j
unfolding piece_at
piece_same a i j h = ap (λ (x : Expansion). x.piece) h.1

value_same : (a : Two) (i j : ℕ) → Same a i j → value_at a.made i ≡ value_at a.made' j
unfolding value_at
value_same a i j h = ap value_of h.1

continues_same : (a : Two) (i j : ℕ) → Same a i j → continues_in a.known i ≡ continues_in a.known' j
unfolding continues_in
continues_same a i j h = ap (λ (x : Marks). is_some x.continues) h.0

pieces_same : (a : Two) (is js : List ℕ) → Each (Same a) is js → pieces_at a.made is ≡ pieces_at a.made' js
unfolding pieces_at
pieces_same a [] [] h = refl
pieces_same a (i ∷ is) (j ∷ js) h = ap2 (λ (x : Piece) (xs : List Piece). x ∷ xs) (piece_same a i j h.0) (pieces_same a is js h.1)
pieces_same a [] (j ∷ js) h = absurd h
pieces_same a (i ∷ is) [] h = absurd h

values_same : (a : Two) (is js : List ℕ) → Each (Same a) is js → values_at a.made is ≡ values_at a.made' js
unfolding values_at
values_same a [] [] h = refl
values_same a (i ∷ is) (j ∷ js) h = ap2 (λ (x : Piece) (xs : List Piece). x ∷ xs) (value_same a i j h.0) (values_same a is js h.1)
values_same a [] (j ∷ js) h = absurd h
values_same a (i ∷ is) [] h = absurd h

piece_if_same : (a : Two) (i j : Option ℕ) → BothIf (Same a) i j → piece_if a.made i ≡ piece_if a.made' j
unfolding piece_if
piece_if_same a None None h = refl
piece_if_same a (Some i) (Some j) h = ap (λ (x : Piece). Some x) (piece_same a i j h)
piece_if_same a None (Some j) h = absurd h
piece_if_same a (Some i) None h = absurd h

value_if_same : (a : Two) (i j : Option ℕ) → BothIf (Same a) i j → value_if a.made i ≡ value_if a.made' j
unfolding value_if
value_if_same a None None h = refl
value_if_same a (Some i) (Some j) h = ap (λ (x : Piece). Some x) (value_same a i j h)
value_if_same a None (Some j) h = absurd h
value_if_same a (Some i) None h = absurd h

pair_same : (a : Two) (c d : ℕ × ℕ) → Pair (Same a) c d → pair_at a.made c ≡ pair_at a.made' d
unfolding pair_at
pair_same a c d h = ap2 (λ (x y : Piece). (x, y)) (piece_same a c.0 d.0 h.0) (piece_same a c.1 d.1 h.1)

pair_if_same : (a : Two) (c d : Option (ℕ × ℕ)) → PairIf (Same a) c d → pair_if a.made c ≡ pair_if a.made' d
unfolding pair_if
pair_if_same a None None h = refl
pair_if_same a (Some c) (Some d) h = ap (λ (x : Piece × Piece). Some x) (pair_same a c d h)
pair_if_same a None (Some d) h = absurd h
pair_if_same a (Some c) None h = absurd h

pairs_same : (a : Two) (cs ds : List (ℕ × ℕ)) → Pairs (Same a) cs ds → pairs_at a.made cs ≡ pairs_at a.made' ds
unfolding pairs_at
pairs_same a [] [] h = refl
pairs_same a (c ∷ cs) (d ∷ ds) h = ap2 (λ (x : Piece × Piece) (xs : List (Piece × Piece)). x ∷ xs) (pair_same a c d h.0) (pairs_same a cs ds h.1)
pairs_same a [] (d ∷ ds) h = absurd h
pairs_same a (c ∷ cs) [] h = absurd h

-- ---- the parts of a node

-- the tree at a place, as it is and as an expression
piece_there : (a : Two) (ps qs : List Part) → Matches (Same a) ps qs → (k : ℕ) → tree_there (map slot ps) k ≡ true → piece_at a.made (tree_at ps k) ≡ piece_at a.made' (tree_at qs k)
piece_there a ps qs m k h = piece_same a (tree_at ps k) (tree_at qs k) (tree_at_like (Same a) ps qs m k h)

value_there : (a : Two) (ps qs : List Part) → Matches (Same a) ps qs → (k : ℕ) → tree_there (map slot ps) k ≡ true → value_at a.made (tree_at ps k) ≡ value_at a.made' (tree_at qs k)
value_there a ps qs m k h = value_same a (tree_at ps k) (tree_at qs k) (tree_at_like (Same a) ps qs m k h)

last_piece : (a : Two) (ps qs : List Part) → Matches (Same a) ps qs → last_there (map slot ps) ≡ true → piece_at a.made (last_tree ps) ≡ piece_at a.made' (last_tree qs)
last_piece a ps qs m h = piece_same a (last_tree ps) (last_tree qs) (last_like (Same a) ps qs m h)

last_value : (a : Two) (ps qs : List Part) → Matches (Same a) ps qs → last_there (map slot ps) ≡ true → value_at a.made (last_tree ps) ≡ value_at a.made' (last_tree qs)
last_value a ps qs m h = value_same a (last_tree ps) (last_tree qs) (last_like (Same a) ps qs m h)

all_pieces : (a : Two) (ps qs : List Part) → Matches (Same a) ps qs → pieces_at a.made (trees ps) ≡ pieces_at a.made' (trees qs)
all_pieces a ps qs m = pieces_same a (trees ps) (trees qs) (trees_like (Same a) ps qs m)

all_values : (a : Two) (ps qs : List Part) → Matches (Same a) ps qs → values_at a.made (trees ps) ≡ values_at a.made' (trees qs)
all_values a ps qs m = values_same a (trees ps) (trees qs) (trees_like (Same a) ps qs m)

arguments : (a : Two) (ps qs : List Part) → Matches (Same a) ps qs → values_at a.made (trees (drop 1 ps)) ≡ values_at a.made' (trees (drop 1 qs))
arguments a ps qs m = all_values a (drop 1 ps) (drop 1 qs) (drop_like (Same a) 1 ps qs m)

patterns : (a : Two) (ps qs : List Part) → Matches (Same a) ps qs → pieces_at a.made (trees (before kinds.CloseParen ps)) ≡ pieces_at a.made' (trees (before kinds.CloseParen qs))
patterns a ps qs m = all_pieces a (before kinds.CloseParen ps) (before kinds.CloseParen qs) (before_like (Same a) kinds.CloseParen ps qs m)

guard_piece : (a : Two) (ps qs : List Part) → Matches (Same a) ps qs → piece_if a.made (guard_of ps) ≡ piece_if a.made' (guard_of qs)
guard_piece a ps qs m = piece_if_same a (guard_of ps) (guard_of qs) (guard_like (Same a) ps qs m)

result_guard : (a : Two) (ps qs : List Part) → Matches (Same a) ps qs → piece_if a.made (guard_of (rest_of ps)) ≡ piece_if a.made' (guard_of (rest_of qs))
result_guard a ps qs m = guard_piece a (rest_of ps) (rest_of qs) (rest_like (Same a) ps qs m)

exit_value : (a : Two) (ps qs : List Part) → Matches (Same a) ps qs → value_if a.made (tree_if (behind kinds.Exit ps) 0) ≡ value_if a.made' (tree_if (behind kinds.Exit qs) 0)
exit_value a ps qs m = value_if_same a (tree_if (behind kinds.Exit ps) 0) (tree_if (behind kinds.Exit qs) 0) (exit_like (Same a) ps qs m)

caught_pieces : (a : Two) (ps qs : List Part) → Matches (Same a) ps qs → (i j : ℕ) → pair_if a.made (caught_at ps i j) ≡ pair_if a.made' (caught_at qs i j)
caught_pieces a ps qs m i j = pair_if_same a (caught_at ps i j) (caught_at qs i j) (caught_like (Same a) ps qs m i j)

-- ---- what is known of a node's parts

known_like : (a : Two) (ps qs : List Part) → Matches (Same a) ps qs → Matches (Known a.known a.known') ps qs
known_like a ps qs m = matches_to (Same a) (Known a.known a.known') (λ i j h. h.0) ps qs m

inside_same : (a : Two) (s : List ℕ) (ts : List Token) (h : Shape) (f : Word) (ps qs : List Part) → Matches (Same a) ps qs → has h (map slot ps) ≡ true → inside a.known (surface s ts h f ps) ≡ inside a.known' (surface s ts h f qs)
inside_same a s ts h f ps qs m k = inside_alike a.known a.known' s ts h f ps qs (known_like a ps qs m) k

returns_same : (a : Two) (s : List ℕ) (ts : List Token) (h : Shape) (f : Word) (ps qs : List Part) → Matches (Same a) ps qs → has h (map slot ps) ≡ true → returns_in a.known (surface s ts h f ps) ≡ returns_in a.known' (surface s ts h f qs)
unfolding returns_in
returns_same a s ts h f ps qs m k = ap (λ (x : Marks). is_some x.returns) (inside_same a s ts h f ps qs m k)

breaks_same : (a : Two) (s : List ℕ) (ts : List Token) (h : Shape) (f : Word) (ps qs : List Part) → Matches (Same a) ps qs → has h (map slot ps) ≡ true → breaks_in a.known (surface s ts h f ps) ≡ breaks_in a.known' (surface s ts h f qs)
unfolding breaks_in
breaks_same a s ts h f ps qs m k = ap (λ (x : Marks). is_some x.breaks) (inside_same a s ts h f ps qs m k)

-- ---- what a node expands to

-- a `for` with a key or without, by whether a break is in it
for_piece : (a : Two) (ps qs : List Part) → Matches (Same a) ps qs → (b : Bool) → for_has b (map slot ps) ≡ true → breaks_in a.known (for_form b ps) ≡ breaks_in a.known' (for_form b qs) → form_piece a.known a.made (for_form b ps) ≡ form_piece a.known' a.made' (for_form b qs)
unfolding form_piece
for_piece a ps qs m true h e =
    let t = and_right (tree_there (map slot ps) 0) _ h in
    let u = and_right (tree_there (map slot ps) 2) _ t in
    let k = tree_at_like (Same a) ps qs m 5 (and_right (tree_there (map slot ps) 4) _ u) in
    ap6 for_loop e (continues_same a (tree_at ps 5) (tree_at qs 5) k) (piece_if_same a (Some (tree_at ps 0)) (Some (tree_at qs 0)) (tree_at_like (Same a) ps qs m 0 (and_left _ _ h)))
    (piece_there a ps qs m 2 (and_left _ _ t)) (value_there a ps qs m 4 (and_left _ _ u)) (piece_same a (tree_at ps 5) (tree_at qs 5) k)
for_piece a ps qs m false h e =
    let t = and_right (tree_there (map slot ps) 0) _ h in
    let k = tree_at_like (Same a) ps qs m 3 (and_right (tree_there (map slot ps) 2) _ t) in
    ap6 for_loop e (continues_same a (tree_at ps 3) (tree_at qs 3) k) (piece_if_same a None None tt)
    (piece_there a ps qs m 0 (and_left _ _ h)) (value_there a ps qs m 2 (and_left _ _ t)) (piece_same a (tree_at ps 3) (tree_at qs 3) k)

for_alike_piece : (a : Two) (s : List ℕ) (ts : List Token) (f : Word) (ps qs : List Part) → Matches (Same a) ps qs → has shapes.For (map slot ps) ≡ true → form_piece a.known a.made (surface s ts shapes.For f ps) ≡ form_piece a.known' a.made' (surface s ts shapes.For f qs)
for_alike_piece a s ts f ps qs m h =
    let arrow = is_part kinds.FatArrow (slice_get ps 1) in
    let there = ap (λ (b : Bool). for_has b (map slot ps)) (kind_slot kinds.FatArrow ps 1) ∙ h in
    let same = ap (λ (b : Bool). for_form b qs) (kind_like (Same a) kinds.FatArrow ps qs m 1) in
    let breaks = breaks_same a s ts shapes.For f ps qs m h ∙ ap (λ (x : Form). breaks_in a.known' x) (sym same) in
    for_piece a ps qs m arrow there breaks ∙ ap (λ (x : Form). form_piece a.known' a.made' x) same

function_piece : (a : Two) (s : List ℕ) (ts : List Token) (f : Word) (ps qs : List Part) → Matches (Same a) ps qs → has shapes.DefineFunction (map slot ps) ≡ true → form_piece a.known a.made (surface s ts shapes.DefineFunction f ps) ≡ form_piece a.known' a.made' (surface s ts shapes.DefineFunction f qs)
unfolding form_piece
function_piece a s ts f ps qs m h = ap6 defined_function (returns_same a s ts shapes.DefineFunction f ps qs m h) (text_like (Same a) s ts ps qs m 0) (patterns a ps qs m) (result_guard a ps qs m)
    (values_same a (trees (front (behind kinds.Implements (rest_of ps)))) (trees (front (behind kinds.Implements (rest_of qs)))) (auditors_like (Same a) ps qs m))
    (last_piece a ps qs m h)

literal_piece : (a : Two) (k : TokenKind) (x : List ℕ) → form_piece a.known a.made (literal k x) ≡ form_piece a.known' a.made' (literal k x)
unfolding form_piece
literal_piece a kinds.Number x = refl
literal_piece a kinds.Character x = refl
literal_piece a _ x = refl

pub piece_alike : (a : Two) (s : List ℕ) (ts : List Token) (h : Shape) (f : Word) (ps qs : List Part) → Matches (Same a) ps qs → has h (map slot ps) ≡ true → form_piece a.known a.made (surface s ts h f ps) ≡ form_piece a.known' a.made' (surface s ts h f qs)
unfolding form_piece
piece_alike a s ts shapes.Literal f ps qs m h = literal_piece a f.kind (word_text s ts f)
piece_alike a s ts shapes.Noun f ps qs m h = refl
piece_alike a s ts shapes.List f ps qs m h = ap made_list (all_values a ps qs m)
piece_alike a s ts shapes.Block f ps qs m h = ap body (all_values a ps qs m)
piece_alike a s ts shapes.If f ps qs m h = ap3 conditional (value_there a ps qs m 1 (and_left _ _ h)) (piece_there a ps qs m 3 (and_right (tree_there (map slot ps) 1) _ h)) (piece_if_same a (tree_if ps 5) (tree_if qs 5) (tree_if_like (Same a) ps qs m 5))
piece_alike a s ts shapes.While f ps qs m h =
    let k = tree_at_like (Same a) ps qs m 3 (and_right (tree_there (map slot ps) 1) _ h) in
    ap4 while_loop (breaks_same a s ts shapes.While f ps qs m h) (continues_same a (tree_at ps 3) (tree_at qs 3) k) (value_there a ps qs m 1 (and_left _ _ h)) (piece_same a (tree_at ps 3) (tree_at qs 3) k)
piece_alike a s ts shapes.For f ps qs m h = for_alike_piece a s ts f ps qs m h
piece_alike a s ts shapes.Escape f ps qs m h = ap3 escaped (piece_there a ps qs m 0 (and_left _ _ h)) (piece_there a ps qs m 1 (and_right (tree_there (map slot ps) 0) _ h)) (caught_pieces a ps qs m 3 4)
piece_alike a s ts shapes.Try f ps qs m h = ap3 tried (piece_there a ps qs m 0 h)
    (pairs_same a (catches (drop 1 ps)) (catches (drop 1 qs)) (catches_like (Same a) (drop 1 ps) (drop 1 qs) (drop_like (Same a) 1 ps qs m)))
    (piece_if_same a (tree_if (behind kinds.Finally ps) 0) (tree_if (behind kinds.Finally qs) 0) (tree_if_like (Same a) (behind kinds.Finally ps) (behind kinds.Finally qs) (behind_like (Same a) kinds.Finally ps qs m) 0))
piece_alike a s ts shapes.When f ps qs m h = ap3 awaited (value_there a ps qs m 1 (and_left _ _ h)) (piece_there a ps qs m 4 (and_right (tree_there (map slot ps) 1) _ h)) (caught_pieces a ps qs m 6 7)
piece_alike a s ts shapes.Function f ps qs m h = ap2 closure (all_pieces a (front ps) (front qs) (front_like (Same a) ps qs m)) (last_piece a ps qs m h)
piece_alike a s ts shapes.Call f ps qs m h = ap2 (λ (x : Piece) (xs : List Piece). call x (codes "run") xs) (value_there a ps qs m 0 h) (arguments a ps qs m)
piece_alike a s ts shapes.Index f ps qs m h = ap2 (λ (x : Piece) (xs : List Piece). call x (codes "get") xs) (value_there a ps qs m 0 h) (arguments a ps qs m)
piece_alike a s ts shapes.VerbCall f ps qs m h = ap3 (λ (x : Piece) (v : List ℕ) (xs : List Piece). call x (verb_behind v) xs) (value_there a ps qs m 0 h) (text_like (Same a) s ts ps qs m 2) (arguments a ps qs m)
piece_alike a s ts shapes.Send f ps qs m h = ap3 (λ (x : Piece) (v : Option (List ℕ)) (xs : List Piece). send x (option_map verb_behind v) xs) (value_there a ps qs m 0 h) (verb_like (Same a) s ts ps qs m) (arguments a ps qs m)
piece_alike a s ts shapes.Prefix f ps qs m h = ap (λ (x : Piece). prefix (word_text s ts f) x) (value_there a ps qs m 0 h)
piece_alike a s ts shapes.Binary f ps qs m h = ap3 binary (value_there a ps qs m 0 (and_left _ _ h)) (text_like (Same a) s ts ps qs m 1) (value_there a ps qs m 2 (and_right (tree_there (map slot ps) 0) _ h))
piece_alike a s ts shapes.MatchBind f ps qs m h = ap2 match_bind (value_there a ps qs m 0 (and_left _ _ h)) (piece_there a ps qs m 2 (and_right (tree_there (map slot ps) 0) _ h))
piece_alike a s ts shapes.Assign f ps qs m h = ap2 (assign (word_text s ts f)) (text_like (Same a) s ts ps qs m 0) (value_there a ps qs m 1 h)
piece_alike a s ts shapes.AssignIndex f ps qs m h = ap3 put (value_there a ps qs m 0 (and_left _ _ h)) (all_values a (front (drop 1 ps)) (front (drop 1 qs)) (front_like (Same a) (drop 1 ps) (drop 1 qs) (drop_like (Same a) 1 ps qs m))) (last_value a ps qs m (and_right (tree_there (map slot ps) 0) _ h))
piece_alike a s ts shapes.Leave f ps qs m h = ap (λ (x : Option Piece). leave (word_text s ts f) x) (value_if_same a (tree_if ps 0) (tree_if qs 0) (tree_if_like (Same a) ps qs m 0))
piece_alike a s ts shapes.DefineObject f ps qs m h = ap3 defined_object (name_like (Same a) s ts ps qs m) (all_values a (before kinds.OpenBrace ps) (before kinds.OpenBrace qs) (before_like (Same a) kinds.OpenBrace ps qs m)) (all_pieces a (behind kinds.OpenBrace ps) (behind kinds.OpenBrace qs) (behind_like (Same a) kinds.OpenBrace ps qs m))
piece_alike a s ts shapes.DefineFunction f ps qs m h = function_piece a s ts f ps qs m h
piece_alike a s ts shapes.Define f ps qs m h = ap3 def (piece_there a ps qs m 0 (and_left _ _ h)) (exit_value a ps qs m) (last_value a ps qs m (and_right (tree_there (map slot ps) 0) _ h))
piece_alike a s ts shapes.DefineVar f ps qs m h = ap4 defined_var (text_like (Same a) s ts ps qs m 0) (guard_piece a ps qs m) (exit_value a ps qs m) (last_value a ps qs m h)
piece_alike a s ts shapes.AnyPattern f ps qs m h = ap any (guard_piece a ps qs m)
piece_alike a s ts shapes.FinalPattern f ps qs m h = ap (λ (x : Option Piece). final_pattern (word_text s ts f) x) (guard_piece a ps qs m)
piece_alike a s ts shapes.VarPattern f ps qs m h = ap2 variable (text_like (Same a) s ts ps qs m 0) (guard_piece a ps qs m)
piece_alike a s ts shapes.ListPattern f ps qs m h = ap list (all_pieces a ps qs m)
piece_alike a s ts shapes.ViaPattern f ps qs m h = ap2 via (value_there a ps qs m 1 (and_left _ _ h)) (piece_there a ps qs m 3 (and_right (tree_there (map slot ps) 1) _ h))
piece_alike a s ts shapes.NounGuard f ps qs m h = ap (λ (x : List Piece). noun_guard (word_text s ts f) x) (all_values a ps qs m)
piece_alike a s ts shapes.To f ps qs m h = ap5 to_method (returns_same a s ts shapes.To f ps qs m h) (ap verb_behind (text_like (Same a) s ts ps qs m 0)) (patterns a ps qs m) (result_guard a ps qs m) (last_piece a ps qs m h)
piece_alike a s ts shapes.Method f ps qs m h = ap4 plain_method (ap verb_behind (text_like (Same a) s ts ps qs m 0)) (patterns a ps qs m) (result_guard a ps qs m) (last_piece a ps qs m h)
piece_alike a s ts shapes.Matcher f ps qs m h = ap2 matcher (piece_there a ps qs m 0 (and_left _ _ h)) (piece_there a ps qs m 1 (and_right (tree_there (map slot ps) 0) _ h))
piece_alike a s ts shapes.Program f ps qs m h = ap body (all_values a ps qs m)
piece_alike a s ts other f ps qs m h = value_there a ps qs m 0 h

for_blocks : (b c : Bool) (ps qs : List Part) → is_block (for_form b ps) ≡ is_block (for_form c qs)
unfolding is_block
for_blocks true true ps qs = refl
for_blocks true false ps qs = refl
for_blocks false true ps qs = refl
for_blocks false false ps qs = refl

block_alike : (s : List ℕ) (ts : List Token) (h : Shape) (f : Word) (ps qs : List Part) → is_block (surface s ts h f ps) ≡ is_block (surface s ts h f qs)
unfolding is_block
block_alike s ts shapes.Literal f ps qs = refl
block_alike s ts shapes.For f ps qs = for_blocks (is_part kinds.FatArrow (slice_get ps 1)) (is_part kinds.FatArrow (slice_get qs 1)) ps qs
block_alike s ts _ f ps qs = refl

pub part_alike : (a : Two) (s : List ℕ) (ts : List Token) (h : Shape) (f : Word) (ps qs : List Part) → Matches (Same a) ps qs → has h (map slot ps) ≡ true → form_part a.known a.made (surface s ts h f ps) ≡ form_part a.known' a.made' (surface s ts h f qs)
unfolding form_part
part_alike a s ts h f ps qs m k = ap2 {C = Expansion} (λ (x : Piece) (b : Bool). record { piece = x; is_block = b }) (piece_alike a s ts h f ps qs m k) (block_alike s ts h f ps qs)
