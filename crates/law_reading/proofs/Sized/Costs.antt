-- What is made of the parts of a node weighs no more than these parts, each with one node more.
use Rattle.std.proofs.Common.{◌≡◌, inl, inr, ℕ, zero, suc, ◌+◌, ◌-◌, ◌≤◌, ◌<◌, List, [], ◌∷◌, Bool, true, false, cond, eqb, map, drop, length, Option, Some, None, refl, sym, ◌∙◌, subst, ap, arith}
use Rattle.std.proofs.lemmas.Bool.{cases_lt, eqb-true}
use Rattle.std.proofs.lemmas.Bool.Decides.{nat_tests}
use Rattle.std.proofs.lemmas.List.{length-map, length-drop}
use Rattle.def_syntax.specs.declared.token.TokenKind.{TokenKind}
use Rattle.def_syntax.specs.declared.token.TokenKind.TheVariants as kinds
use Rattle.def_syntax.specs.Kinds.{same, code}
use Rattle.ev_parser.specs.declared.draft.Part.{Part}
use Rattle.ev_parser.specs.declared.draft.Part.TheVariants as piece
use Rattle.ev_parser.specs.Surface.{tree_if, tree_at, last_tree, front, trees, is_mark, mark, before, behind, caught_pair, caught_at, catches, rest_of}
use Rattle.ev_piece.specs.Pieces.{Piece, hide}
use Rattle.ev_expand.specs.declared.part.Part.{Part as Expansion}
use Rattle.ev_expand.specs.Table.{part_at, piece_at, value_of, value_at, pieces_at, values_at, piece_if, value_if, pair_at, pair_if as found_pair, pairs_at}
use Rattle.law_reading.proofs.Reading.Whole.{tree_there, last_there}
use Rattle.law_reading.proofs.Reading.Alike.{slot}
use Rattle.law_reading.specs.Sized.Weights.{weight}
use Rattle.law_reading.proofs.Sized.Pieces.{total, weight_if, weighs_hide}
use Rattle.law_reading.proofs.Sized.Rows.{pair_if, pairs_weight}
use Rattle.law_reading.proofs.Sized.Tidiness.{Without, Ordered, Finishes, Guarded, Closes, Behind}
use Rattle.law_reading.proofs.Sized.Sums.{sum, pick, split, pick_drop, one_place, two_places, three_places, marks_apart, longer_last, last_drop, front_last, mark_far}

-- what was made of a tree, with one node more
abbrev pub cost : List Expansion → ℕ → ℕ
cost made i = suc (weight (piece_at made i))

value_chosen : (b : Bool) (p : Piece) → weight (cond b (hide p) p) ≤ suc (weight p)
value_chosen true p = omega (arith, weighs_hide p)
value_chosen false p = omega arith

pub value_cost : (made : List Expansion) (i : ℕ) → weight (value_at made i) ≤ cost made i
unfolding value_at value_of piece_at
value_cost made i = value_chosen (part_at made i).is_block (part_at made i).piece

pub pieces_cost : (made : List Expansion) (ps : List Part) → total (pieces_at made (trees ps)) ≤ sum (cost made) ps
unfolding pieces_at
pieces_cost made [] = omega arith
pieces_cost made (piece.Tree i ∷ ps) = omega (arith, pieces_cost made ps)
pieces_cost made (piece.Token w ∷ ps) = omega (arith, pieces_cost made ps)

pub values_cost : (made : List Expansion) (ps : List Part) → total (values_at made (trees ps)) ≤ sum (cost made) ps
unfolding values_at
values_cost made [] = omega arith
values_cost made (piece.Tree i ∷ ps) = omega (arith, values_cost made ps, value_cost made i)
values_cost made (piece.Token w ∷ ps) = omega (arith, values_cost made ps)

pub if_cost : (made : List Expansion) (ps : List Part) (n : ℕ) → weight_if (piece_if made (tree_if ps n)) ≤ pick (cost made) ps n
unfolding piece_if
if_cost made [] n = omega arith
if_cost made (piece.Tree i ∷ ps) zero = omega arith
if_cost made (piece.Token w ∷ ps) zero = omega arith
if_cost made (p ∷ ps) (suc n) = if_cost made ps n

pub value_if_cost : (made : List Expansion) (ps : List Part) (n : ℕ) → weight_if (value_if made (tree_if ps n)) ≤ pick (cost made) ps n
unfolding value_if
value_if_cost made [] n = omega arith
value_if_cost made (piece.Tree i ∷ ps) zero = value_cost made i
value_if_cost made (piece.Token w ∷ ps) zero = omega arith
value_if_cost made (p ∷ ps) (suc n) = value_if_cost made ps n

-- a tree that is there
pub at_cost : (made : List Expansion) (ps : List Part) (n : ℕ) → tree_there (map slot ps) n ≡ true → cost made (tree_at ps n) ≡ pick (cost made) ps n
at_cost made [] n h = absurd (cc)
at_cost made (piece.Tree i ∷ ps) zero h = refl
at_cost made (piece.Token w ∷ ps) zero h = absurd (cc)
at_cost made (p ∷ ps) (suc n) h = at_cost made ps n h

pub last_cost : (made : List Expansion) (ps : List Part) → last_there (map slot ps) ≡ true → cost made (last_tree ps) ≡ pick (cost made) ps (length ps - 1)
last_cost made ps h = at_cost made ps (length ps - 1) (ap (λ (n : ℕ). tree_there (map slot ps) (n - 1)) (sym (length-map ps slot)) ∙ h)

pair_cost : (made : List Expansion) (p b : Option ℕ) → pair_if (found_pair made (caught_pair p b)) ≤ weight_if (piece_if made p) + weight_if (piece_if made b)
unfolding piece_if found_pair pair_at
pair_cost made None None = omega arith
pair_cost made None (Some b) = omega arith
pair_cost made (Some p) None = omega arith
pair_cost made (Some p) (Some b) = omega arith

pub caught_cost : (made : List Expansion) (ps : List Part) (i j : ℕ) → pair_if (found_pair made (caught_at ps i j)) ≤ pick (cost made) ps i + pick (cost made) ps j
caught_cost made ps i j = omega (arith, pair_cost made (tree_if ps i) (tree_if ps j), if_cost made ps i, if_cost made ps j)

-- what a mark leads to
pub marked_cost : (made : List Expansion) (k : TokenKind) (ps : List Part) → weight_if (piece_if made (tree_if (behind k ps) 0)) ≤ pick (cost made) ps (suc (mark k ps))
marked_cost made k ps =
    let here : suc (mark k ps) + 0 ≡ suc (mark k ps) = omega arith in
    omega (arith, if_cost made (behind k ps) 0, pick_drop (cost made) (suc (mark k ps)) ps 0, ap (pick (cost made) ps) here)

pub marked_value_cost : (made : List Expansion) (k : TokenKind) (ps : List Part) → weight_if (value_if made (tree_if (behind k ps) 0)) ≤ pick (cost made) ps (suc (mark k ps))
marked_value_cost made k ps =
    let here : suc (mark k ps) + 0 ≡ suc (mark k ps) = omega arith in
    omega (arith, value_if_cost made (behind k ps) 0, pick_drop (cost made) (suc (mark k ps)) ps 0, ap (pick (cost made) ps) here)

-- ---- the parts of a `try` behind its block

only_end : (made : List Expansion) (ps : List Part) → weight_if (piece_if made (tree_if (behind kinds.Finally ps) 0)) ≤ sum (cost made) ps
only_end made ps = omega (arith, marked_cost made kinds.Finally ps, one_place (cost made) ps (suc (mark kinds.Finally ps)))

pub tries_cost : (made : List Expansion) (ps : List Part) → Finishes (map slot ps)
    → pairs_weight (pairs_at made (catches ps)) + weight_if (piece_if made (tree_if (behind kinds.Finally ps) 0)) ≤ sum (cost made) ps
unfolding pairs_at pair_at
tries_cost made [] h = omega (arith, only_end made [])
tries_cost made (piece.Tree i ∷ ps) h = omega (arith, only_end made (piece.Tree i ∷ ps))
tries_cost made (piece.Token w ∷ []) h = omega (arith, only_end made (piece.Token w ∷ []))
tries_cost made (piece.Token w ∷ piece.Token v ∷ ps) h = omega (arith, only_end made (piece.Token w ∷ piece.Token v ∷ ps))
tries_cost made (piece.Token w ∷ piece.Tree p ∷ []) h = omega (arith, only_end made (piece.Token w ∷ piece.Tree p ∷ []))
tries_cost made (piece.Token w ∷ piece.Tree p ∷ piece.Token v ∷ ps) h = omega (arith, only_end made (piece.Token w ∷ piece.Tree p ∷ piece.Token v ∷ ps))
tries_cost made (piece.Token w ∷ piece.Tree p ∷ piece.Tree b ∷ ps) h = met (same w.kind kinds.Finally) refl (tries_cost made ps h.1)
  where
    met : (t : Bool) → same w.kind kinds.Finally ≡ t → pairs_weight (pairs_at made (catches ps)) + weight_if (piece_if made (tree_if (behind kinds.Finally ps) 0)) ≤ sum (cost made) ps
        → (1 + (weight (piece_at made p) + weight (piece_at made b) + pairs_weight (pairs_at made (catches ps)))) + weight_if (piece_if made (tree_if (drop (suc (cond t 0 (suc (suc (suc (mark kinds.Finally ps)))))) (piece.Token w ∷ piece.Tree p ∷ piece.Tree b ∷ ps)) 0)) ≤ sum (cost made) (piece.Token w ∷ piece.Tree p ∷ piece.Tree b ∷ ps)
    met true x rest = absurd (omega (arith, h.0 x))
    met false x rest = omega (arith, rest)

-- ---- the parts of a definition of a function

-- no mark leads anywhere
mark_none : (f : ℕ → ℕ) (k : TokenKind) (ps : List Part) → Without k (map slot ps) → pick f ps (suc (mark k ps)) ≡ 0
mark_none f k [] h = refl
mark_none f k (piece.Tree i ∷ ps) h = mark_none f k ps h
mark_none f k (piece.Token w ∷ ps) h = subst (λ (b : Bool). pick f (piece.Token w ∷ ps) (suc (cond b 0 (suc (mark k ps)))) ≡ 0) (sym h.0) (mark_none f k ps h.1)

apart : (n : ℕ) (j k : TokenKind) → eqb (code j) (code k) ≡ false → eqb n (code j) ≡ true → eqb n (code k) ≡ true → ⊥
apart n j k h a b =
    let same_code : code j ≡ code k = sym (eqb-true n (code j) a) ∙ eqb-true n (code k) b in
    let differ : eqb (code j) (code j) ≡ false = subst (λ (c : ℕ). eqb (code j) c ≡ false) (sym same_code) h in
    grind (arith, nat_tests)

-- the guard, the auditors and the block
function_cost : (f : ℕ → ℕ) (ps : List Part) → Ordered (map slot ps) → Guarded kinds.Colon (map slot ps) → 1 ≤ length ps
    → pick f ps (suc (mark kinds.Colon ps)) + (sum f (front (behind kinds.Implements ps)) + pick f ps (length ps - 1)) ≤ sum f ps
function_cost f [] o g h = absurd (omega arith)
function_cost f (piece.Tree i ∷ []) o g h = omega arith
function_cost f (piece.Tree i ∷ q ∷ qs) o g h = omega (arith, function_cost f (q ∷ qs) o g (omega arith), longer_last f (piece.Tree i) (q ∷ qs) (omega arith))
function_cost f (piece.Token w ∷ []) o g h = met (same w.kind kinds.Colon) (same w.kind kinds.Implements)
  where
    met : (a b : Bool) → pick f (piece.Token w ∷ []) (suc (cond a 0 1)) + (sum f (front (drop (suc (cond b 0 1)) (piece.Token w ∷ []))) + pick f (piece.Token w ∷ []) 0) ≤ 0
    met true true = omega arith
    met true false = omega arith
    met false true = omega arith
    met false false = omega arith
function_cost f (piece.Token w ∷ q ∷ qs) o g h = met (same w.kind kinds.Colon) (same w.kind kinds.Implements) refl refl (function_cost f (q ∷ qs) o.1 g.1 (omega arith))
  where
    met : (a b : Bool) → same w.kind kinds.Colon ≡ a → same w.kind kinds.Implements ≡ b
        → pick f (q ∷ qs) (suc (mark kinds.Colon (q ∷ qs))) + (sum f (front (behind kinds.Implements (q ∷ qs))) + pick f (q ∷ qs) (length (q ∷ qs) - 1)) ≤ sum f (q ∷ qs)
        → pick f (piece.Token w ∷ q ∷ qs) (suc (cond a 0 (suc (mark kinds.Colon (q ∷ qs))))) + (sum f (front (drop (suc (cond b 0 (suc (mark kinds.Implements (q ∷ qs))))) (piece.Token w ∷ q ∷ qs))) + pick f (piece.Token w ∷ q ∷ qs) (length (piece.Token w ∷ q ∷ qs) - 1)) ≤ sum f (piece.Token w ∷ q ∷ qs)
    met true true x y rest = absurd (apart (code w.kind) kinds.Colon kinds.Implements refl x y)
    met true false x y rest =
        let more : 1 ≤ length qs = omega (arith, g.0 x, length-map qs slot) in
        omega (arith, longer_last f (piece.Token w) (q ∷ qs) (omega arith), longer_last f q qs more, front_last f (mark kinds.Implements (q ∷ qs)) qs)
    met false true x y rest = omega (arith, longer_last f (piece.Token w) (q ∷ qs) (omega arith), mark_none f kinds.Colon (q ∷ qs) (o.0 y), front_last f 0 (q ∷ qs))
    met false false x y rest = omega (arith, rest, longer_last f (piece.Token w) (q ∷ qs) (omega arith))

-- ---- behind the parameters

guarded_drop : (k : TokenKind) (n : ℕ) (ps : List Part) → Guarded k (map slot ps) → Guarded k (map slot (drop n ps))
guarded_drop k zero ps h = h
guarded_drop k (suc n) [] h = tt
guarded_drop k (suc n) (piece.Tree i ∷ ps) h = guarded_drop k n ps h
guarded_drop k (suc n) (piece.Token w ∷ ps) h = guarded_drop k n ps h.1

ordered_drop : (n : ℕ) (ps : List Part) → Ordered (map slot ps) → Ordered (map slot (drop n ps))
ordered_drop zero ps h = h
ordered_drop (suc n) [] h = tt
ordered_drop (suc n) (piece.Tree i ∷ ps) h = ordered_drop n ps h
ordered_drop (suc n) (piece.Token w ∷ ps) h = ordered_drop n ps h.1

-- the `)` is not the last part
parameters_within : (ps : List Part) → Behind (map slot ps) → suc (mark kinds.CloseParen ps) < length ps
parameters_within [] h = absurd h
parameters_within (piece.Tree i ∷ ps) h = omega (arith, parameters_within ps h)
parameters_within (piece.Token w ∷ ps) (inl e) = subst (λ (b : Bool). suc (cond b 0 (suc (mark kinds.CloseParen ps))) < suc (length ps)) (sym e.0) (omega (arith, e.1, length-map ps slot))
parameters_within (piece.Token w ∷ ps) (inr h) = met (same w.kind kinds.CloseParen) (parameters_within ps h)
  where
    met : (b : Bool) → suc (mark kinds.CloseParen ps) < length ps → suc (cond b 0 (suc (mark kinds.CloseParen ps))) < suc (length ps)
    met true rest = omega (arith, rest)
    met false rest = omega (arith, rest)

-- the parameters, the guard and the block of a member
pub member_cost : (f : ℕ → ℕ) (ps : List Part) → Closes (map slot ps) → Behind (map slot ps)
    → sum f (before kinds.CloseParen ps) + (pick f (rest_of ps) (suc (mark kinds.Colon (rest_of ps))) + pick f ps (length ps - 1)) ≤ sum f ps
member_cost f ps c b =
    let within = parameters_within ps b in
    omega (
      arith,
      split f ps (mark kinds.CloseParen ps),
      last_drop f (suc (mark kinds.CloseParen ps)) ps within,
      two_places f (rest_of ps) (suc (mark kinds.Colon (rest_of ps))) (length (rest_of ps) - 1) (mark_far kinds.Colon (rest_of ps) (guarded_drop kinds.Colon (suc (mark kinds.CloseParen ps)) ps c.guard)),
    )

-- and those of a function, with its auditors
pub function_all : (f : ℕ → ℕ) (ps : List Part) → Ordered (map slot ps) → Closes (map slot ps) → Behind (map slot ps)
    → sum f (before kinds.CloseParen ps) + (pick f (rest_of ps) (suc (mark kinds.Colon (rest_of ps))) + (sum f (front (behind kinds.Implements (rest_of ps))) + pick f ps (length ps - 1))) ≤ sum f ps
function_all f ps o c b =
    let within = parameters_within ps b in
    let some : 1 ≤ length (rest_of ps) = omega (arith, within, length-drop (suc (mark kinds.CloseParen ps)) ps) in
    omega (
      arith,
      split f ps (mark kinds.CloseParen ps),
      last_drop f (suc (mark kinds.CloseParen ps)) ps within,
      function_cost f (rest_of ps) (ordered_drop (suc (mark kinds.CloseParen ps)) ps o) (guarded_drop kinds.Colon (suc (mark kinds.CloseParen ps)) ps c.guard) some,
    )

-- ---- definitions

exit_apart : (p : Part) → is_mark kinds.Colon p ≡ true → is_mark kinds.Exit p ≡ true → ⊥
exit_apart (piece.Tree i) x y = cc
exit_apart (piece.Token w) x y = apart (code w.kind) kinds.Colon kinds.Exit refl x y

-- the pattern, the ejector and the value
pub define_cost : (f : ℕ → ℕ) (ps : List Part) → Closes (map slot ps) → pick f ps 0 + (pick f ps (suc (mark kinds.Exit ps)) + pick f ps (length ps - 1)) ≤ sum f ps
define_cost f ps c = three_places f ps 0 (suc (mark kinds.Exit ps)) (length ps - 1) (λ e. omega (arith, e)) (λ e. omega (arith, e, c.two, length-map ps slot)) (mark_far kinds.Exit ps c.exit)

-- the guard, the ejector and the value
pub variable_cost : (f : ℕ → ℕ) (ps : List Part) → Closes (map slot ps) → pick f ps (suc (mark kinds.Colon ps)) + (pick f ps (suc (mark kinds.Exit ps)) + pick f ps (length ps - 1)) ≤ sum f ps
variable_cost f ps c = elim (cases_lt (mark kinds.Colon ps) (mark kinds.Exit ps)) [
  | inl l ↦ three_places f ps (suc (mark kinds.Colon ps)) (suc (mark kinds.Exit ps)) (length ps - 1) (λ e. omega (arith, e, l)) (mark_far kinds.Colon ps c.guard) (mark_far kinds.Exit ps c.exit)
  | inr g ↦ elim (cases_lt (mark kinds.Exit ps) (mark kinds.Colon ps)) [
    | inl l ↦ three_places f ps (suc (mark kinds.Colon ps)) (suc (mark kinds.Exit ps)) (length ps - 1) (λ e. omega (arith, e, l)) (mark_far kinds.Colon ps c.guard) (mark_far kinds.Exit ps c.exit)
    | inr k ↦ omega (arith, marks_apart f kinds.Colon kinds.Exit ps exit_apart (omega (arith, g, k)), two_places f ps (suc (mark kinds.Exit ps)) (length ps - 1) (mark_far kinds.Exit ps c.exit))
  ]
]
