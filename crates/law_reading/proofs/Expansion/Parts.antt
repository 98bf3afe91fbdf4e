-- The parts of a node in the arena, and what was made of them.
use Rattle.std.proofs.Common.{◌≡◌, ℕ, zero, suc, ◌-◌, List, [], ◌∷◌, ◌++◌, Bool, true, false, cond, map, take, drop, length, slice_get, Option, Some, None, nat_eq, refl, sym, ◌∙◌, subst, ap, arith, length-append}
use Rattle.std.proofs.lemmas.List.{length-map}
use Rattle.def_syntax.specs.declared.token.TokenKind.{TokenKind}
use Rattle.def_syntax.specs.declared.syntax.Word.{Word}
use Rattle.def_syntax.specs.Kinds.{code, same}
use Rattle.ev_parser.specs.declared.draft.Part.{Part}
use Rattle.ev_parser.specs.declared.draft.Part.TheVariants as piece
use Rattle.ev_parser.specs.Surface.{tree_if, tree_at, last_tree, front, trees, mark, before, behind, caught_pair, caught_at}
use Rattle.def_kernel.specs.declared.shape.Kind.{Kind}
use Rattle.def_kernel.specs.declared.shape.Kind.TheVariants.{Expression, Pattern}
use Rattle.ev_piece.specs.Pieces.{Piece, hide}
use Rattle.ev_expand.specs.declared.part.Part.{Part as Expansion}
use Rattle.ev_expand.specs.Table.{part_at, piece_at, value_of, value_at, pieces_at, values_at, piece_if, value_if, pair_at, pair_if}
use Rattle.law_reading.proofs.Reading.Whole.{tree_there, last_there}
use Rattle.law_reading.proofs.Reading.Alike.{slot}
use Rattle.law_reading.specs.Expansion.Fitting.{Fits, FitsIf, AllFit}
use Rattle.law_reading.proofs.Expansion.Fitting.{fits_hide}
use Rattle.law_reading.proofs.Expansion.Rows.{FitsPairIf}
use Rattle.law_reading.specs.Expansion.Shapes.{Slot, part, token, Only, Before, Turned, At, MayBe, Heads}

-- what each part of a node is: of a tree its expansion fits its kind, and a token is good
pub data Agree (G : Word → Type 0) (made : List Expansion) : List Slot → List Part → Type 0 where
  nothing : Agree G made [] []
  tree : {kind : Kind} {i : ℕ} {ss : List Slot} {ps : List Part} → Fits kind (piece_at made i) → Agree G made ss ps → Agree G made (part kind ∷ ss) (piece.Tree i ∷ ps)
  word : {t : TokenKind} {w : Word} {ss : List Slot} {ps : List Part} → w.kind ≡ t → G w → Agree G made ss ps → Agree G made (token t ∷ ss) (piece.Token w ∷ ps)

-- what was made of each tree among the parts fits this kind
abbrev pub Uniform : List Expansion → Kind → List Part → Type 0
Uniform made kind [] = Unit {0}
Uniform made kind (piece.Tree i ∷ ps) = Fits kind (piece_at made i) × Uniform made kind ps
Uniform made kind (piece.Token w ∷ ps) = Uniform made kind ps

pub fits_as : {a b : Kind} (p : Piece) → a ≡ b → Fits a p → Fits b p
fits_as {a} {b} p e f = subst (λ (x : Kind). Fits x p) e f

pub uniform_of : (G : Word → Type 0) (made : List Expansion) (kind : Kind) {ss : List Slot} {ps : List Part} → Agree G made ss ps → Only kind ss → Uniform made kind ps
uniform_of G made kind nothing o = tt
uniform_of G made kind (tree {i = i} f a) o = (fits_as (piece_at made i) o.0 f, uniform_of G made kind a o.1)
uniform_of G made kind (word e g a) o = uniform_of G made kind a o

pub uniform_take : (made : List Expansion) (kind : Kind) (n : ℕ) (ps : List Part) → Uniform made kind ps → Uniform made kind (take n ps)
uniform_take made kind zero ps u = tt
uniform_take made kind (suc n) [] u = tt
uniform_take made kind (suc n) (piece.Tree i ∷ ps) u = (u.0, uniform_take made kind n ps u.1)
uniform_take made kind (suc n) (piece.Token w ∷ ps) u = uniform_take made kind n ps u

pub uniform_drop : (made : List Expansion) (kind : Kind) (n : ℕ) (ps : List Part) → Uniform made kind ps → Uniform made kind (drop n ps)
uniform_drop made kind zero ps u = u
uniform_drop made kind (suc n) [] u = tt
uniform_drop made kind (suc n) (piece.Tree i ∷ ps) u = uniform_drop made kind n ps u.1
uniform_drop made kind (suc n) (piece.Token w ∷ ps) u = uniform_drop made kind n ps u

-- ---- what is made of them

value_chosen : (b : Bool) (p : Piece) → Fits Expression p → Fits Expression (cond b (hide p) p)
value_chosen true p f = fits_hide p f
value_chosen false p f = f

pub value_fits : (made : List Expansion) (i : ℕ) → Fits Expression (piece_at made i) → Fits Expression (value_at made i)
unfolding value_at value_of piece_at
value_fits made i f = value_chosen (part_at made i).is_block (part_at made i).piece f

pub uniform_pieces : (made : List Expansion) (kind : Kind) (ps : List Part) → Uniform made kind ps → AllFit kind (pieces_at made (trees ps))
unfolding pieces_at
uniform_pieces made kind [] u = tt
uniform_pieces made kind (piece.Tree i ∷ ps) u = (u.0, uniform_pieces made kind ps u.1)
uniform_pieces made kind (piece.Token w ∷ ps) u = uniform_pieces made kind ps u

pub uniform_values : (made : List Expansion) (ps : List Part) → Uniform made Expression ps → AllFit Expression (values_at made (trees ps))
unfolding values_at
uniform_values made [] u = tt
uniform_values made (piece.Tree i ∷ ps) u = (value_fits made i u.0, uniform_values made ps u.1)
uniform_values made (piece.Token w ∷ ps) u = uniform_values made ps u

pub uniform_if : (made : List Expansion) (kind : Kind) (ps : List Part) (n : ℕ) → Uniform made kind ps → FitsIf kind (piece_if made (tree_if ps n))
unfolding piece_if
uniform_if made kind [] n u = tt
uniform_if made kind (piece.Tree i ∷ ps) zero u = u.0
uniform_if made kind (piece.Token w ∷ ps) zero u = tt
uniform_if made kind (piece.Tree i ∷ ps) (suc n) u = uniform_if made kind ps n u.1
uniform_if made kind (piece.Token w ∷ ps) (suc n) u = uniform_if made kind ps n u

value_of_if : (made : List Expansion) (o : Option ℕ) → FitsIf Expression (piece_if made o) → FitsIf Expression (value_if made o)
unfolding piece_if value_if
value_of_if made None f = tt
value_of_if made (Some i) f = value_fits made i f

pub uniform_value_if : (made : List Expansion) (ps : List Part) (n : ℕ) → Uniform made Expression ps → FitsIf Expression (value_if made (tree_if ps n))
uniform_value_if made ps n u = value_of_if made (tree_if ps n) (uniform_if made Expression ps n u)

-- a tree that is there
pub uniform_at : (made : List Expansion) (kind : Kind) (ps : List Part) (n : ℕ) → Uniform made kind ps → tree_there (map slot ps) n ≡ true → Fits kind (piece_at made (tree_at ps n))
uniform_at made kind [] n u h = absurd (cc)
uniform_at made kind (piece.Tree i ∷ ps) zero u h = u.0
uniform_at made kind (piece.Token w ∷ ps) zero u h = absurd (cc)
uniform_at made kind (piece.Tree i ∷ ps) (suc n) u h = uniform_at made kind ps n u.1 h
uniform_at made kind (piece.Token w ∷ ps) (suc n) u h = uniform_at made kind ps n u h

pub uniform_value_at : (made : List Expansion) (ps : List Part) (n : ℕ) → Uniform made Expression ps → tree_there (map slot ps) n ≡ true → Fits Expression (value_at made (tree_at ps n))
uniform_value_at made ps n u h = value_fits made (tree_at ps n) (uniform_at made Expression ps n u h)

pub uniform_last : (made : List Expansion) (kind : Kind) (ps : List Part) → Uniform made kind ps → last_there (map slot ps) ≡ true → Fits kind (piece_at made (last_tree ps))
uniform_last made kind ps u h = uniform_at made kind ps (length ps - 1) u (ap (λ (n : ℕ). tree_there (map slot ps) (n - 1)) (sym (length-map ps slot)) ∙ h)

-- ---- parts of several kinds

some_is : {X : Type 0} (x y : X) → Some x ≡ Some y → x ≡ y
some_is x y e = cc

part_is : (a b : Kind) → Some (part a) ≡ Some (part b) → a ≡ b
part_is a b e = cc

pub at_fits : (G : Word → Type 0) (made : List Expansion) (kind : Kind) {ss : List Slot} {ps : List Part} → Agree G made ss ps → (n : ℕ) → At kind ss n → Fits kind (piece_at made (tree_at ps n))
at_fits G made kind nothing n h = absurd (cc)
at_fits G made kind (tree {kind = j} {i = i} f a) zero h = fits_as (piece_at made i) (part_is j kind h) f
at_fits G made kind (tree f a) (suc n) h = at_fits G made kind a n h
at_fits G made kind (word e g a) zero h = absurd (cc)
at_fits G made kind (word e g a) (suc n) h = at_fits G made kind a n h

pub may_fit : (G : Word → Type 0) (made : List Expansion) (kind : Kind) {ss : List Slot} {ps : List Part} → Agree G made ss ps → (n : ℕ) → MayBe kind (slice_get ss n) → FitsIf kind (piece_if made (tree_if ps n))
unfolding piece_if
may_fit G made kind nothing n h = tt
may_fit G made kind (tree {i = i} f a) zero h = fits_as (piece_at made i) h f
may_fit G made kind (tree f a) (suc n) h = may_fit G made kind a n h
may_fit G made kind (word e g a) zero h = tt
may_fit G made kind (word e g a) (suc n) h = may_fit G made kind a n h

pair_fits : (made : List Expansion) (p b : Option ℕ) → FitsIf Pattern (piece_if made p) → FitsIf Expression (piece_if made b) → FitsPairIf (pair_if made (caught_pair p b))
unfolding piece_if pair_if pair_at
pair_fits made None None f g = tt
pair_fits made None (Some b) f g = tt
pair_fits made (Some p) None f g = tt
pair_fits made (Some p) (Some b) f g = (f, g)

pub caught_fits : (made : List Expansion) (ps : List Part) (i j : ℕ) → FitsIf Pattern (piece_if made (tree_if ps i)) → FitsIf Expression (piece_if made (tree_if ps j)) → FitsPairIf (pair_if made (caught_at ps i j))
caught_fits made ps i j f g = pair_fits made (tree_if ps i) (tree_if ps j) f g

-- the first part is a token
pub record First (G : Word → Type 0) (t : TokenKind) (ps : List Part) : Type 0 where
  pub at : Word
  pub rest : List Part
  pub is : ps ≡ piece.Token at ∷ rest
  pub kind : at.kind ≡ t
  pub good : G at

token_is : (a b : TokenKind) → Some (token a) ≡ Some (token b) → a ≡ b
token_is a b e = cc

pub first_token : (G : Word → Type 0) (made : List Expansion) (t : TokenKind) {ss : List Slot} {ps : List Part} → Agree G made ss ps → Heads t ss → First G t ps
first_token G made t nothing h = absurd (cc)
first_token G made t (tree f a) h = absurd (cc)
first_token G made t (word {t = j} {w = w} {ps = ps} e g a) h = record { at = w; rest = ps; is = refl; kind = e ∙ token_is j t h; good = g }

-- ---- the parts before a mark and behind it

code_same : (n : ℕ) → nat_eq n n ≡ true
code_same n = grind (arith)

pub same_self : (a b : TokenKind) → a ≡ b → same a b ≡ true
same_self a b e = subst (λ (x : TokenKind). same a x ≡ true) e (code_same (code a))

pub record Split (made : List Expansion) (mk : TokenKind) (a b : Kind) (ps : List Part) : Type 0 where
  pub before : Uniform made a (before mk ps)
  pub behind : Uniform made b (behind mk ps)

split_word : (made : List Expansion) (mk : TokenKind) (a b : Kind) (w : Word) (ps : List Part) → (t : Bool) → same w.kind mk ≡ t → t ≡ true → Uniform made b ps → Split made mk a b (piece.Token w ∷ ps)
split_word made mk a b w ps true e r u = record {
  before = subst (λ (x : Bool). Uniform made a (take (cond x 0 (suc (mark mk ps))) (piece.Token w ∷ ps))) (sym e) tt;
  behind = subst (λ (x : Bool). Uniform made b (drop (suc (cond x 0 (suc (mark mk ps)))) (piece.Token w ∷ ps))) (sym e) u;
}
split_word made mk a b w ps false e r u = absurd (cc)

split_past : (made : List Expansion) (mk : TokenKind) (a b : Kind) (w : Word) (ps : List Part) → (t : Bool) → same w.kind mk ≡ t → t ≡ false → Split made mk a b ps → Split made mk a b (piece.Token w ∷ ps)
split_past made mk a b w ps false e r u = record {
  before = subst (λ (x : Bool). Uniform made a (take (cond x 0 (suc (mark mk ps))) (piece.Token w ∷ ps))) (sym e) u.before;
  behind = subst (λ (x : Bool). Uniform made b (drop (suc (cond x 0 (suc (mark mk ps)))) (piece.Token w ∷ ps))) (sym e) u.behind;
}
split_past made mk a b w ps true e r u = absurd (cc)

split_on : (G : Word → Type 0) (made : List Expansion) (mk : TokenKind) (a b : Kind) (xs ys : List Slot) (ps : List Part) → Before mk a xs → Only b ys → Agree G made (xs ++ token mk ∷ ys) ps → Split made mk a b ps
split_on G made mk a b [] ys ps h o (word {w = w} {ps = qs} e g r) = split_word made mk a b w qs (same w.kind mk) refl (same_self w.kind mk e) (uniform_of G made b r o)
split_on G made mk a b (part k ∷ xs) ys ps h o (tree {i = i} {ps = qs} f r) =
    let s = split_on G made mk a b xs ys qs h.1 o r in
    record { before = (fits_as (piece_at made i) h.0 f, s.before); behind = s.behind }
split_on G made mk a b (token t ∷ xs) ys ps h o (word {w = w} {ps = qs} e g r) =
    split_past made mk a b w qs (same w.kind mk) refl (ap (λ (x : TokenKind). same x mk) e ∙ h.0) (split_on G made mk a b xs ys qs h.1 o r)

pub turned_split : (G : Word → Type 0) (made : List Expansion) (mk : TokenKind) (a b : Kind) (ss : List Slot) (ps : List Part) → Turned mk a b ss → Agree G made ss ps → Split made mk a b ps
turned_split G made mk a b ss ps h r = split_on G made mk a b h.front h.back ps h.first h.second (subst (λ (x : List Slot). Agree G made x ps) h.is r)

-- ---- all parts but the last, and the last

pub record Ended (made : List Expansion) (kind : Kind) (ps : List Part) : Type 0 where
  pub rest : List Part
  pub at : ℕ
  pub is : ps ≡ rest ++ piece.Tree at ∷ []
  pub fits : Fits kind (piece_at made at)

pub ends_with : (G : Word → Type 0) (made : List Expansion) (kind : Kind) (xs : List Slot) (ps : List Part) → Agree G made (xs ++ part kind ∷ []) ps → Ended made kind ps
ends_with G made kind [] ps (tree {i = i} f nothing) = record { rest = []; at = i; is = refl; fits = f }
ends_with G made kind (part j ∷ xs) ps (tree {i = i} {ps = qs} f r) =
    let e = ends_with G made kind xs qs r in
    record { rest = piece.Tree i ∷ e.rest; at = e.at; is = ap (λ (x : List Part). piece.Tree i ∷ x) e.is; fits = e.fits }
ends_with G made kind (token t ∷ xs) ps (word {w = w} {ps = qs} d g r) =
    let e = ends_with G made kind xs qs r in
    record { rest = piece.Token w ∷ e.rest; at = e.at; is = ap (λ (x : List Part). piece.Token w ∷ x) e.is; fits = e.fits }

at_length : (ps : List Part) (i : ℕ) → tree_at (ps ++ piece.Tree i ∷ []) (length ps) ≡ i
at_length [] i = refl
at_length (p ∷ ps) i = at_length ps i

one_less : (ps : List Part) (p : Part) → length (ps ++ p ∷ []) - 1 ≡ length ps
one_less ps p = omega (arith, length-append ps (p ∷ []))

last_at : (ps : List Part) (i : ℕ) → last_tree (ps ++ piece.Tree i ∷ []) ≡ i
last_at ps i = ap (λ (n : ℕ). tree_at (ps ++ piece.Tree i ∷ []) n) (one_less ps (piece.Tree i)) ∙ at_length ps i

take_length : (ps : List Part) (p : Part) → take (length ps) (ps ++ p ∷ []) ≡ ps
take_length [] p = refl
take_length (q ∷ ps) p = ap (λ (x : List Part). q ∷ x) (take_length ps p)

front_is : (ps : List Part) (p : Part) → front (ps ++ p ∷ []) ≡ ps
front_is ps p = ap (λ (n : ℕ). take n (ps ++ p ∷ [])) (one_less ps p) ∙ take_length ps p

pub last_fits : (made : List Expansion) (kind : Kind) (ps : List Part) → Ended made kind ps → Fits kind (piece_at made (last_tree ps))
last_fits made kind ps e = subst (λ (i : ℕ). Fits kind (piece_at made i)) (sym (ap last_tree e.is ∙ last_at e.rest e.at)) e.fits

-- all but the last are of one kind
record Front (made : List Expansion) (kind : Kind) (ps : List Part) : Type 0 where
  rest : List Part
  at : Part
  is : ps ≡ rest ++ at ∷ []
  same : Uniform made kind rest

front_of : (G : Word → Type 0) (made : List Expansion) (kind : Kind) (xs : List Slot) (end : Kind) (ps : List Part) → Only kind xs → Agree G made (xs ++ part end ∷ []) ps → Front made kind ps
front_of G made kind [] end ps o (tree {i = i} f nothing) = record { rest = []; at = piece.Tree i; is = refl; same = tt }
front_of G made kind (part j ∷ xs) end ps o (tree {i = i} {ps = qs} f r) =
    let e = front_of G made kind xs end qs o.1 r in
    record { rest = piece.Tree i ∷ e.rest; at = e.at; is = ap (λ (x : List Part). piece.Tree i ∷ x) e.is; same = (fits_as (piece_at made i) o.0 f, e.same) }
front_of G made kind (token t ∷ xs) end ps o (word {w = w} {ps = qs} d g r) =
    let e = front_of G made kind xs end qs o r in
    record { rest = piece.Token w ∷ e.rest; at = e.at; is = ap (λ (x : List Part). piece.Token w ∷ x) e.is; same = e.same }

pub front_uniform : (G : Word → Type 0) (made : List Expansion) (kind : Kind) (xs : List Slot) (end : Kind) (ps : List Part) → Only kind xs → Agree G made (xs ++ part end ∷ []) ps → Uniform made kind (front ps)
front_uniform G made kind xs end ps o a =
    let e = front_of G made kind xs end ps o a in
    subst (λ (x : List Part). Uniform made kind (front x)) (sym e.is) (subst (λ (x : List Part). Uniform made kind x) (sym (front_is e.rest e.at)) e.same)
