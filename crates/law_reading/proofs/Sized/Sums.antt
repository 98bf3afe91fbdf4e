-- The weights of the trees among some parts: parts at several places together weigh no more than all.
use Rattle.std.proofs.Common.{◌≡◌, ℕ, zero, suc, ◌+◌, ◌-◌, ◌≤◌, ◌<◌, List, [], ◌∷◌, ◌++◌, Bool, true, false, cond, take, drop, map, length, inl, inr, refl, sym, ◌∙◌, ap, arith}
use Rattle.std.proofs.lemmas.Bool.{cases_lt}
use Rattle.std.proofs.lemmas.List.{length-map, drop_all}
use Rattle.def_syntax.specs.declared.token.TokenKind.{TokenKind}
use Rattle.def_syntax.specs.Kinds.{same}
use Rattle.ev_parser.specs.declared.draft.Part.{Part}
use Rattle.ev_parser.specs.declared.draft.Part.TheVariants as piece
use Rattle.ev_parser.specs.Surface.{is_mark, mark, front}
use Rattle.law_reading.proofs.Reading.Alike.{slot}
use Rattle.law_reading.proofs.Sized.Tidiness.{Guarded}

-- what a part weighs, a tree by its number
abbrev pub of_part : (ℕ → ℕ) → Part → ℕ
of_part f (piece.Tree i) = f i
of_part f (piece.Token w) = 0

abbrev pub sum : (ℕ → ℕ) → List Part → ℕ
sum f [] = 0
sum f (p ∷ ps) = of_part f p + sum f ps

-- the part at a place
abbrev pub pick : (ℕ → ℕ) → List Part → ℕ → ℕ
pick f [] k = 0
pick f (p ∷ ps) zero = of_part f p
pick f (p ∷ ps) (suc k) = pick f ps k

pub sum_append : (f : ℕ → ℕ) (ps qs : List Part) → sum f (ps ++ qs) ≡ sum f ps + sum f qs
sum_append f [] qs = omega arith
sum_append f (p ∷ ps) qs = omega (arith, sum_append f ps qs)

pub split : (f : ℕ → ℕ) (ps : List Part) (k : ℕ) → sum f (take k ps) + (pick f ps k + sum f (drop (suc k) ps)) ≡ sum f ps
split f [] zero = omega arith
split f [] (suc k) = omega arith
split f (p ∷ ps) zero = omega arith
split f (p ∷ ps) (suc k) = omega (arith, split f ps k)

pub pick_drop : (f : ℕ → ℕ) (n : ℕ) (ps : List Part) (k : ℕ) → pick f (drop n ps) k ≡ pick f ps (n + k)
pick_drop f zero ps k = ap (pick f ps) (omega arith)
pick_drop f (suc n) [] k = refl
pick_drop f (suc n) (p ∷ ps) k =
    let same_place : suc n + k ≡ suc (n + k) = omega arith in
    omega (arith, pick_drop f n ps k, ap (pick f (p ∷ ps)) same_place)

pub dropped : (f : ℕ → ℕ) (n : ℕ) (ps : List Part) → sum f (drop n ps) ≤ sum f ps
dropped f zero ps = omega arith
dropped f (suc n) [] = omega arith
dropped f (suc n) (p ∷ ps) = omega (arith, dropped f n ps)

-- ---- the first places

abbrev pub spread : (ℕ → ℕ) → List Part → ℕ → ℕ
spread f ps zero = 0
spread f ps (suc n) = spread f ps n + pick f ps n

spread_none : (f : ℕ → ℕ) (n : ℕ) → spread f [] n ≡ 0
spread_none f zero = refl
spread_none f (suc n) = omega (arith, spread_none f n)

spread_more : (f : ℕ → ℕ) (p : Part) (ps : List Part) (n : ℕ) → spread f (p ∷ ps) (suc n) ≡ of_part f p + spread f ps n
spread_more f p ps zero = omega arith
spread_more f p ps (suc n) = omega (arith, spread_more f p ps n)

pub spread_sum : (f : ℕ → ℕ) (ps : List Part) (n : ℕ) → spread f ps n ≤ sum f ps
spread_sum f [] n = omega (arith, spread_none f n)
spread_sum f (p ∷ ps) zero = omega arith
spread_sum f (p ∷ ps) (suc n) = omega (arith, spread_more f p ps n, spread_sum f ps n)

-- ---- two places, and three

pub one_place : (f : ℕ → ℕ) (ps : List Part) (i : ℕ) → pick f ps i ≤ sum f ps
one_place f ps i = omega (arith, split f ps i)

pub two_places : (f : ℕ → ℕ) (ps : List Part) (i j : ℕ) → (i ≡ j → ⊥) → pick f ps i + pick f ps j ≤ sum f ps
two_places f [] i j h = omega arith
two_places f (p ∷ ps) zero zero h = absurd (h refl)
two_places f (p ∷ ps) zero (suc j) h = omega (arith, one_place f ps j)
two_places f (p ∷ ps) (suc i) zero h = omega (arith, one_place f ps i)
two_places f (p ∷ ps) (suc i) (suc j) h = omega (arith, two_places f ps i j (λ e. h (ap suc e)))

pub three_places : (f : ℕ → ℕ) (ps : List Part) (i j k : ℕ) → (i ≡ j → ⊥) → (i ≡ k → ⊥) → (j ≡ k → ⊥) → pick f ps i + (pick f ps j + pick f ps k) ≤ sum f ps
three_places f [] i j k h g d = omega arith
three_places f (p ∷ ps) zero zero k h g d = absurd (h refl)
three_places f (p ∷ ps) zero (suc j) zero h g d = absurd (g refl)
three_places f (p ∷ ps) zero (suc j) (suc k) h g d = omega (arith, two_places f ps j k (λ e. d (ap suc e)))
three_places f (p ∷ ps) (suc i) zero zero h g d = absurd (d refl)
three_places f (p ∷ ps) (suc i) zero (suc k) h g d = omega (arith, two_places f ps i k (λ e. g (ap suc e)))
three_places f (p ∷ ps) (suc i) (suc j) zero h g d = omega (arith, two_places f ps i j (λ e. h (ap suc e)))
three_places f (p ∷ ps) (suc i) (suc j) (suc k) h g d = omega (arith, three_places f ps i j k (λ e. h (ap suc e)) (λ e. g (ap suc e)) (λ e. d (ap suc e)))

-- ---- marks

-- two marks lead to two places, where they lead to any
pub marks_apart : (f : ℕ → ℕ) (j k : TokenKind) (ps : List Part) → ((p : Part) → is_mark j p ≡ true → is_mark k p ≡ true → ⊥) → mark j ps ≡ mark k ps → pick f ps (suc (mark j ps)) ≡ 0
marks_apart f j k [] h e = refl
marks_apart f j k (p ∷ ps) h e = met (is_mark j p) (is_mark k p) refl refl e (λ d. marks_apart f j k ps h d)
  where
    met : (a b : Bool) → is_mark j p ≡ a → is_mark k p ≡ b → cond a 0 (suc (mark j ps)) ≡ cond b 0 (suc (mark k ps)) → (mark j ps ≡ mark k ps → pick f ps (suc (mark j ps)) ≡ 0) → pick f (p ∷ ps) (suc (cond a 0 (suc (mark j ps)))) ≡ 0
    met true true x y d rest = absurd (h p x y)
    met true false x y d rest = absurd (omega (arith, d))
    met false true x y d rest = absurd (omega (arith, d))
    met false false x y d rest = rest (omega (arith, d))

-- ---- the last part

-- the last of some parts is the last of all
pub longer_last : (f : ℕ → ℕ) (p : Part) (ps : List Part) → 1 ≤ length ps → pick f (p ∷ ps) (length (p ∷ ps) - 1) ≡ pick f ps (length ps - 1)
longer_last f p ps h = ap (pick f (p ∷ ps)) (let e : length (p ∷ ps) - 1 ≡ suc (length ps - 1) = omega arith in e)

pub last_drop : (f : ℕ → ℕ) (n : ℕ) (ps : List Part) → n < length ps → pick f (drop n ps) (length (drop n ps) - 1) ≡ pick f ps (length ps - 1)
last_drop f zero ps h = refl
last_drop f (suc n) [] h = absurd (omega arith)
last_drop f (suc n) (p ∷ ps) h = last_drop f n ps (omega arith) ∙ sym (longer_last f p ps (omega arith))

-- all behind a place but the last, and the last
pub front_last : (f : ℕ → ℕ) (n : ℕ) (ps : List Part) → sum f (front (drop n ps)) + pick f ps (length ps - 1) ≤ sum f ps
front_last f n ps = elim (cases_lt n (length ps)) [
  | inl h ↦ omega (arith, split f (drop n ps) (length (drop n ps) - 1), last_drop f n ps h, dropped f n ps)
  | inr g ↦ omega (arith, ap (λ (x : List Part). sum f (front x)) (drop_all n ps (omega arith)), one_place f ps (length ps - 1))
]

-- the mark before a guard or an ejector does not lead to the last part
pub mark_far : (k : TokenKind) (ps : List Part) → Guarded k (map slot ps) → suc (mark k ps) ≡ length ps - 1 → ⊥
mark_far k [] h e = omega (arith, e)
mark_far k (piece.Tree i ∷ ps) h e = mark_far k ps h (omega (arith, e))
mark_far k (piece.Token w ∷ ps) h e = met (same w.kind k) refl e (λ d. mark_far k ps h.1 d)
  where
    met : (b : Bool) → same w.kind k ≡ b → suc (cond b 0 (suc (mark k ps))) ≡ length (piece.Token w ∷ ps) - 1 → (suc (mark k ps) ≡ length ps - 1 → ⊥) → ⊥
    met true x d rest = omega (arith, d, h.0 x, length-map ps slot)
    met false x d rest = rest (omega (arith, d))
