-- Lines that are joined, and lines without those at the end that are empty.
use Rattle.std.proofs.Common.{◌≡◌, ◌≢◌, ◌<◌, ◌≤◌, ◌-◌, ℕ, zero, suc, List, [], ◌∷◌, ◌++◌, length, take, drop, get_or, Option, Some, None, cond, eqb, refl, sym, ap, subst, ◌∙◌, append-nil, arith, inl, inr}
use Rattle.std.specs.Prelude.{MatchOption}
use Rattle.std.proofs.lemmas.Bool.{cases_Bool, eqb-true}
use Rattle.std.proofs.lemmas.Grind.{common_steps}
use denote.Bor.{Bor}
use Rattle.ev_make_text.specs.Bars.{listed}
use Rattle.std.specs.List.{flat_map, join_with_byte}
use Rattle.def_vats.specs.Reading.{behind_bar, kept, trimmed}

-- joined parts are the first, and each other behind the byte between two
pub join_is : (c : ℕ) (part : List ℕ) (parts : List (List ℕ)) → join_with_byte c (part ∷ parts) ≡ part ++ flat_map (λ p. c ∷ p) parts
join_is c part [] = sym (append-nil part)
join_is c part (next ∷ parts) = ap (λ rest. part ++ c ∷ rest) (join_is c next parts)

-- an empty line at the end is not kept
pub trimmed_empty : (lines : List (List ℕ)) → trimmed (lines ++ [] ∷ []) ≡ trimmed lines
trimmed_empty [] = refl
trimmed_empty (line ∷ lines) = ap (kept line) (trimmed_empty lines)

kept_more : (line next : List ℕ) (lines : List (List ℕ)) → kept line (next ∷ lines) ≡ line ∷ next ∷ lines
kept_more [] next lines = refl
kept_more (c ∷ line) next lines = refl

-- up to a line at the end that is not empty all are kept
pub trimmed_full : (lines : List (List ℕ)) (last : List ℕ) → 0 < length last → trimmed (lines ++ last ∷ []) ≡ lines ++ last ∷ []
trimmed_full [] [] h = absurd (omega arith)
trimmed_full [] (c ∷ last) h = refl
trimmed_full (line ∷ []) last h = ap (kept line) (trimmed_full [] last h) ∙ kept_more line last []
trimmed_full (line ∷ next ∷ lines) last h = ap (kept line) (trimmed_full (next ∷ lines) last h) ∙ kept_more line next (lines ++ last ∷ [])

whole : (n : ℕ) (parts : List (List ℕ)) → n ≡ length parts → take n parts ≡ parts
whole n parts h = grind (arith, common_steps)

-- the same of parts whose first is taken off
pub joined_whole : (c : ℕ) (parts : List (List ℕ)) (first text : List ℕ) → 1 ≤ length parts → first ≡ get_or parts 0 first
    → text ≡ first ++ flat_map (λ p. c ∷ p) (take (length parts - 1) (drop 1 parts)) → text ≡ join_with_byte c parts
joined_whole c [] first text h is e = absurd (omega arith)
joined_whole c (part ∷ parts) first text h is e =
    e ∙ ap (λ ps. first ++ flat_map (λ p. c ∷ p) ps) (whole (length (part ∷ parts) - 1) parts (omega arith)) ∙ ap (λ x. x ++ flat_map (λ p. c ∷ p) parts) is ∙ sym (join_is c part parts)

-- what stands behind a bar, by whether the line begins with one
pub bar : (line : List ℕ) (r : Option (Bor (List ℕ))) → MatchOption r ((rest : List ℕ) → line ≢ 124 ∷ rest) (λ x. line ≡ 124 ∷ x.now) → listed (λ part. part.now) r ≡ behind_bar line
bar line (Some x) h = rw h refl
bar [] None h = refl
bar (c ∷ line) None h = elim (cases_Bool (eqb c 124)) [
  | inl e ↦ absurd (h line (ap (λ x. x ∷ line) (eqb-true c 124 e)))
  | inr e ↦ sym (ap (λ t. cond t (line ∷ []) []) e)
]

-- a front that is one line longer
front_end : (m : ℕ) (lines : List (List ℕ)) (last : List ℕ) → m < length lines → last ≡ get_or lines m last → take (suc m) lines ≡ take m lines ++ last ∷ []
front_end m [] last h is = absurd (omega arith)
front_end zero (line ∷ lines) last h is = ap (λ x. x ∷ []) (sym is)
front_end (suc m) (line ∷ lines) last h is = ap (λ xs. line ∷ xs) (front_end m lines last (omega arith) is)

some : (last : List ℕ) → (last ≡ [] → ⊥) → 0 < length last
some [] h = absurd (h refl)
some (c ∷ last) h = omega arith

-- an empty line at the end of a front is not kept
pub drops_empty : (n : ℕ) (lines : List (List ℕ)) (last : List ℕ) → 0 < n → n ≤ length lines → last ≡ get_or lines (n - 1) last → last ≡ [] → trimmed (take (n - 1) lines) ≡ trimmed (take n lines)
drops_empty zero lines last p h is e = absurd (omega arith)
drops_empty (suc m) lines last p h is e =
    let k : suc m - 1 ≡ m = omega arith in
    let at : last ≡ get_or lines m last = subst (λ i. last ≡ get_or lines i last) k is in
    ap (λ i. trimmed (take i lines)) k
    ∙ sym (ap trimmed (front_end m lines last (omega arith) at ∙ ap (λ x. take m lines ++ x ∷ []) e) ∙ trimmed_empty (take m lines))

-- a front whose last line is not empty is kept
pub stays_full : (n : ℕ) (lines : List (List ℕ)) (last : List ℕ) → 0 < n → n ≤ length lines → last ≡ get_or lines (n - 1) last → (last ≡ [] → ⊥) → take n lines ≡ trimmed (take n lines)
stays_full zero lines last p h is e = absurd (omega arith)
stays_full (suc m) lines last p h is e =
    let k : suc m - 1 ≡ m = omega arith in
    let at : last ≡ get_or lines m last = subst (λ i. last ≡ get_or lines i last) k is in
    let front = front_end m lines last (omega arith) at in
    front ∙ sym (ap trimmed front ∙ trimmed_full (take m lines) last (some last e))
