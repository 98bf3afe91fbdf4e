-- What stands at a position, among the old ones or behind them.
use Rattle.std.proofs.Common.{◌≡◌, ℕ, zero, suc, ◌-◌, ◌<◌, ◌≤◌, nat_lt, ⊎_elim, Bool, true, false, cond, List, [], ◌∷◌, ◌++◌, length, slice_get, refl, sym, ap, ◌∙◌, ◌==◌, arith}
use Rattle.std.proofs.lemmas.List.{length-append}
use Rattle.std.proofs.lemmas.Bool.{eqb-true, eq-eqb, cases_lt}
use Rattle.std.proofs.lemmas.Bool.Decides.{nat_tests}

among_old : {X : Type 0} (xs ys : List X) (p : ℕ) → p < length xs → slice_get xs p ≡ slice_get (xs ++ ys) p
among_old [] ys p lt = absurd (omega arith)
among_old (x ∷ xs) ys zero lt = refl
among_old (x ∷ xs) ys (suc p) lt = among_old xs ys p (omega arith)

among_new : {X : Type 0} (xs ys : List X) (p : ℕ) → length xs ≤ p → slice_get ys (p - length xs) ≡ slice_get (xs ++ ys) p
among_new [] ys p le = let e : p - 0 ≡ p = omega arith in ap (slice_get ys) e
among_new (x ∷ xs) ys zero le = absurd (omega arith)
among_new (x ∷ xs) ys (suc p) le = let e : suc p - suc (length xs) ≡ p - length xs = omega arith in ap (slice_get ys) e ∙ among_new xs ys p (omega arith)

pub lt_true : (a b : ℕ) → a < b → nat_lt a b ≡ true
lt_true a b h = grind (arith, nat_tests)

le_false : (a b : ℕ) → b ≤ a → nat_lt a b ≡ false
le_false a b h = grind (arith, nat_tests)

pub import_is : {X : Type 0} (xs ys : List X) (p : ℕ) → cond (nat_lt p (length xs)) (slice_get xs p) (slice_get ys (p - length xs)) ≡ slice_get (xs ++ ys) p
import_is xs ys p = ⊎_elim
    (λ (lt : p < length xs). ap (λ (b : Bool). cond b (slice_get xs p) (slice_get ys (p - length xs))) (lt_true p (length xs) lt) ∙ among_old xs ys p lt)
    (λ (le : length xs ≤ p). ap (λ (b : Bool). cond b (slice_get xs p) (slice_get ys (p - length xs))) (le_false p (length xs) le) ∙ among_new xs ys p le)
    (cases_lt p (length xs))

same : (b c : Bool) → (b ≡ true → c ≡ true) → (c ≡ true → b ≡ true) → b ≡ c
same true c f g = sym (f refl)
same false true f g = g refl
same false false f g = refl

next_is : {X : Type 0} (xs ys : List X) (p : ℕ) → p < length xs → false ≡ (p == length (xs ++ ys))
next_is xs ys p lt = same false (p == length (xs ++ ys)) (λ e. absurd cc) (λ e. let i = eqb-true p (length (xs ++ ys)) e in let n = length-append xs ys in absurd (omega (arith, i, n, lt)))

next_after : {X : Type 0} (xs ys : List X) (p : ℕ) → length xs ≤ p → ((p - length xs) == length ys) ≡ (p == length (xs ++ ys))
next_after xs ys p le =
    let n = length-append xs ys in
    same ((p - length xs) == length ys) (p == length (xs ++ ys))
    (λ e. let i = eqb-true (p - length xs) (length ys) e in eq-eqb p (length (xs ++ ys)) (omega (arith, i, n, le)))
    (λ e. let i = eqb-true p (length (xs ++ ys)) e in eq-eqb (p - length xs) (length ys) (omega (arith, i, n, le)))

pub place_is : {X : Type 0} (xs ys : List X) (p : ℕ) → cond (nat_lt p (length xs)) false ((p - length xs) == length ys) ≡ (p == length (xs ++ ys))
place_is xs ys p = ⊎_elim
    (λ (lt : p < length xs). ap (λ (b : Bool). cond b false ((p - length xs) == length ys)) (lt_true p (length xs) lt) ∙ next_is xs ys p lt)
    (λ (le : length xs ≤ p). ap (λ (b : Bool). cond b false ((p - length xs) == length ys)) (le_false p (length xs) le) ∙ next_after xs ys p le)
    (cases_lt p (length xs))
