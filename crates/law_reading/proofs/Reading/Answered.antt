-- What a parser of the grammar answers is one thing.
use Rattle.std.proofs.Common.{◌≡◌, ℕ, zero, suc, List, [], ◌∷◌, ◌++◌, ◌<◌, ◌≤◌, ◌⊎◌, inl, inr, take, drop, refl, sym, ◌∙◌, subst, ap, arith, append_assoc, take-append-drop}
use Rattle.std.proofs.lemmas.Bool.{cases_lt}
use Rattle.def_syntax.specs.declared.syntax.Word.{Word}
use Rattle.def_syntax.specs.Grammar.{Tree, SpellsProgram}
use Rattle.def_syntax.specs.Heights.{height, most_height, IsFirstHigh, IsLow, Answer, tree, no_spelling, too_nested}
use Rattle.def_syntax.specs.Exact.{Viable, IsFirstBad, IsAnswer}
use Rattle.def_syntax.proofs.Verdicts.{one_tree}

take-take : (n l : ℕ) (ts : List Word) → n ≤ l → take n (take l ts) ≡ take n ts
take-take zero l ts h = refl
take-take (suc n) zero ts h = absurd (omega (arith, h))
take-take (suc n) (suc l) [] h = refl
take-take (suc n) (suc l) (t ∷ ts) h = ap (λ (x : List Word). t ∷ x) (take-take n l ts (omega (arith, h)))

-- what goes on behind more tokens goes on behind fewer
fewer : (ts : List Word) (n l : ℕ) → n ≤ l → (after : List Word) → (rest : List Word) × (take n ts ++ rest ≡ take l ts ++ after)
fewer ts n l h after = (
  drop n (take l ts) ++ after,
  sym (append_assoc (take n ts) (drop n (take l ts)) after) ∙ ap (λ (x : List Word). x ++ after) (ap (λ (x : List Word). x ++ drop n (take l ts)) (sym (take-take n l ts h)) ∙ take-append-drop n (take l ts)),
)

viable_fewer : (ts : List Word) (n l : ℕ) → n ≤ l → Viable (take l ts) → Viable (take n ts)
viable_fewer ts n l h v =
    let r = fewer ts n l h v.0 in
    (r.0, v.1, subst (λ (x : List Word). SpellsProgram v.1 x) (sym r.1) v.2)

low_fewer : (ts : List Word) (n l : ℕ) → n ≤ l → IsLow (take l ts) → IsLow (take n ts)
low_fewer ts n l h v =
    let r = fewer ts n l h v.0 in
    (r.0, v.1, subst (λ (x : List Word). SpellsProgram v.1 x) (sym r.1) v.2, v.3)

no_earlier_bad : (ts : List Word) (k l : ℕ) → IsFirstBad ts k → IsFirstBad ts l → k < l → ⊥
no_earlier_bad ts k l a b h = a.at (omega (arith, h, b.within)) (viable_fewer ts (suc k) l (omega (arith, h)) b.before)

no_earlier_high : (ts : List Word) (k l : ℕ) → IsFirstHigh ts k → IsFirstHigh ts l → k < l → ⊥
no_earlier_high ts k l a b h = a.at (low_fewer ts (suc k) l (omega (arith, h)) b.before)

neither : (k l : ℕ) → (k < l → ⊥) → (l < k → ⊥) → k ≡ l
neither k l a b = by_order (cases_lt k l) (cases_lt l k)
  where
    by_order : (k < l ⊎ l ≤ k) → (l < k ⊎ k ≤ l) → k ≡ l
    by_order (inl h) o = absurd (a h)
    by_order (inr h) (inl g) = absurd (b g)
    by_order (inr h) (inr g) = omega (arith, h, g)

one_bad : (ts : List Word) (k l : ℕ) → IsFirstBad ts k → IsFirstBad ts l → k ≡ l
one_bad ts k l a b = neither k l (no_earlier_bad ts k l a b) (no_earlier_bad ts l k b a)

one_high : (ts : List Word) (k l : ℕ) → IsFirstHigh ts k → IsFirstHigh ts l → k ≡ l
one_high ts k l a b = neither k l (no_earlier_high ts k l a b) (no_earlier_high ts l k b a)

-- a tree that is spelled is not both low enough and too high
not_both : (ts : List Word) (u w : Tree) → SpellsProgram u ts → SpellsProgram w ts → height u ≤ most_height → most_height < height w → ⊥
not_both ts u w a b low high =
    let k : height w ≤ most_height = subst (λ (x : Tree). height x ≤ most_height) (one_tree ts u w a b) low in
    absurd (omega (arith, k, high))

pub one_answer : (ts : List Word) (a b : Answer) → IsAnswer ts a → IsAnswer ts b → a ≡ b
one_answer ts (tree u) (tree w) x y = ap tree (one_tree ts u w x.0 y.0)
one_answer ts (tree u) (no_spelling k) x y = absurd (y.none u x.0)
one_answer ts (tree u) (too_nested k) x y = absurd (not_both ts u y.0 x.0 y.1 x.1 y.2)
one_answer ts (no_spelling k) (tree w) x y = absurd (x.none w y.0)
one_answer ts (no_spelling k) (no_spelling l) x y = ap no_spelling (one_bad ts k l x y)
one_answer ts (no_spelling k) (too_nested l) x y = absurd (x.none y.0 y.1)
one_answer ts (too_nested k) (tree w) x y = absurd (not_both ts w x.0 y.0 x.1 y.1 x.2)
one_answer ts (too_nested k) (no_spelling l) x y = absurd (y.none x.0 x.1)
one_answer ts (too_nested k) (too_nested l) x y = ap too_nested (one_high ts k l x.3 y.3)
