-- Values one for one.
use Rattle.std.proofs.Common.{◌≡◌, ◌<◌, ◌≤◌, ◌+◌, ℕ, Bool, true, false, List, [], ◌∷◌, length, get_or, drop, refl, sym, ◌∙◌, ap, add-one, drop-cons, arith}
use Rattle.std.specs.Prelude.{if◌then◌else◌}
use Rattle.std.proofs.lemmas.Grind.{common_steps}
use Rattle.def_event.specs.declared.shown.Shown.{Shown}
use Rattle.def_why.specs.Values.{each_may_be, may_be}

next : {A : Type 0} (d : A) (xs : List A) (i : ℕ) → i < length xs → drop i xs ≡ get_or xs i d ∷ drop (i + 1) xs
next d xs i lt = rw add-one (drop-cons xs i d lt)

-- the next item
pub next_item : {A : Type 0} (x : A) (xs : List A) (i : ℕ) → i < length xs → x ≡ get_or xs i x → drop i xs ≡ x ∷ drop (i + 1) xs
next_item x xs i lt is = next x xs i lt ∙ ap (λ z. z ∷ drop (i + 1) xs) (sym is)

pub nothing_behind : {A : Type 0} (xs : List A) (i : ℕ) → length xs ≤ i → drop i xs ≡ []
nothing_behind xs i h = grind (arith, common_steps)

one_by_one : (x y : Shown) (xs ys : List Shown) (i : ℕ) → i < length xs → i < length ys → x ≡ get_or xs i x → y ≡ get_or ys i y
    → each_may_be (drop i xs) (drop i ys) ≡ (if may_be x y then each_may_be (drop (i + 1) xs) (drop (i + 1) ys) else false)
one_by_one x y xs ys i lt lt' is is' =
    ap (λ zs. each_may_be zs (drop i ys)) (next_item x xs i lt is) ∙ ap (λ zs. each_may_be (x ∷ drop (i + 1) xs) zs) (next_item y ys i lt' is')

pub goes_on : (x y : Shown) (xs ys : List Shown) (i : ℕ) (b : Bool) → i < length xs → i < length ys → x ≡ get_or xs i x → y ≡ get_or ys i y → b ≡ may_be x y → b ≡ true
    → each_may_be (drop i xs) (drop i ys) ≡ each_may_be xs ys → each_may_be (drop (i + 1) xs) (drop (i + 1) ys) ≡ each_may_be xs ys
goes_on x y xs ys i b lt lt' is is' e h so_far =
    sym (one_by_one x y xs ys i lt lt' is is' ∙ ap (λ c. if c then each_may_be (drop (i + 1) xs) (drop (i + 1) ys) else false) (sym e ∙ h)) ∙ so_far

pub ends : (x y : Shown) (xs ys : List Shown) (i : ℕ) (b : Bool) → i < length xs → i < length ys → x ≡ get_or xs i x → y ≡ get_or ys i y → b ≡ may_be x y → b ≡ false
    → each_may_be (drop i xs) (drop i ys) ≡ each_may_be xs ys → false ≡ each_may_be xs ys
ends x y xs ys i b lt lt' is is' e h so_far =
    sym (one_by_one x y xs ys i lt lt' is is' ∙ ap (λ c. if c then each_may_be (drop (i + 1) xs) (drop (i + 1) ys) else false) (sym e ∙ h)) ∙ so_far

pub all_may : (xs ys : List Shown) (i : ℕ) → length xs ≤ i → each_may_be (drop i xs) (drop i ys) ≡ each_may_be xs ys → true ≡ each_may_be xs ys
all_may xs ys i past so_far = sym (ap (λ zs. each_may_be zs (drop i ys)) (nothing_behind xs i past)) ∙ so_far
