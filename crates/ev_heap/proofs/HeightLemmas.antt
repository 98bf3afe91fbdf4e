-- A list is higher than each of its members.
use Rattle.std.proofs.Common.{◌≡◌, ℕ, zero, suc, ◌+◌, ◌<◌, ◌≤◌, List, [], ◌∷◌, length, get_or, fold, max, None, arith}
use Rattle.std.proofs.lemmas.Bool.Decides.{nat_tests}
use Rattle.ev_heap.specs.Contents.{within}

start-le : {X : Type 0} (f : X → ℕ) (a : ℕ) (xs : List X) → a ≤ fold (λ h x. max h (f x)) a xs
start-le f a [] = omega arith
start-le f a (x ∷ xs) = omega (arith, start-le f (max a (f x)) xs)

member-le : {X : Type 0} (f : X → ℕ) (a : ℕ) (xs : List X) (i : ℕ) (d : X) → i < length xs → f (get_or xs i d) ≤ fold (λ h x. max h (f x)) a xs
member-le f a [] i d lt = absurd (omega arith)
member-le f a (x ∷ xs) zero d lt = omega (arith, start-le f (max a (f x)) xs)
member-le f a (x ∷ xs) (suc i) d lt = member-le f (max a (f x)) xs i d (omega arith)

above : (limit n : ℕ) → limit < n → within limit n ≡ None
above limit n lt = grind (arith, nat_tests)

-- where a member is as high as the limit, the list is above it
pub too_high : {X : Type 0} (f : X → ℕ) (xs : List X) (i : ℕ) (d : X) (limit : ℕ) → i < length xs → limit ≤ f (get_or xs i d)
    → within limit (fold (λ h x. max h (f x)) 0 xs + 1) ≡ None
too_high f xs i d limit lt high = above limit _ (omega (arith, member-le f 0 xs i d lt))
