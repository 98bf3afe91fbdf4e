-- A position among those that are there and those that are new.
use Rattle.std.proofs.Common.{◌≡◌, ℕ, zero, suc, ◌-◌, List, [], ◌∷◌, ◌++◌, map, length, slice_get, option_map, Some, None, refl, ap, arith}

-- what is there stands in front
pub stands_first : {A B : Type 0} (f : A → B) (xs : List A) (ys : List B) (n : ℕ) (x : A) → slice_get xs n ≡ Some x → slice_get (map f xs ++ ys) n ≡ Some (f x)
stands_first f [] ys n x e = absurd cc
stands_first f (y ∷ xs) ys zero x e = ap (option_map f) e
stands_first f (y ∷ xs) ys (suc n) x e = stands_first f xs ys n x e

-- and what is new behind it
pub stands_behind : {A B : Type 0} (f : A → B) (xs : List A) (ys : List B) (n : ℕ) → slice_get xs n ≡ None → slice_get (map f xs ++ ys) n ≡ slice_get ys (n - length xs)
stands_behind f [] ys n e = let same : n - 0 ≡ n = omega arith in rw same refl
stands_behind f (y ∷ xs) ys zero e = absurd cc
stands_behind f (y ∷ xs) ys (suc n) e = let less : suc n - suc (length xs) ≡ n - length xs = omega arith in rw less (stands_behind f xs ys n e)
