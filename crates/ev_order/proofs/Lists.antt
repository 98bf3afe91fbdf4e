-- Reading a list at an index after a write, and after one more element.
use Rattle.std.specs.Prelude.{◌≡◌, ◌⊎◌, ℕ, List, [], ◌∷◌, ◌++◌, length, Some, slice_get}
use Rattle.std.proofs.Common.{refl, ap, suc, zero, inl, inr, ⊎_elim}
use Rattle.std.proofs.Math.ListN.{set}

-- what was written
pub get_written : {A : Type 0} (xs : List A) (i : ℕ) (y x : A) → slice_get xs i ≡ Some x → slice_get (set xs i y) i ≡ Some y
get_written [] zero y x h = cc
get_written [] (suc i) y x h = cc
get_written (z ∷ xs) zero y x h = refl
get_written (z ∷ xs) (suc i) y x h = get_written xs i y x h

-- what was not
pub get_unwritten : {A : Type 0} (xs : List A) (i j : ℕ) (y : A) → (j ≡ i → ⊥) → slice_get (set xs i y) j ≡ slice_get xs j
get_unwritten [] zero j y no_write = refl
get_unwritten [] (suc i) j y no_write = refl
get_unwritten (z ∷ xs) zero zero y no_write = absurd (no_write refl)
get_unwritten (z ∷ xs) zero (suc j) y no_write = refl
get_unwritten (z ∷ xs) (suc i) zero y no_write = refl
get_unwritten (z ∷ xs) (suc i) (suc j) y no_write = get_unwritten xs i j y (λ e. no_write (ap suc e))

-- what was there before one more came
pub get_front : {A : Type 0} (xs ys : List A) (i : ℕ) (x : A) → slice_get xs i ≡ Some x → slice_get (xs ++ ys) i ≡ Some x
get_front [] ys zero x h = cc
get_front [] ys (suc i) x h = cc
get_front (z ∷ xs) ys zero x h = h
get_front (z ∷ xs) ys (suc i) x h = get_front xs ys i x h

-- what came
pub get_end : {A : Type 0} (xs : List A) (y : A) → slice_get (xs ++ y ∷ []) (length xs) ≡ Some y
get_end [] y = refl
get_end (z ∷ xs) y = get_end xs y

-- what is there with one more is that one or was there
pub get_either : {A : Type 0} (xs : List A) (y : A) (i : ℕ) (x : A) → slice_get (xs ++ y ∷ []) i ≡ Some x → (slice_get xs i ≡ Some x) ⊎ ((i ≡ length xs) × (x ≡ y))
get_either [] y zero x h = inr (refl, cc)
get_either [] y (suc zero) x h = cc
get_either [] y (suc (suc i)) x h = cc
get_either (z ∷ xs) y zero x h = inl h
get_either (z ∷ xs) y (suc i) x h = ⊎_elim (λ (there : slice_get xs i ≡ Some x). inl there) (λ (new : (i ≡ length xs) × (x ≡ y)). inr (ap suc new.0, new.1)) (get_either xs y i x h)
