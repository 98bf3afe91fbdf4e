-- Lists in which one element is put in the place of another.
use Rattle.std.proofs.Common.{◌≡◌, ◌⊎◌, inl, inr, ℕ, zero, suc, List, [], ◌∷◌, map, get_or, Some, refl, ap}
use Rattle.std.specs.Prelude.{slice_get, slice_set}

module _ {A : Type 0} where
  -- an element of a list in which one was put is that one or stood there before
  pub at_set : (xs : List A) (j i : ℕ) (x y : A) → slice_get (slice_set xs j x) i ≡ Some y → ((i ≡ j) × (y ≡ x)) ⊎ (slice_get xs i ≡ Some y)
  at_set [] j i x y e = inr e
  at_set (z ∷ zs) zero zero x y e = inl (refl, cc)
  at_set (z ∷ zs) zero (suc i) x y e = inr e
  at_set (z ∷ zs) (suc j) zero x y e = inr e
  at_set (z ∷ zs) (suc j) (suc i) x y e = elim (at_set zs j i x y e) as (λ _. ((suc i ≡ suc j) × (y ≡ x)) ⊎ (slice_get zs i ≡ Some y)) [ inl h ↦ inl (ap suc h.0, h.1) | inr h ↦ inr h ]

  -- what stands at a number, or what is had where nothing stands there
  pub got : (xs : List A) (v : ℕ) (d : A) (P : A → Type 0) → ((x : A) → slice_get xs v ≡ Some x → P x) → P d → P (get_or xs v d)
  got [] v d P f g = g
  got (x ∷ xs) zero d P f g = f x refl
  got (x ∷ xs) (suc v) d P f g = got xs v d P f g

module _ {A B : Type 0} (f : A → B) where
  pub map_set : (xs : List A) (v : ℕ) (x : A) → map f (slice_set xs v x) ≡ slice_set (map f xs) v (f x)
  map_set [] v x = refl
  map_set (y ∷ ys) zero x = refl
  map_set (y ∷ ys) (suc v) x = ap (λ (zs : List B). f y ∷ zs) (map_set ys v x)

  pub map_got : (xs : List A) (v : ℕ) (d : A) → get_or (map f xs) v (f d) ≡ f (get_or xs v d)
  map_got [] v d = refl
  map_got (y ∷ ys) zero d = refl
  map_got (y ∷ ys) (suc v) d = map_got ys v d
