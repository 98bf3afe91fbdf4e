-- What stands in front of the first byte that fails a test is told by the whole.
use Rattle.std.proofs.Common.{◌≡◌, ℕ, ◌&&◌, eqb, Bool, true, false, List, [], ◌∷◌, ◌++◌, refl, sym, ◌∙◌, ap}
use Rattle.std.specs.List.{list_all}
use Rattle.std.proofs.lemmas.Bool.{and_parts, eq-eqb}

pub true_false : true ≡ false → ⊥
true_false e = cc

pub both_true : (a b : Bool) → a ≡ true → b ≡ true → (a && b) ≡ true
both_true true b h k = k
both_true false b h k = absurd (true_false (sym h))

pub head_is : (c d : ℕ) (cs ds : List ℕ) → ◌≡◌ {A = List ℕ} (c ∷ cs) (d ∷ ds) → c ≡ d
head_is c d cs ds e = cc

pub tail_is : (c d : ℕ) (cs ds : List ℕ) → ◌≡◌ {A = List ℕ} (c ∷ cs) (d ∷ ds) → cs ≡ ds
tail_is c d cs ds e = cc

pub cons_is : {A : Type 0} (c d : A) (cs ds : List A) → c ≡ d → cs ≡ ds → ◌≡◌ {A = List A} (c ∷ cs) (d ∷ ds)
cons_is c d cs ds e f = cc

pub two_marks : (x y : ℕ) → eqb x y ≡ false → x ≡ y → ⊥
two_marks x y differs e = true_false (sym (eq-eqb x y e) ∙ differs)

module _ (p : ℕ → Bool) where
  fails : (c x : ℕ) (xs : List ℕ) → p c ≡ false → c ≡ x → list_all p (x ∷ xs) ≡ true → ⊥
  fails c x xs is e h = true_false (sym (ap p e ∙ (and_parts (p x) (list_all p xs) h).0) ∙ is)

  pub rest_of : (x : ℕ) (xs : List ℕ) → list_all p (x ∷ xs) ≡ true → list_all p xs ≡ true
  rest_of x xs h = (and_parts (p x) (list_all p xs) h).1

  pub apart : (xs ys r q : List ℕ) (c d : ℕ) → p c ≡ false → p d ≡ false → list_all p xs ≡ true → list_all p ys ≡ true → xs ++ c ∷ r ≡ ys ++ d ∷ q → (xs ≡ ys) × (c ≡ d) × (r ≡ q)
  apart [] [] r q c d m n h k e = (refl, head_is c d r q e, tail_is c d r q e)
  apart [] (y ∷ ys) r q c d m n h k e = absurd (fails c y ys m (head_is c y r (ys ++ d ∷ q) e) k)
  apart (x ∷ xs) [] r q c d m n h k e = absurd (fails d x xs n (sym (head_is x d (xs ++ c ∷ r) q e)) h)
  apart (x ∷ xs) (y ∷ ys) r q c d m n h k e =
      let one = apart xs ys r q c d m n (rest_of x xs h) (rest_of y ys k) (tail_is x y (xs ++ c ∷ r) (ys ++ d ∷ q) e) in
      (cons_is x y xs ys (head_is x y (xs ++ c ∷ r) (ys ++ d ∷ q) e) one.0, one.1, one.2)
