-- Whether two nouns are the same.
use Rattle.std.proofs.Common.{◌≡◌, Bool, true, false, ◌&&◌, List, [], ◌∷◌, ◌++◌, refl, sym, ◌∙◌, ◌⊎◌, inl, inr}
use Rattle.std.specs.Prelude.{bytes_eq}
use Rattle.std.proofs.lemmas.Bool.{both_ways}
use Rattle.std.proofs.lemmas.Slice.Eq.{bytes_eq-Decides}
use Rattle.def_machine.specs.Values.{Words}
use Rattle.def_machine.specs.Free.{same_words, has_words}

and_then : (b p q : Bool) → p ≡ q → (elim b [ true ↦ p | false ↦ false ]) ≡ b && q
and_then true p q e = e
and_then false p q e = refl

same_bytes : (a b : Words) → same_words a b ≡ bytes_eq a b
unfolding same_words
same_bytes [] [] = refl
same_bytes [] (y ∷ ys) = refl
same_bytes (x ∷ xs) [] = refl
same_bytes (x ∷ xs) (y ∷ ys) = and_then _ _ _ (same_bytes xs ys)

pub same_is : (a b : Words) → same_words a b ≡ true → a ≡ b
same_is a b e = (bytes_eq-Decides a b).0 (sym (same_bytes a b) ∙ e)

pub is_same : (a b : Words) → a ≡ b → same_words a b ≡ true
is_same a b e = same_bytes a b ∙ (bytes_eq-Decides a b).1 e

pub other_not : (a b : Words) → same_words a b ≡ false → a ≡ b → ⊥
other_not a b e f = both_ways _ e (is_same a b f)

pub not_same : (a b : Words) → (a ≡ b → ⊥) → same_words a b ≡ false
not_same a b f = go (same_words a b) refl
  where
    go : (t : Bool) → same_words a b ≡ t → same_words a b ≡ false
    go true e = absurd (f (same_is a b e))
    go false e = e

pub bytes_is : (a b : Words) → bytes_eq a b ≡ true → a ≡ b
bytes_is a b e = (bytes_eq-Decides a b).0 e

pub is_bytes : (a b : Words) → a ≡ b → bytes_eq a b ≡ true
is_bytes a b e = (bytes_eq-Decides a b).1 e

pub bytes_not : (a b : Words) → bytes_eq a b ≡ false → a ≡ b → ⊥
bytes_not a b e f = both_ways _ e (is_bytes a b f)

pub same_or_not : (a b : Words) → (a ≡ b) ⊎ (a ≡ b → ⊥)
same_or_not a b = go (bytes_eq a b) refl
  where
    go : (t : Bool) → bytes_eq a b ≡ t → (a ≡ b) ⊎ (a ≡ b → ⊥)
    go true e = inl (bytes_is a b e)
    go false e = inr (bytes_not a b e)

-- ---- a word among others

pub has_more : (x y : Words) (ys : List Words) → has_words x ys ≡ true → has_words x (y ∷ ys) ≡ true
unfolding has_words
has_more x y ys h = go (same_words x y)
  where
    go : (t : Bool) → ◌≡◌ {A = Bool} (elim t [ true ↦ true | false ↦ has_words x ys ]) true
    go true = refl
    go false = h

pub has_first : (x : Words) (ys : List Words) → has_words x (x ∷ ys) ≡ true
unfolding has_words
has_first x ys = go (same_words x x) (is_same x x refl)
  where
    go : (t : Bool) → t ≡ true → ◌≡◌ {A = Bool} (elim t [ true ↦ true | false ↦ has_words x ys ]) true
    go true e = refl
    go false e = absurd (both_ways false refl e)

pub has_either : (x y : Words) (ys : List Words) → has_words x (y ∷ ys) ≡ true → (x ≡ y) ⊎ (has_words x ys ≡ true)
unfolding has_words
has_either x y ys h = go (same_words x y) refl h
  where
    go : (t : Bool) → same_words x y ≡ t → ◌≡◌ {A = Bool} (elim t [ true ↦ true | false ↦ has_words x ys ]) true → (x ≡ y) ⊎ (has_words x ys ≡ true)
    go true e g = inl (same_is x y e)
    go false e g = inr g

pub has_left : (x : Words) (ys zs : List Words) → has_words x ys ≡ true → has_words x (ys ++ zs) ≡ true
unfolding has_words
has_left x [] zs h = absurd (both_ways false refl h)
has_left x (y ∷ ys) zs h = go (has_either x y ys h) (has_left x ys zs)
  where
    go : (x ≡ y) ⊎ (has_words x ys ≡ true) → (has_words x ys ≡ true → has_words x (ys ++ zs) ≡ true) → has_words x (y ∷ (ys ++ zs)) ≡ true
    go (inl e) k = rw e (has_first y (ys ++ zs))
    go (inr g) k = has_more x y (ys ++ zs) (k g)

pub has_end : (x : Words) (ys : List Words) → has_words x (ys ++ x ∷ []) ≡ true
has_end x [] = has_first x []
has_end x (y ∷ ys) = has_more x y (ys ++ x ∷ []) (has_end x ys)
