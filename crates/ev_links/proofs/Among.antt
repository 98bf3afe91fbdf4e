-- What stands in lists, and in sets of keys that an exact test tells apart.
use Rattle.std.proofs.Common.{◌≡◌, Bool, true, false, List, [], ◌∷◌, ◌++◌, reverse, refl, sym, ap, subst, ◌∙◌, inl, inr}
use Rattle.std.proofs.lemmas.List.{reverse-append}
use Rattle.std.specs.Prelude.{◌⊎◌, ◌↔◌, ◌||◌, if◌then◌else◌}
use Rattle.std.specs.List.{list_any}
use Rattle.indexmap.specs.IndexSet.{insert_key}
use Rattle.def_event.specs.Uses.{IsAmong}

module _ {A : Type 0} where
  pub among_left : (x : A) (xs ys : List A) → IsAmong x xs → IsAmong x (xs ++ ys)
  among_left x [] ys h = absurd h
  among_left x (z ∷ xs) ys (inl e) = inl e
  among_left x (z ∷ xs) ys (inr h) = inr (among_left x xs ys h)

  pub among_right : (x : A) (xs ys : List A) → IsAmong x ys → IsAmong x (xs ++ ys)
  among_right x [] ys h = h
  among_right x (z ∷ xs) ys h = inr (among_right x xs ys h)

  pub among_cases : (x : A) (xs ys : List A) → IsAmong x (xs ++ ys) → IsAmong x xs ⊎ IsAmong x ys
  among_cases x [] ys h = inr h
  among_cases x (z ∷ xs) ys (inl e) = inl (inl e)
  among_cases x (z ∷ xs) ys (inr h) = elim (among_cases x xs ys h) [ inl a ↦ inl (inr a) | inr b ↦ inr b ]

  pub among_push : (x y : A) (xs : List A) → IsAmong x (xs ++ y ∷ []) ↔ (IsAmong x xs ⊎ (y ≡ x))
  among_push x y xs = (λ h. elim (among_cases x xs (y ∷ []) h) [ inl a ↦ inl a | inr b ↦ elim b [ inl e ↦ inr e | inr n ↦ absurd n ] ], λ h. elim h [ inl a ↦ among_left x xs (y ∷ []) a | inr e ↦ among_right x xs (y ∷ []) (inl e) ])

  -- in a list from its end on
  pub among_reverse : (x : A) (xs : List A) → IsAmong x (reverse xs) ↔ IsAmong x xs
  among_reverse x [] = (λ h. h, λ h. h)
  among_reverse x (y ∷ ys) =
      let rest = among_reverse x ys in
      let push = among_push x y (reverse ys) in
      let turned : reverse (y ∷ ys) ≡ reverse ys ++ y ∷ [] = reverse-append (y ∷ []) ys in (
        λ h. elim (push.0 (subst (IsAmong x) turned h)) [ inl a ↦ inr (rest.0 a) | inr e ↦ inl e ],
        λ h. subst (IsAmong x) (sym turned) (push.1 (elim h [ inl e ↦ inr e | inr a ↦ inl (rest.1 a) ])),
      )

-- a test of keys that tells equality
pub record IsExact {K : Type 0} (eq : K → K → Bool) : Type 0 where
  pub same : (a b : K) → eq a b ≡ true → a ≡ b
  pub itself : (a : K) → eq a a ≡ true

or_cases : (a b : Bool) → (a || b) ≡ true → (a ≡ true) ⊎ (b ≡ true)
or_cases true b h = inl refl
or_cases false b h = inr h

or_left : (a b : Bool) → a ≡ true → (a || b) ≡ true
or_left true b h = refl
or_left false b h = absurd cc

or_right : (a b : Bool) → b ≡ true → (a || b) ≡ true
or_right true b h = refl
or_right false b h = h

module _ {A : Type 0} (p : A → Bool) where
  pub any_there : (xs : List A) → list_any p xs ≡ true → (x : A) × IsAmong x xs × (p x ≡ true)
  any_there [] h = absurd cc
  any_there (x ∷ xs) h = elim (or_cases (p x) (list_any p xs) h) [
    | inl e ↦ (x, inl refl, e)
    | inr e ↦ let r = any_there xs e in (r.0, inr r.1, r.2)
  ]

  pub any_so : (x : A) (xs : List A) → IsAmong x xs → p x ≡ true → list_any p xs ≡ true
  any_so x [] h e = absurd h
  any_so x (y ∷ xs) (inl s) e = or_left (p y) (list_any p xs) (ap p s ∙ e)
  any_so x (y ∷ xs) (inr h) e = or_right (p y) (list_any p xs) (any_so x xs h e)

module _ {K : Type 0} (eq : K → K → Bool) (exact : IsExact eq) where
  pub any_among : (k : K) (ks : List K) → list_any (eq k) ks ≡ true → IsAmong k ks
  any_among k [] h = absurd cc
  any_among k (x ∷ ks) h = elim (or_cases (eq k x) (list_any (eq k) ks) h) [ inl e ↦ inl (sym (exact.same k x e)) | inr e ↦ inr (any_among k ks e) ]

  pub among_any : (k : K) (ks : List K) → IsAmong k ks → list_any (eq k) ks ≡ true
  among_any k [] h = absurd h
  among_any k (x ∷ ks) (inl e) = or_left (eq k x) (list_any (eq k) ks) (subst (λ y. eq k y ≡ true) (sym e) (exact.itself k))
  among_any k (x ∷ ks) (inr h) = or_right (eq k x) (list_any (eq k) ks) (among_any k ks h)

  inserted_if : (b : Bool) (x k : K) (ks : List K) → (b ≡ true → IsAmong k ks) → IsAmong x (if b then ks else ks ++ k ∷ []) ↔ (IsAmong x ks ⊎ (k ≡ x))
  inserted_if true x k ks there = (λ h. inl h, λ h. elim h [ inl a ↦ a | inr e ↦ subst (λ y. IsAmong y ks) e (there refl) ])
  inserted_if false x k ks there = among_push x k ks

  -- what stands in a set after a key is added
  pub inserted : (x k : K) (ks : List K) → IsAmong x (insert_key eq ks k) ↔ (IsAmong x ks ⊎ (k ≡ x))
  inserted x k ks = inserted_if (list_any (eq k) ks) x k ks (any_among k ks)
