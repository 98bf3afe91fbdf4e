-- What holds exactly where something else does; lists and options over which a map goes.
use Rattle.std.proofs.Common.{◌≡◌, ◌==◌, ◌++◌, ◌⊎◌, ◌↔◌, ℕ, Bool, true, false, if◌then◌else◌, List, [], ◌∷◌, map, Option, Some, None, option_map, refl, sym, ap, subst, ◌∙◌, inl, inr}
use Rattle.std.proofs.lemmas.Bool.Decides.{Decides-eqb}
use Rattle.std.proofs.lemmas.List.{map-append}
use Rattle.def_event.specs.Uses.{IsAmong}

-- ---- the one exactly where the other

pub either : {A B C D : Type 0} → A ↔ B → C ↔ D → (A ⊎ C) ↔ (B ⊎ D)
either h k = (λ x. elim x [ inl a ↦ inl (h.0 a) | inr c ↦ inr (k.0 c) ], λ y. elim y [ inl b ↦ inl (h.1 b) | inr d ↦ inr (k.1 d) ])

pub both : {A B C D : Type 0} → A ↔ B → C ↔ D → (A × C) ↔ (B × D)
both h k = (λ x. (h.0 x.0, k.0 x.1), λ y. (h.1 y.0, k.1 y.1))

pub never : {A B : Type 0} → A ↔ B → (A → ⊥) ↔ (B → ⊥)
never h = (λ n b. n (h.1 b), λ n a. n (h.0 a))

-- of what is equal
pub alike : {A : Type 0} (P : A → Type 0) (x y : A) → x ≡ y → P x ↔ P y
alike P x y e = (subst P e, subst P (sym e))

pub through : {A B C : Type 0} → A ↔ B → B ↔ C → A ↔ C
through h k = (λ a. k.0 (h.0 a), λ c. h.1 (k.1 c))

pub turned : {A B : Type 0} → A ↔ B → B ↔ A
turned h = (h.1, h.0)

-- of each number
pub every : (P Q : ℕ → Type 0) → ((k : ℕ) → P k ↔ Q k) → ((k : ℕ) → P k) ↔ ((k : ℕ) → Q k)
every P Q h = (λ all k. (h k).0 (all k), λ all k. (h k).1 (all k))

-- ---- tests

agree : (a b : Bool) → (a ≡ true → b ≡ true) → (b ≡ true → a ≡ true) → a ≡ b
agree true b h k = sym (h refl)
agree false true h k = k refl
agree false false h k = refl

-- numbers that stay apart are told apart as they were
pub test_same : (f : ℕ → ℕ) → ((v w : ℕ) → f v ≡ f w → v ≡ w) → (v w : ℕ) → (f v == f w) ≡ (v == w)
test_same f apart v w =
    agree (f v == f w) (v == w) (λ h. (Decides-eqb v w).1 (apart v w ((Decides-eqb (f v) (f w)).0 h))) (λ h. (Decides-eqb (f v) (f w)).1 (ap f ((Decides-eqb v w).0 h)))

module _ {A B : Type 0} (g : A → B) where
  pub if_same : (c b : Bool) (x y : A) (u v : B) → b ≡ c → u ≡ g x → v ≡ g y → (if b then u else v) ≡ g (if c then x else y)
  if_same c b x y u v same e f = ap (λ (t : Bool). if t then u else v) same ∙ by c
    where
      by : (t : Bool) → (if t then u else v) ≡ g (if t then x else y)
      by true = e
      by false = f

  -- ---- lists

  -- what stands in the list is what the map makes of something
  pub image : (xs : List A) (y : B) → IsAmong y (map g xs) → (x : A) × IsAmong x xs × (g x ≡ y)
  image [] y h = absurd h
  image (x ∷ xs) y (inl e) = (x, inl refl, e)
  image (x ∷ xs) y (inr h) = let r = image xs y h in (r.0, inr r.1, r.2)

  pub among_map : (x : A) (xs : List A) → IsAmong x xs → IsAmong (g x) (map g xs)
  among_map x [] h = absurd h
  among_map x (y ∷ xs) (inl e) = inl (ap g e)
  among_map x (y ∷ xs) (inr h) = inr (among_map x xs h)

  -- where the map keeps things apart, nothing else comes to stand there
  pub among_same : ((x y : A) → g x ≡ g y → x ≡ y) → (x : A) (xs : List A) (ys : List B) → ys ≡ map g xs → IsAmong (g x) ys ↔ IsAmong x xs
  among_same apart x xs ys e = (
    λ h. let m = image xs (g x) (subst (IsAmong (g x)) e h) in subst (λ (y : A). IsAmong y xs) (apart m.0 x m.2) m.1,
    λ h. subst (IsAmong (g x)) (sym e) (among_map x xs h),
  )

  pub joined : (xs ys : List A) (us vs : List B) → us ≡ map g xs → vs ≡ map g ys → us ++ vs ≡ map g (xs ++ ys)
  joined xs ys us vs e f = ap (λ (ws : List B). ws ++ vs) e ∙ ap (λ (ws : List B). map g xs ++ ws) f ∙ sym (map-append g xs ys)

  -- ---- options

  mapped : (o : Option A) (y : B) → option_map g o ≡ Some y → (x : A) × (o ≡ Some x) × (g x ≡ y)
  mapped None y e = absurd cc
  mapped (Some x) y e = (x, refl, cc)

  pub some_of : (o : Option A) (p : Option B) (y : B) → p ≡ option_map g o → p ≡ Some y → (x : A) × (o ≡ Some x) × (g x ≡ y)
  some_of o p y same e = mapped o y (sym same ∙ e)

  pub some_to : (o : Option A) (p : Option B) (x : A) → p ≡ option_map g o → o ≡ Some x → p ≡ Some (g x)
  some_to o p x same e = same ∙ ap (option_map g) e

  -- where the map keeps things apart, the option has that exactly if it had it
  pub some_same : ((x y : A) → g x ≡ g y → x ≡ y) → (o : Option A) (p : Option B) (x : A) → p ≡ option_map g o → (p ≡ Some (g x)) ↔ (o ≡ Some x)
  some_same apart o p x same = (λ e. let m = some_of o p (g x) same e in m.1 ∙ ap (λ (y : A). Some y) (apart m.0 x m.2), some_to o p x same)
