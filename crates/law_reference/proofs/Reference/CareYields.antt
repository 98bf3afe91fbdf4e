-- An act that ends in a sound state, and gives what says something of itself.
use Rattle.def_machine.specs.State.{Vat, Done, Gives, Stops, Act, ◌>>=◌, ◌>>◌, and_then, give}
use Rattle.law_fate.proofs.Name.Facts.{Fact, Also, Holds}
use Rattle.law_fate.proofs.Name.Care.{Care, Sound, Ends, Gets, Fine, widen, rise, fine_give}

module _ {N : Type 0} (S : Care N) where
  abbrev pub Yields : {A : Type 0} → (A → Type 0) → Done N A → Type 0
  Yields Q (Gives a t) = Q a
  Yields Q other = Unit {0}

  pub record Fits {A : Type 0} (C : Fact N) (m : Act N A) (G : A → Fact N) (Q : A → Type 0) : Type 0 where
    pub after : (s : Vat N) → Sound S s → Holds (S.ok s) C → Ends S G s (m s) × Yields Q (m s)

  abbrev pub Whatever : {A : Type 0} → A → Type 0
  Whatever a = Unit {0}

  yields : {A : Type 0} (d : Done N A) → Yields Whatever d
  yields (Gives a t) = tt
  yields other = tt

  pub fits_fine : {A : Type 0} {C : Fact N} {m : Act N A} {G : A → Fact N} → Fine S C m G → Fits C m G Whatever
  fits_fine {m = m} f = record { after = λ s h c. (f.after s h c, yields (m s)) }

  pub fine_fits : {A : Type 0} {C : Fact N} {m : Act N A} {G : A → Fact N} {Q : A → Type 0} → Fits C m G Q → Fine S C m G
  fine_fits f = record { after = λ s h c. (f.after s h c).0 }

  bind_fits : {A B : Type 0} (C : Fact N) (P : A → Fact N) (H : B → Fact N) (Q : A → Type 0) (R : B → Type 0) (s : Vat N) (d : Done N A) (f : A → Act N B) → Holds (S.ok s) C → Ends S P s d → Yields Q d
      → ((a : A) → Q a → Fits (Also C (P a)) (f a) H R) → Ends S H s (and_then d f) × Yields R (and_then d f)
  unfolding and_then
  bind_fits C P H Q R s (Gives a t) f c e y k = let r = (k a y).after t e.1 (rise S s t e.0 C c, e.2) in (widen S H s t (f a t) e.0 r.0, r.1)
  bind_fits C P H Q R s (Stops z t) f c e y k = (tt, tt)
  bind_fits C P H Q R s other f c e y k = (e, tt)

  pub fits_bind : {A B : Type 0} {C : Fact N} {m : Act N A} {f : A → Act N B} {H : B → Fact N} {R : B → Type 0} (P : A → Fact N) (Q : A → Type 0) → Fits C m P Q → ((a : A) → Q a → Fits (Also C (P a)) (f a) H R) → Fits C (m >>= f) H R
  unfolding ◌>>=◌
  fits_bind {C = C} {m = m} {f = f} {H = H} {R = R} P Q h k = record { after = λ s g c. let e = h.after s g c in bind_fits C P H Q R s (m s) f c e.0 e.1 k }

  -- what follows is fine, by what the act gave
  pub bind_yielded : {A B : Type 0} {C : Fact N} {m : Act N A} {f : A → Act N B} {H : B → Fact N} (P : A → Fact N) (Q : A → Type 0) → Fits C m P Q → ((a : A) → Q a → Fine S (Also C (P a)) (f a) H) → Fine S C (m >>= f) H
  bind_yielded {H = H} P Q h k = fine_fits (fits_bind {H = H} {R = Whatever} P Q h (λ a y. fits_fine (k a y)))

  fits_left : {A : Type 0} {C D : Fact N} {m : Act N A} {H : A → Fact N} {R : A → Type 0} → Fits C m H R → Fits (Also C D) m H R
  fits_left h = record { after = λ s g c. h.after s g c.0 }

  pub fits_then : {A B : Type 0} {C : Fact N} {m : Act N A} {n : Act N B} {H : B → Fact N} {R : B → Type 0} (P : A → Fact N) → Fine S C m P → Fits C n H R → Fits C (m >> n) H R
  unfolding ◌>>◌
  fits_then {C = C} {m = m} {n = n} {H = H} {R = R} P h k = record { after = λ s g c. bind_fits C P H Whatever R s (m s) (λ _. n) c (h.after s g c) (yields (m s)) (λ a y. fits_left k) }

  pub fits_give : {A : Type 0} {C : Fact N} (a : A) {H : A → Fact N} {R : A → Type 0} → Gets S C (H a) → R a → Fits C (give a) H R
  unfolding give
  fits_give {C = C} a {H = H} g r = record { after = λ s h c. ((fine_give S {C = C} a {H = H} g).after s h c, r) }
