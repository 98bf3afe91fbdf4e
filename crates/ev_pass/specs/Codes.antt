-- A code of values as they pass, by which a proof tells them apart: the steps that build them on two stacks.
use Rattle.std.specs.Prelude.{◌≡◌, ◌⊎◌, ℕ, zero, suc, List, [], ◌∷◌, refl}
use Rattle.std.specs.Coded.{Coded, code_by, coded_ℕ, coded_list, coded×, coded⊎}
use Rattle.std.proofs.Common.{◌∙◌, ap, inl, inr}
use Rattle.ev_base.specs.declared.values.Value.{Value}
use Rattle.ev_base.specs.declared.values.Value.TheVariants as held
use Rattle.ev_pass.specs.Notes.{Parcel, Parcels, Plain, Gift, Many, NoMore, More}

-- data, a gift, or what joins those that stand: none yet (0), a list (1), one more (2)
abbrev pub Build : Type 0
Build = Value ⊎ ((ℕ × ℕ) ⊎ ℕ)

abbrev first : List Parcel → Parcel
first [] = Plain held.Null
first (p ∷ ps) = p

abbrev top : List Parcels → Parcels
top [] = NoMore
top (ps ∷ pss) = ps

abbrev below : {A : Type 0} → List A → List A
below [] = []
below (x ∷ xs) = xs

-- what the first stack has on top once these are done
abbrev pub built : List Build → List Parcel → List Parcels → List Parcel × List Parcels
built [] xs yss = (xs, yss)
built (inl v ∷ k) xs yss = built k (Plain v ∷ xs) yss
built (inr (inl g) ∷ k) xs yss = built k (Gift g.0 g.1 ∷ xs) yss
built (inr (inr zero) ∷ k) xs yss = built k xs (NoMore ∷ yss)
built (inr (inr (suc zero)) ∷ k) xs yss = built k (Many (top yss) ∷ xs) (below yss)
built (inr (inr (suc (suc n))) ∷ k) xs yss = built k (below xs) (More (first xs) (top yss) ∷ below yss)

abbrev mutual
  pub builds : Parcel → List Build → List Build
  builds (Plain v) k = inl v ∷ k
  builds (Gift h i) k = inr (inl (h, i)) ∷ k
  builds (Many ps) k = all_build ps (inr (inr 1) ∷ k)

  pub all_build : Parcels → List Build → List Build
  all_build NoMore k = inr (inr 0) ∷ k
  all_build (More p ps) k = all_build ps (builds p (inr (inr 2) ∷ k))

mutual
  pub builds_it : (p : Parcel) (k : List Build) (xs : List Parcel) (yss : List Parcels) → built (builds p k) xs yss ≡ built k (p ∷ xs) yss
  builds_it (Plain v) k xs yss = refl
  builds_it (Gift h i) k xs yss = refl
  builds_it (Many ps) k xs yss = builds_all ps (inr (inr 1) ∷ k) xs yss

  pub builds_all : (ps : Parcels) (k : List Build) (xs : List Parcel) (yss : List Parcels) → built (all_build ps k) xs yss ≡ built k xs (ps ∷ yss)
  builds_all NoMore k xs yss = refl
  builds_all (More p ps) k xs yss = builds_all ps (builds p (inr (inr 2) ∷ k)) xs yss ∙ builds_it p (inr (inr 2) ∷ k) xs (ps ∷ yss)

abbrev pub parcel_code : Coded Value → Coded Parcel
parcel_code v =
    code_by (List Build) (coded_list (coded⊎ v (coded⊎ (coded× coded_ℕ coded_ℕ) coded_ℕ))) (λ p. builds p []) (λ k. first (built k [] []).0) (λ p. ap (λ (s : List Parcel × List Parcels). first s.0) (builds_it p [] [] []))

abbrev pub parcels_code : Coded Value → Coded Parcels
parcels_code v =
    code_by (List Build) (coded_list (coded⊎ v (coded⊎ (coded× coded_ℕ coded_ℕ) coded_ℕ))) (λ ps. all_build ps []) (λ k. top (built k [] []).1) (λ ps. ap (λ (s : List Parcel × List Parcels). top s.1) (builds_all ps [] [] []))
