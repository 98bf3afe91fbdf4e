-- The vats of a script are started one after the other.
use Rattle.std.proofs.Common.{◌≡◌, ◌⊎◌, inl, inr, ◌+◌, ℕ, zero, suc, List, [], ◌∷◌, ◌++◌, Some, None, length, length-append, slice_get, refl, sym, ap, subst, ◌∙◌, arith}
use Rattle.def_run.specs.World.{knowers}
use Rattle.ev_resident.specs.declared.resident.Resident.{Resident}
use Rattle.ev_script.specs.declared.script.Script.{Script}
use Rattle.ev_script.specs.declared.script.VatScript.{VatScript}
use Rattle.ev_world.proofs.StartingKnowers.{some_is}
use Rattle.ev_world.specs.Starting.{AreStarted, IsFresh, IsStarted, bare}

-- ---- places

last_or_before : {A : Type 0} (xs : List A) (x y : A) (i : ℕ) → slice_get (xs ++ x ∷ []) i ≡ Some y → ((length xs ≡ i) × (x ≡ y)) ⊎ (slice_get xs i ≡ Some y)
last_or_before [] x y zero e = inl (refl, some_is e)
last_or_before [] x y (suc i) e = absurd cc
last_or_before (z ∷ xs) x y zero e = inr e
last_or_before (z ∷ xs) x y (suc i) e = elim (last_or_before xs x y i e) as (λ _. ((suc (length xs) ≡ suc i) × (x ≡ y)) ⊎ (slice_get xs i ≡ Some y)) [ inl h ↦ inl (ap suc h.0, h.1) | inr h ↦ inr h ]

-- ---- the first vats

module _ (script : Script) where
  pub none_started : AreStarted script 0 []
  none_started = record { count = refl; each = λ u vat r here e. absurd (none_is e) } where
    none_is : {r : Resident} → None ≡ Some r → ⊥
    none_is e = cc

  -- one more, at the next place
  pub started_next : (k : ℕ) (vat : VatScript) (r : Resident) (front after : List Resident) → slice_get script.vats k ≡ Some vat → IsStarted script k vat r → after ≡ front ++ r ∷ [] → AreStarted script k front → AreStarted script (k + 1) after
  started_next k vat r front after here started grown so_far = subst (AreStarted script (k + 1)) (sym grown) (record { count = omega (arith, length-append front (r ∷ []), so_far.count); each = λ u v q there e. by u v q there (last_or_before front r q u e) }) where
    by : (u : ℕ) (v : VatScript) (q : Resident) → slice_get script.vats u ≡ Some v → ((length front ≡ u) × (r ≡ q)) ⊎ (slice_get front u ≡ Some q) → IsStarted script u v q
    by u v q there (inr e) = so_far.each u v q there e
    by u v q there (inl e) =
        let at : k ≡ u = sym so_far.count ∙ e.0 in
        let same : vat ≡ v = some_is (sym here ∙ ap (slice_get script.vats) at ∙ there) in
        subst (λ (n : ℕ). IsStarted script n v q) at (subst (λ (x : VatScript). IsStarted script k x q) same (subst (λ (x : Resident). IsStarted script k vat x) e.1 started))

  -- a vat that was started as one of that number
  pub started_as : (k : ℕ) (vat : VatScript) (r : Resident) (me count : ℕ) (vats : List VatScript) (ks known_by : List ℕ) → me ≡ k → count ≡ length script.vats → vats ≡ script.vats → ks ≡ vat.knows → known_by ≡ knowers me 0 (bare vats)
      → IsFresh script.fuel script.key me count ks known_by r → IsStarted script k vat r
  started_as k vat r me count vats ks known_by at many all same known fresh =
      subst (λ (u : ℕ). IsFresh script.fuel script.key u (length script.vats) vat.knows (knowers u 0 (bare script.vats)) r) at
      (subst (λ (vs : List VatScript). IsFresh script.fuel script.key me (length script.vats) vat.knows (knowers me 0 (bare vs)) r) all
      (subst (λ (bs : List ℕ). IsFresh script.fuel script.key me (length script.vats) vat.knows bs r) known
      (subst (λ (vs : List ℕ). IsFresh script.fuel script.key me (length script.vats) vs known_by r) same
      (subst (λ (n : ℕ). IsFresh script.fuel script.key me n ks known_by r) many fresh))))
