-- For which names there is room at a vat: its root, and answers that it hosts.
use Rattle.std.proofs.Common.{◌≡◌, ℕ, Bool, true, false, refl, sym, ap, ◌∙◌, ◌⊎◌, inl, inr, ◌==◌, ◌≤◌, arith}
use Rattle.std.proofs.lemmas.Bool.{eqb-true, eq-eqb}
use Rattle.def_machine.specs.Values.{Name, Root, Answer, Gift, Msg, same_name, host_of}
use Rattle.law_fate.specs.Name.Names.{IsEventual}
use Rattle.law_fate.specs.Fates.Fate.{once, one}
use Rattle.law_order.proofs.Waits.Room.{share}
use Rattle.law_order.proofs.Waits.Costs.{one_or}
use Rattle.law_order.proofs.Waits.Sends.{IsFit}

-- the vat's root, and an answer that it hosts
unfoldable pub owed_at : ℕ → Name → Bool
owed_at v (Answer w m) = w == v
owed_at v (Root w) = w == v
owed_at v other = false

false_true : (b : Bool) → b ≡ false → b ≡ true → ⊥
false_true b e i = cc

not_true : false ≡ true → ⊥
not_true e = cc

module _ (v : ℕ) where
  owed_eventual : (x : Name) → owed_at v x ≡ true → IsEventual x
  unfolding owed_at
  owed_eventual (Answer w m) e = tt
  owed_eventual (Root w) e = tt
  owed_eventual other e = absurd (not_true e)

  owed_host : (x : Name) → owed_at v x ≡ true → host_of x ≡ v
  unfolding owed_at host_of
  owed_host (Answer w m) e = eqb-true w v e
  owed_host (Root w) e = eqb-true w v e
  owed_host other e = absurd (not_true e)

  owed_gift : (x : Name) → owed_at v x ≡ true → (h i : ℕ) → one (Gift h i) x ≡ 0
  unfolding owed_at one once same_name
  owed_gift (Gift w j) e h i = absurd (not_true e)
  owed_gift other e h i = refl

  unowed_by : (x : Name) (m : Msg) → owed_at v x ≡ false → (one (Answer v m) x ≡ 0) ⊎ (Answer v m ≡ x) → one (Answer v m) x ≡ 0
  unfolding owed_at
  unowed_by x m e (inl z) = z
  unowed_by x m e (inr same) = absurd (false_true (owed_at v x) e (ap (owed_at v) (sym same) ∙ eq-eqb v v refl))

  pub fit_at : (x : Name) → IsFit v x (owed_at v x)
  fit_at x = record { eventual = owed_eventual x; gift = owed_gift x; answer = λ e m. unowed_by x m e (one_or (Answer v m) x) }

  -- there is room for the root where it is known
  root_by : (x : Name) (n : ℕ) → one (Root v) x ≤ n → (one (Root v) x ≡ 0) ⊎ (Root v ≡ x) → one (Root v) x ≤ share (owed_at v x) n
  unfolding share owed_at
  root_by x n l (inl z) = omega arith
  root_by x n l (inr same) = let yields : share (owed_at v x) n ≡ n = ap (λ (b : Bool). share b n) (ap (owed_at v) (sym same) ∙ eq-eqb v v refl) in omega arith

  pub root_room : (x : Name) (n : ℕ) → one (Root v) x ≤ n → one (Root v) x ≤ share (owed_at v x) n
  root_room x n l = root_by x n l (one_or (Root v) x)

  -- a name of another vat takes nothing as it settles
  other_by : (x n : Name) → (host_of n ≡ v → ⊥) → (b : Bool) → owed_at v x ≡ b → (one n x ≡ 0) ⊎ (n ≡ x) → share b (one n x) ≡ 0
  unfolding share
  other_by x n f false e o = refl
  other_by x n f true e (inl z) = z
  other_by x n f true e (inr same) = absurd (f (ap host_of same ∙ owed_host x e))

  pub other_host : (x n : Name) → (host_of n ≡ v → ⊥) → share (owed_at v x) (one n x) ≡ 0
  other_host x n f = other_by x n f (owed_at v x) refl (one_or n x)
