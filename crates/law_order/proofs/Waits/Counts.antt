-- How a change of what is known of a name changes sums over all that is known, and how a name stands.
use Rattle.std.proofs.Common.{◌≡◌, ℕ, ◌+◌, ◌≤◌, Bool, true, false, List, [], ◌∷◌, ◌++◌, Option, Some, None, refl, sym, ap, subst, ◌∙◌, ◌⊎◌, inl, inr, arith}
use Rattle.def_machine.specs.Values.{Value, Name, Naming, naming}
use Rattle.def_machine.specs.State.{Unsettled, Known, Change, Hold, Wait, WaitOn, See, React, Settle, changed, changed_to, with_change, begun}
use Rattle.def_machine.specs.Refs.{entry_of, standing_of, standing_in}
use Rattle.law_fate.proofs.Name.SameNames.{same_self}
use Rattle.law_fate.specs.Fates.Fate.{once, one, total}
use Rattle.law_reference.specs.Reference.Views.{IsOpen}
use Rattle.law_reference.proofs.Reference.Entries.{SameOr, same_or}
use Rattle.law_reference.proofs.Reference.Following.{standing_same, standing_found}
use Rattle.law_reference.proofs.Reference.Kept.{changed_or, open_changed}
use Rattle.law_reference.proofs.Reference.OwnKeeps.{entry_name}
use Rattle.law_order.specs.Waits.Answers.{answers, asked_at, waits_at}

pub one_self : (n x : Name) → n ≡ x → one n x ≡ 1
unfolding one once
one_self n x e = subst (λ z. one n z ≡ 1) e (ap once (same_self n))

-- ---- one more at the end

pub total_end : {A : Type 0} (f : A → ℕ) (xs : List A) (x : A) → total f (xs ++ x ∷ []) ≡ total f xs + f x
unfolding total
total_end f [] x = omega arith
total_end f (y ∷ xs) x = let rest = total_end f xs x in omega arith

-- ---- what a change adds to a sum

-- it is changed as the change makes it, or not at all
pub after_change : (c : Change Name) (P : Known Name → Type 0) (k : Known Name) → P k → P (changed_to c k) → P (changed c k)
after_change c P k a b = go (changed_or c k)
  where
    go : (changed c k ≡ k) ⊎ (changed c k ≡ changed_to c k) → P (changed c k)
    go (inl e) = subst P (sym e) a
    go (inr e) = subst P (sym e) b

module _ (word : ℕ → ℕ) (v : ℕ) where
  abbrev N : Naming Name Name
  N = naming word v

  module _ (f : Known Name → ℕ) (c : Change Name) (n : Name) where
    head_adds : (a : ℕ) (b : Bool) (k : Known Name) (ks ls : List (Known Name)) → f (changed c k) ≤ f k + a → total f ls ≤ total f ks + a → total f (elim b [ true ↦ changed c k ∷ ks | false ↦ k ∷ ls ]) ≤ total f (k ∷ ks) + a
    unfolding total
    head_adds a true k ks ls h i = omega arith
    head_adds a false k ks ls h i = omega arith

    pub change_adds : (a : ℕ) → ((k : Known Name) → f (changed c k) ≤ f k + a) → (ks : List (Known Name)) → total f (with_change N c n ks) ≤ total f ks + a
    unfolding with_change total
    change_adds a h [] = omega arith
    change_adds a h (k ∷ ks) = head_adds a (N.same k.name n) k ks (with_change N c n ks) (h k) (change_adds a h ks)

    head_same : (b : Bool) (k : Known Name) (ks ls : List (Known Name)) → f (changed c k) ≡ f k → total f ls ≡ total f ks → total f (elim b [ true ↦ changed c k ∷ ks | false ↦ k ∷ ls ]) ≡ total f (k ∷ ks)
    unfolding total
    head_same true k ks ls h i = omega arith
    head_same false k ks ls h i = omega arith

    pub change_same : ((k : Known Name) → f (changed c k) ≡ f k) → (ks : List (Known Name)) → total f (with_change N c n ks) ≡ total f ks
    unfolding with_change total
    change_same h [] = refl
    change_same h (k ∷ ks) = head_same (N.same k.name n) k ks (with_change N c n ks) (h k) (change_same h ks)

    some_is : (j k : Known Name) → Some j ≡ Some k → j ≡ k
    some_is j k e = cc

    none_some : (k : Known Name) → ◌≡◌ {A = Option (Known Name)} None (Some k) → ⊥
    none_some k e = cc

    head_frees : (b : Bool) (k j : Known Name) (ks ls : List (Known Name)) (o : Option (Known Name)) → ◌≡◌ {A = Option (Known Name)} (elim b [ true ↦ Some j | false ↦ o ]) (Some k) → f (changed c k) ≡ 0 → (o ≡ Some k → total f ls + f k ≡ total f ks)
        → total f (elim b [ true ↦ changed c j ∷ ks | false ↦ j ∷ ls ]) + f k ≡ total f (j ∷ ks)
    unfolding total
    head_frees true k j ks ls o e z rest = let same : j ≡ k = some_is j k e in let none : f (changed c j) ≡ 0 = rw same z in let one : f j ≡ f k = ap f same in omega arith
    head_frees false k j ks ls o e z rest = let more = rest e in omega arith

    -- what the entry of the name had is had no more
    pub change_frees : (k : Known Name) → f (changed c k) ≡ 0 → (ks : List (Known Name)) → entry_of N ks n ≡ Some k → total f (with_change N c n ks) + f k ≡ total f ks
    unfolding with_change entry_of
    change_frees k z [] e = absurd (none_some k e)
    change_frees k z (j ∷ ks) e = head_frees (N.same j.name n) k j ks (with_change N c n ks) (entry_of N ks n) e z (λ i. change_frees k z ks i)

  -- ---- how a name stands after a change

  -- It stands as it did, or it is the name that was changed.
  pub stands : (c : Change Name) (n x : Name) (ks : List (Known Name)) → (standing_of N (with_change N c n ks) x ≡ standing_of N ks x)
      ⊎ ((k : Known Name) × (n ≡ x) × (standing_of N ks x ≡ k.standing) × (standing_of N (with_change N c n ks) x ≡ (changed c k).standing))
  stands c n x ks = go (same_or N c n x ks)
    where
      go : SameOr N c n ks (with_change N c n ks) x → (standing_of N (with_change N c n ks) x ≡ standing_of N ks x)
          ⊎ ((k : Known Name) × (n ≡ x) × (standing_of N ks x ≡ k.standing) × (standing_of N (with_change N c n ks) x ≡ (changed c k).standing))
      go (inl e) = inl (standing_same N ks (with_change N c n ks) x e)
      go (inr h) = inr (h.0, sym (entry_name word v (λ i. Unit {0}) ks n h.0 h.2) ∙ entry_name word v (λ i. Unit {0}) ks x h.0 h.1, standing_found N ks x h.0 h.1, standing_found N (with_change N c n ks) x (changed c h.0) h.3)

  -- a change that settles nothing, has nothing wait, and views nothing
  abbrev pub IsMild : Change Name → Type 0
  IsMild (WaitOn q) = ⊥
  IsMild (See q) = ⊥
  IsMild (Settle y) = ⊥
  IsMild other = Unit {0}

  mild_to : (c : Change Name) → IsMild c → (k : Known Name) → (changed_to c k).standing ≡ k.standing
  unfolding changed_to
  mild_to (WaitOn q) h k = absurd h
  mild_to (See q) h k = absurd h
  mild_to (Settle y) h k = absurd h
  mild_to other h k = refl

  pub mild_stands : (c : Change Name) → IsMild c → (n x : Name) (ks : List (Known Name)) → standing_of N (with_change N c n ks) x ≡ standing_of N ks x
  mild_stands c h n x ks = go (stands c n x ks)
    where
      go : (standing_of N (with_change N c n ks) x ≡ standing_of N ks x) ⊎ ((k : Known Name) × (n ≡ x) × (standing_of N ks x ≡ k.standing) × (standing_of N (with_change N c n ks) x ≡ (changed c k).standing)) → standing_of N (with_change N c n ks) x ≡ standing_of N ks x
      go (inl e) = e
      go (inr i) = i.3 ∙ (after_change c (λ (j : Known Name). j.standing ≡ i.0.standing) i.0 refl (mild_to c h i.0) ∙ sym i.2)

  -- a name that comes to be known stands as it did when it was not known
  pub comes_stands : (n : Name) (h : ℕ) (x : Name) (ks : List (Known Name)) → standing_of N (ks ++ begun n h ∷ []) x ≡ standing_of N ks x
  unfolding standing_of entry_of standing_in begun
  comes_stands n h x [] = alone (N.same n x)
    where
      alone : (b : Bool) → standing_in {N = Name} (elim b [ true ↦ Some (record { name = n; host = h; standing = Unsettled; held = []; waiting = []; reactions = []; told = [] }) | false ↦ None ]) ≡ Unsettled
      alone true = refl
      alone false = refl
  comes_stands n h x (k ∷ ks) = head (N.same k.name x) (comes_stands n h x ks)
    where
      head : (b : Bool) → standing_in (entry_of N (ks ++ begun n h ∷ []) x) ≡ standing_in (entry_of N ks x)
          → standing_in (elim b [ true ↦ Some k | false ↦ entry_of N (ks ++ begun n h ∷ []) x ]) ≡ standing_in (elim b [ true ↦ Some k | false ↦ entry_of N ks x ])
      head true e = refl
      head false e = e

-- ---- what single changes add

module _ (x : Name) where
  -- a message with that answer
  abbrev pub asks_more : Change Name → ℕ
  asks_more (Hold m) = answers x m
  asks_more (React m) = answers x m
  asks_more other = 0

  asked_to : (c : Change Name) (k : Known Name) → asked_at x (changed_to c k) ≤ asked_at x k + asks_more c
  unfolding changed_to asked_at total
  asked_to (Hold m) k = let more = total_end (answers x) k.held m in omega arith
  asked_to (React m) k = let more = total_end (answers x) k.reactions m in omega arith
  asked_to other k = omega arith

  pub asked_changed : (c : Change Name) (k : Known Name) → asked_at x (changed c k) ≤ asked_at x k + asks_more c
  asked_changed c k = after_change c (λ (j : Known Name). asked_at x j ≤ asked_at x k + asks_more c) k (omega arith) (asked_to c k)

  -- the name waits on another
  abbrev pub waits_more : Change Name → ℕ
  waits_more (Wait q) = one q x
  waits_more other = 0

  waits_to : (c : Change Name) (k : Known Name) → waits_at x (changed_to c k) ≤ waits_at x k + waits_more c
  unfolding changed_to waits_at total
  waits_to (Wait q) k = let more = total_end (λ (p : Name). one p x) k.waiting q in omega arith
  waits_to other k = omega arith

  pub waits_changed : (c : Change Name) (k : Known Name) → waits_at x (changed c k) ≤ waits_at x k + waits_more c
  waits_changed c k = after_change c (λ (j : Known Name). waits_at x j ≤ waits_at x k + waits_more c) k (omega arith) (waits_to c k)

  -- what settles holds nothing, and nothing waits on it
  pub settled_asks : (y : Value Name) (k : Known Name) → IsOpen k.standing → asked_at x (changed (Settle y) k) ≡ 0
  unfolding changed_to asked_at total
  settled_asks y k waits = subst (λ (j : Known Name). asked_at x j ≡ 0) (sym (open_changed (Settle y) k waits)) refl

  pub settled_waits : (y : Value Name) (k : Known Name) → IsOpen k.standing → waits_at x (changed (Settle y) k) ≡ 0
  unfolding changed_to waits_at total
  settled_waits y k waits = subst (λ (j : Known Name). waits_at x j ≡ 0) (sym (open_changed (Settle y) k waits)) refl
