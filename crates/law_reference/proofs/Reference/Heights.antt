-- Where no list leads back to itself, each way by members meets each list once, so it is no longer than there are lists.
use Rattle.std.proofs.Common.{◌≡◌, ℕ, zero, suc, ◌+◌, ◌<◌, ◌≤◌, Bool, true, false, List, [], ◌∷◌, refl, sym, subst, inl, inr, length, arith}
use Rattle.std.specs.Prelude.{◌==◌, ◌||◌}
use Rattle.std.specs.List.{AllByRecursion, IsDistinct, list_any}
use Rattle.std.proofs.lemmas.Bool.{eqb-true}
use Rattle.std.proofs.lemmas.Map.Steps.{length-le_from_distinct_below}
use Rattle.def_machine.specs.Values.{Value, Items, Name, Naming}
use Rattle.def_machine.specs.State.{Vat}
use Rattle.def_machine.specs.Native.{list_at}
use Rattle.def_machine.specs.Refs.{follow}
use Rattle.law_frozen.specs.Frozen.{AllOf, IsAmong, Lists}
use Rattle.law_reference.specs.Reference.Lists.{LeadsIn, NoListLeadsBack, LeadingEndsIn}
use Rattle.law_reference.proofs.Reference.ListRings.{join}

never : false ≡ true → ⊥
never e = cc

-- past the last list there are no members
past : (ls : Lists Name) (k : ℕ) → (k < length ls → ⊥) → list_at ls k ≡ []
unfolding list_at
past [] zero f = refl
past [] (suc k) f = refl
past (x ∷ ls) zero f = absurd (f (omega arith))
past (x ∷ ls) (suc k) f = past ls k (λ l. f (omega arith))

-- a number is below or not
below_or : {A : Type 0} (k n : ℕ) → (k < n → A) → ((k < n → ⊥) → A) → A
below_or k zero f g = g (λ l. none l)
  where
    none : k < zero → ⊥
    none l = omega arith
below_or zero (suc n) f g = f (omega arith)
below_or (suc k) (suc n) f g = below_or k n (λ l. f (omega arith)) (λ h. g (λ l. h (omega arith)))

all_members : (P : Value Name → Type 0) (vs : List (Value Name)) → ((v : Value Name) → IsAmong v vs → P v) → AllOf P vs
all_members P [] f = tt
all_members P (v ∷ vs) f = (f v (inl refl), all_members P vs (λ w a. f w (inr a)))

module _ (K : Naming Name Name) (s : Vat Name) (none : NoListLeadsBack K s) where
  -- from each of these lists one comes to x
  abbrev Behind : Value Name → List ℕ → Type 0
  Behind x ws = AllByRecursion (λ w. (e : ℕ) × LeadsIn K (suc e) s (Items w) x) ws

  pick_way : (b c : Bool) (k w : ℕ) → (b ≡ true → k ≡ w) → ((e : ℕ) × LeadsIn K (suc e) s (Items w) (Items k)) → (c ≡ true → ⊥) → (b || c) ≡ true → ⊥
  pick_way true c k w f h g e = none k h.0 (subst (λ j. LeadsIn K (suc h.0) s (Items j) (Items k)) (sym (f refl)) h.1)
  pick_way false c k w f h g e = g e

  -- the list to which one comes is none of those behind
  met : (k : ℕ) (ws : List ℕ) → Behind (Items k) ws → list_any (λ y. k == y) ws ≡ true → ⊥
  met k [] h e = never e
  met k (w ∷ ws) h e = pick_way (k == w) (list_any (λ y. k == y) ws) k w (λ i. eqb-true k w i) h.0 (λ i. met k ws h.1 i) e

  false_of : (b : Bool) → (b ≡ true → ⊥) → b ≡ false
  false_of true f = absurd (f refl)
  false_of false f = refl

  apart : (k : ℕ) (ws : List ℕ) → Behind (Items k) ws → AllByRecursion (λ y. (k == y) ≡ false) ws
  apart k [] h = tt
  apart k (w ∷ ws) h = (false_of (k == w) (λ i. none k h.0.0 (subst (λ j. LeadsIn K (suc h.0.0) s (Items j) (Items k)) (sym (eqb-true k w i)) h.0.1)), apart k ws h.1)

  step : (w k : ℕ) (v : Value Name) → IsAmong v (list_at s.lists k) → (e : ℕ) × LeadsIn K (suc e) s (Items w) (Items k) → (e : ℕ) × LeadsIn K (suc e) s (Items w) (follow K s v)
  step w k v a h = join K (suc h.0) zero s (Items w) (Items k) (follow K s v) h.1 (follow K s v, (v, a, refl), refl)

  steps : (ws : List ℕ) (k : ℕ) (v : Value Name) → IsAmong v (list_at s.lists k) → Behind (Items k) ws → Behind (follow K s v) ws
  steps [] k v a h = tt
  steps (w ∷ ws) k v a h = (step w k v a h.0, steps ws k v a h.1)

  first_step : (k : ℕ) (v : Value Name) → IsAmong v (list_at s.lists k) → (e : ℕ) × LeadsIn K (suc e) s (Items k) (follow K s v)
  first_step k v a = (zero, (follow K s v, (v, a, refl), refl))

  pub record Ways (d : ℕ) (x : Value Name) (ws : List ℕ) : Type 0 where
    pub count : d + length ws ≡ length s.lists
    pub distinct : IsDistinct (λ a b. a == b) ws
    pub below : AllByRecursion (λ w. w < length s.lists) ws
    pub behind : Behind x ws

  either_below : (b c : Bool) (i j : ℕ) → (b ≡ true → i ≡ j) → j < length s.lists → (c ≡ true → i < length s.lists) → (b || c) ≡ true → i < length s.lists
  either_below true c i j f l g h = rw (f refl) l
  either_below false c i j f l g h = g h

  each_below : (ws : List ℕ) → AllByRecursion (λ w. w < length s.lists) ws → (i : ℕ) → list_any (λ y. i == y) ws ≡ true → i < length s.lists
  each_below [] h i e = absurd (never e)
  each_below (w ∷ ws) h i e = either_below (i == w) (list_any (λ y. i == y) ws) i w (λ j. eqb-true i w j) h.0 (λ j. each_below ws h.1 i j) e

  -- with all lists behind there is none to come to
  full : (k : ℕ) (ws : List ℕ) → Ways zero (Items k) ws → k < length s.lists → ⊥
  unfolding IsDistinct
  full k ws h l = let count = length-le_from_distinct_below (k ∷ ws) (length s.lists) (apart k ws h.behind, h.distinct) (λ i e. each_below (k ∷ ws) (l, h.below) i e) in let same : zero + length ws ≡ length s.lists = h.count in more (length ws) same count
    where
      more : (n : ℕ) → zero + n ≡ length s.lists → suc n ≤ length s.lists → ⊥
      more n e i = omega arith

  on : (d k : ℕ) (ws : List ℕ) (v : Value Name) → IsAmong v (list_at s.lists k) → k < length s.lists → Ways (suc d) (Items k) ws → Ways d (follow K s v) (k ∷ ws)
  unfolding IsDistinct
  on d k ws v a l h = record { count = next d (length ws) h.count; distinct = (apart k ws h.behind, h.distinct); below = (l, h.below); behind = (first_step k v a, steps ws k v a h.behind) }
    where
      next : (d n : ℕ) → suc d + n ≡ length s.lists → d + suc n ≡ length s.lists
      next d n e = omega arith

  pub ends_in : (d : ℕ) (x : Value Name) (ws : List ℕ) → Ways d x ws → LeadingEndsIn K d s x
  ends_in zero (Items k) ws h = below_or k (length s.lists) (λ l. absurd (full k ws h l)) (λ f. past s.lists k f)
  ends_in (suc d) (Items k) ws h = below_or k (length s.lists) (λ l. all_members (λ v. LeadingEndsIn K d s (follow K s v)) (list_at s.lists k) (λ v a. ends_in d (follow K s v) (k ∷ ws) (on d k ws v a l h)))
      (λ f. subst (λ vs. AllOf (λ v. LeadingEndsIn K d s (follow K s v)) vs) (sym (past s.lists k f)) tt)
  ends_in zero other ws h = tt
  ends_in (suc d) other ws h = tt

  pub leading_ends : (x : Value Name) → LeadingEndsIn K (length s.lists) s x
  unfolding IsDistinct
  leading_ends x = ends_in (length s.lists) x [] (record { count = omega arith; distinct = tt; below = tt; behind = tt })
