-- A chain of waits and views that comes to an end is no longer than there are names known: on its way it meets each name once.
use Rattle.std.proofs.Common.{◌≡◌, ℕ, zero, suc, ◌<◌, ◌≤◌, Bool, true, false, List, [], ◌∷◌, Option, Some, None, refl, sym, ap, ◌∙◌, length, arith}
use Rattle.std.specs.Prelude.{◌==◌, ◌||◌}
use Rattle.std.specs.List.{AllByRecursion, IsDistinct, list_any}
use Rattle.std.proofs.lemmas.Bool.{eqb-true}
use Rattle.std.proofs.lemmas.Map.Steps.{length-le_from_distinct_below}
use Rattle.def_machine.specs.Values.{Name, Naming}
use Rattle.def_machine.specs.State.{Standing, WaitsOn, Viewed, Known}
use Rattle.def_machine.specs.Refs.{entry_of, standing_of, standing_in, waits_lead, led_by_wait}
use Rattle.law_reference.specs.Reference.Views.{index_at}
use Rattle.law_reference.proofs.Reference.Entries.{index_less}
use Rattle.law_reference.specs.Reference.Waits.{WaitIs, WaitsEndIn}
use Rattle.law_reference.proofs.Reference.Calm.{next}

pub false_if : (b : Bool) → (b ≡ true → ⊥) → b ≡ false
false_if true f = absurd (f refl)
false_if false f = refl

lead_first : (b c : Bool) → b ≡ true → (elim b [ true ↦ true | false ↦ c ]) ≡ true
lead_first b c e = rw e refl

pub lead_true : (b c : Bool) → c ≡ true → (elim b [ true ↦ true | false ↦ c ]) ≡ true
lead_true true c e = refl
lead_true false c e = e

pub some_same : (a b : Name) → Some a ≡ Some b → a ≡ b
some_same a b e = cc

pub none_some : (o : Option Name) (q : Name) → o ≡ None → o ≡ Some q → ⊥
none_some o q e f = let both : None ≡ Some q = sym e ∙ f in cc

no_false : false ≡ true → ⊥
no_false e = cc

no_zero : (i : ℕ) → zero ≡ suc i → ⊥
no_zero i e = omega arith

less : (i j : ℕ) → suc i ≡ suc j → i ≡ j
less i j e = omega arith

next_known : (o : Option (Known Name)) (q : Name) → next (standing_in o) ≡ Some q → (k : Known Name) × (o ≡ Some k)
unfolding standing_in next
next_known (Some k) q e = (k, refl)
next_known None q e = cc

module _ (K : Naming Name Name) (is : (a b : Name) → K.same a b ≡ true → a ≡ b) where
  -- ---- names at one place are one

  one_head : (a b : Bool) (x n m : Name) (k0 k j : Known Name) (o p : Option (Known Name)) (i l : ℕ) → (a ≡ true → x ≡ n) → (b ≡ true → x ≡ m)
      → ◌≡◌ {A = Option (Known Name)} (elim a [ true ↦ Some k0 | false ↦ o ]) (Some k) → ◌≡◌ {A = Option (Known Name)} (elim b [ true ↦ Some k0 | false ↦ p ]) (Some j)
      → ◌≡◌ {A = ℕ} (elim a [ true ↦ zero | false ↦ suc i ]) (elim b [ true ↦ zero | false ↦ suc l ]) → (o ≡ Some k → p ≡ Some j → i ≡ l → n ≡ m) → n ≡ m
  one_head true true x n m k0 k j o p i l f g h e same rest = sym (f refl) ∙ g refl
  one_head true false x n m k0 k j o p i l f g h e same rest = absurd (no_zero l same)
  one_head false true x n m k0 k j o p i l f g h e same rest = absurd (no_zero i (sym same))
  one_head false false x n m k0 k j o p i l f g h e same rest = rest h e (less i l same)

  none_known : (n : Name) (k : Known Name) → entry_of K [] n ≡ Some k → ⊥
  unfolding entry_of
  none_known n k e = cc

  one_name : (ks : List (Known Name)) (n m : Name) (k j : Known Name) → entry_of K ks n ≡ Some k → entry_of K ks m ≡ Some j → index_at K ks n ≡ index_at K ks m → n ≡ m
  unfolding entry_of index_at
  one_name [] n m k j h e same = absurd (none_known n k h)
  one_name (k0 ∷ ks) n m k j h e same = one_head (K.same k0.name n) (K.same k0.name m) k0.name n m k0 k j (entry_of K ks n) (entry_of K ks m) (index_at K ks n) (index_at K ks m)
      (λ i. is k0.name n i) (λ i. is k0.name m i) h e same (λ a b c. one_name ks n m k j a b c)

  module _ (ks : List (Known Name)) where
    abbrev pub Next : Name → Name → Type 0
    Next n q = next (standing_of K ks n) ≡ Some q

    known_at : (n q : Name) → Next n q → (k : Known Name) × (entry_of K ks n ≡ Some k)
    unfolding standing_of
    known_at n q e = next_known (entry_of K ks n) q e

    -- ---- chains with their length

    module _ (Stop : Name → Type 0) where
      -- after exactly so many waits and views one comes for the first time to a name at which to stop
      abbrev pub Exact : ℕ → Name → Type 0
      Exact zero n = Stop n
      Exact (suc d) n = (Stop n → ⊥) × ((q : Name) × Next n q × Exact d q)

      unique : (d e : ℕ) (n : Name) → Exact d n → Exact e n → d ≡ e
      unique zero zero n h i = refl
      unique zero (suc e) n h i = absurd (i.0 h)
      unique (suc d) zero n h i = absurd (h.0 i)
      unique (suc d) (suc e) n h i = let same : i.1.0 ≡ h.1.0 = some_same i.1.0 h.1.0 (sym i.1.1 ∙ h.1.1) in ap suc (unique d e h.1.0 h.1.2 (rw same at i.1.2))

      -- the places of the names on the way
      places : (d : ℕ) (n : Name) → Exact d n → List ℕ
      places zero n h = []
      places (suc d) n h = index_at K ks n ∷ places d h.1.0 h.1.2

      length_places : (d : ℕ) (n : Name) (h : Exact d n) → length (places d n h) ≡ d
      unfolding places
      length_places zero n h = refl
      length_places (suc d) n h = ap suc (length_places d h.1.0 h.1.2)

      differ : (d e : ℕ) (n m : Name) → Exact (suc d) n → Exact (suc e) m → e < d → (index_at K ks n == index_at K ks m) ≡ false
      differ d e n m h i l = false_if (index_at K ks n == index_at K ks m) never
        where
          same_length : n ≡ m → suc d ≡ suc e
          same_length s = unique (suc d) (suc e) m (rw s at h) i

          never : (index_at K ks n == index_at K ks m) ≡ true → ⊥
          never s = let a = known_at n h.1.0 h.1.1 in let b = known_at m i.1.0 i.1.1 in
              let one : n ≡ m = one_name ks n m a.0 b.0 a.1 b.1 (eqb-true (index_at K ks n) (index_at K ks m) s) in let equal : suc d ≡ suc e = same_length one in omega arith

      apart : (d : ℕ) (n : Name) → Exact (suc d) n → (e : ℕ) (m : Name) (i : Exact e m) → e ≤ d → AllByRecursion (λ y. (index_at K ks n == y) ≡ false) (places e m i)
      unfolding places
      apart d n h zero m i l = tt
      apart d n h (suc e) m i l = (differ d e n m h i (omega arith), apart d n h e i.1.0 i.1.2 (omega arith))

      distinct : (d : ℕ) (n : Name) (h : Exact d n) → IsDistinct (λ x y. x == y) (places d n h)
      unfolding IsDistinct places
      distinct zero n h = tt
      distinct (suc d) n h = (apart d n h d h.1.0 h.1.2 (omega arith), distinct d h.1.0 h.1.2)

      either_below : (b c : Bool) (i j : ℕ) → (b ≡ true → i ≡ j) → j < length ks → (c ≡ true → i < length ks) → (b || c) ≡ true → i < length ks
      either_below true c i j f l g h = rw (f refl) l
      either_below false c i j f l g h = g h

      below : (d : ℕ) (n : Name) (h : Exact d n) (i : ℕ) → list_any (λ y. i == y) (places d n h) ≡ true → i < length ks
      unfolding places
      below zero n h i e = absurd (no_false e)
      below (suc d) n h i e = let a = known_at n h.1.0 h.1.1 in
          either_below (i == index_at K ks n) (list_any (λ y. i == y) (places d h.1.0 h.1.2)) i (index_at K ks n) (λ s. eqb-true i (index_at K ks n) s) (index_less K ks n a.0 a.1) (λ s. below d h.1.0 h.1.2 i s) e

      -- so the chain is no longer than there are names
      pub no_longer : (d : ℕ) (n : Name) → Exact d n → d ≤ length ks
      no_longer d n h = let count = length-le_from_distinct_below (places d n h) (length ks) (distinct d n h) (λ i e. below d n h i e) in rw (length_places d n h) at count

    -- ---- chains that lead to a name

    module _ (p : Name) where
      abbrev Hits : Name → Type 0
      Hits n = K.same n p ≡ true

      pub led_next : (f : Name → Bool) (t : Standing Name) → led_by_wait K f t ≡ true → (q : Name) × (next t ≡ Some q) × (f q ≡ true)
      unfolding led_by_wait next
      led_next f (WaitsOn q) e = (q, refl, e)
      led_next f (Viewed q) e = (q, refl, e)
      led_next f other e = cc

      pub next_led : (f : Name → Bool) (t : Standing Name) (q : Name) → next t ≡ Some q → f q ≡ true → led_by_wait K f t ≡ true
      unfolding led_by_wait next
      next_led f (WaitsOn r) q e h = rw (some_same r q e) h
      next_led f (Viewed r) q e h = rw (some_same r q e) h
      next_led f other q e h = cc

      lead_at : (b : Bool) (f : Name → Bool) (n : Name) → K.same n p ≡ b → (elim b [ true ↦ true | false ↦ led_by_wait K f (standing_of K ks n) ]) ≡ true → ((q : Name) → f q ≡ true → (e : ℕ) × Exact Hits e q) → (e : ℕ) × Exact Hits e n
      lead_at true f n s h g = (zero, s)
      lead_at false f n s h g = let on = led_next f (standing_of K ks n) h in let rest = g on.0 on.2 in (suc rest.0, ((λ i. clash i), (on.0, on.1, rest.1)))
        where
          clash : K.same n p ≡ true → ⊥
          clash i = let both : false ≡ true = sym s ∙ i in cc

      lead_exact : (d : ℕ) (n : Name) → waits_lead K d ks p n ≡ true → (e : ℕ) × Exact Hits e n
      unfolding waits_lead
      lead_exact zero n h = (zero, h)
      lead_exact (suc d) n h = lead_at (K.same n p) (λ q. waits_lead K d ks p q) n refl h (λ q i. lead_exact d q i)

      exact_lead : (e d : ℕ) (n : Name) → Exact Hits e n → e ≤ d → waits_lead K d ks p n ≡ true
      unfolding waits_lead
      exact_lead zero zero n h l = h
      exact_lead zero (suc d) n h l = lead_first (K.same n p) (led_by_wait K (λ q. waits_lead K d ks p q) (standing_of K ks n)) h
      exact_lead (suc e) zero n h l = absurd (no_under e l)
        where
          no_under : (i : ℕ) → suc i ≤ zero → ⊥
          no_under i j = omega arith
      exact_lead (suc e) (suc d) n h l = lead_true (K.same n p) (led_by_wait K (λ q. waits_lead K d ks p q) (standing_of K ks n)) (next_led (λ q. waits_lead K d ks p q) (standing_of K ks n) h.1.0 h.1.1 (exact_lead e d h.1.0 h.1.2 (omega arith)))

      pub leads_within : (d : ℕ) (n : Name) → waits_lead K d ks p n ≡ true → waits_lead K (length ks) ks p n ≡ true
      leads_within d n h = let at = lead_exact d n h in exact_lead at.0 (length ks) n at.1 (no_longer Hits at.0 n at.1)

    -- ---- chains that end

    abbrev Ended : Name → Type 0
    Ended n = next (standing_of K ks n) ≡ None

    pub wait_next : (P : Name → Type 0) (t : Standing Name) (q : Name) → next t ≡ Some q → WaitIs P t → P q
    unfolding next
    wait_next P (WaitsOn r) q e h = rw (some_same r q e) at h
    wait_next P (Viewed r) q e h = rw (some_same r q e) at h
    wait_next P other q e h = cc

    pub next_wait : (P : Name → Type 0) (t : Standing Name) → ((q : Name) → next t ≡ Some q → P q) → WaitIs P t
    unfolding next
    next_wait P (WaitsOn q) f = f q refl
    next_wait P (Viewed q) f = f q refl
    next_wait P other f = tt

    end_at : (o : Option Name) (n : Name) → next (standing_of K ks n) ≡ o → ((q : Name) → Next n q → (e : ℕ) × Exact Ended e q) → (e : ℕ) × Exact Ended e n
    end_at None n i g = (zero, i)
    end_at (Some q) n i g = let rest = g q i in (suc rest.0, ((λ j. none_some (next (standing_of K ks n)) q j i), (q, i, rest.1)))

    end_exact : (d : ℕ) (n : Name) → WaitsEndIn K d ks n → (e : ℕ) × Exact Ended e n
    end_exact zero n h = end_at (next (standing_of K ks n)) n refl (λ q i. absurd (wait_next (λ r. ⊥) (standing_of K ks n) q i h))
    end_exact (suc d) n h = end_at (next (standing_of K ks n)) n refl (λ q i. end_exact d q (wait_next (WaitsEndIn K d ks) (standing_of K ks n) q i h))

    exact_end : (e d : ℕ) (n : Name) → Exact Ended e n → e ≤ d → WaitsEndIn K d ks n
    exact_end zero zero n h l = next_wait (λ q. ⊥) (standing_of K ks n) (λ q i. none_some (next (standing_of K ks n)) q h i)
    exact_end zero (suc d) n h l = next_wait (WaitsEndIn K d ks) (standing_of K ks n) (λ q i. absurd (none_some (next (standing_of K ks n)) q h i))
    exact_end (suc e) zero n h l = absurd (no_under e l)
      where
        no_under : (i : ℕ) → suc i ≤ zero → ⊥
        no_under i j = omega arith
    exact_end (suc e) (suc d) n h l = next_wait (WaitsEndIn K d ks) (standing_of K ks n) (λ q i. rw (some_same h.1.0 q (sym h.1.1 ∙ i)) at (exact_end e d h.1.0 h.1.2 (omega arith)))

    pub ends_within : (d : ℕ) (n : Name) → WaitsEndIn K d ks n → WaitsEndIn K (length ks) ks n
    ends_within d n h = let at = end_exact d n h in exact_end at.0 (length ks) n at.1 (no_longer Ended at.0 n at.1)
