-- A wait that is added closes no ring where no chain leads back: every chain comes still to an end, or to a name that waits on itself.
use Rattle.std.proofs.Common.{◌≡◌, ℕ, zero, suc, Bool, true, false, List, Option, Some, None, refl, sym, ap, ◌∙◌, ◌⊎◌, inl, inr}
use Rattle.def_machine.specs.Values.{Name, Naming}
use Rattle.def_machine.specs.State.{Known}
use Rattle.def_machine.specs.Refs.{standing_of, waits_lead, led_by_wait}
use Rattle.law_reference.specs.Reference.Waits.{WaitsEndIn}
use Rattle.law_reference.proofs.Reference.Calm.{next}
use Rattle.law_reference.proofs.Reference.Chains.{some_same, none_some, led_next, next_led, lead_true, next_wait}

pub or_map : {A B C : Type 0} → (B → C) → A ⊎ B → A ⊎ C
or_map f (inl a) = inl a
or_map f (inr b) = inr (f b)

module _ (K : Naming Name Name) (is : (a b : Name) → K.same a b ≡ true → a ≡ b) where
  abbrev pub Next : List (Known Name) → Name → Name → Type 0
  Next ks n q = next (standing_of K ks n) ≡ Some q

  -- after so many waits and views at most the chain ends, or comes to a name that waits on itself
  abbrev pub Loose : ℕ → List (Known Name) → Name → Type 0
  Loose zero ks n = (q : Name) → Next ks n q → q ≡ n
  Loose (suc d) ks n = (q : Name) → Next ks n q → (q ≡ n) ⊎ Loose d ks q

  abbrev pub LooseAt : List (Known Name) → Name → Type 0
  LooseAt ks n = (d : ℕ) × Loose d ks n

  abbrev pub AllLoose : List (Known Name) → Type 0
  AllLoose ks = (n : Name) → LooseAt ks n

  -- no wait and no view is new
  abbrev pub Fewer : List (Known Name) → List (Known Name) → Type 0
  Fewer ks ls = (n q : Name) → Next ls n q → Next ks n q

  -- that of p on q, where p is the same as itself
  abbrev pub Added : Name → Name → Name → Name → Type 0
  Added p q n r = (n ≡ p) × (r ≡ q) × (K.same p p ≡ true)

  -- none but that one
  abbrev pub Adds : List (Known Name) → List (Known Name) → Name → Name → Type 0
  Adds ks ls p q = (n r : Name) → Next ls n r → (Next ks n r) ⊎ Added p q n r

  fewer_in : (ks ls : List (Known Name)) → Fewer ks ls → (d : ℕ) (n : Name) → Loose d ks n → Loose d ls n
  fewer_in ks ls f zero n h = λ q e. h q (f n q e)
  fewer_in ks ls f (suc d) n h = λ q e. or_map (λ i. fewer_in ks ls f d q i) (h q (f n q e))

  pub fewer_loose : (ks ls : List (Known Name)) → Fewer ks ls → AllLoose ks → AllLoose ls
  fewer_loose ks ls f h n = let at = h n in (at.0, fewer_in ks ls f at.0 n at.1)

  -- ---- a chain that leads on

  on_lead : (ks : List (Known Name)) (p n r : Name) (d : ℕ) → Next ks n r → waits_lead K d ks p r ≡ true → waits_lead K (suc d) ks p n ≡ true
  unfolding waits_lead
  on_lead ks p n r d e h = lead_true (K.same n p) (led_by_wait K (λ q. waits_lead K d ks p q) (standing_of K ks n)) (next_led K is ks p (λ q. waits_lead K d ks p q) (standing_of K ks n) r e h)

  hit : (ks : List (Known Name)) (p n : Name) → n ≡ p → K.same p p ≡ true → waits_lead K zero ks p n ≡ true
  unfolding waits_lead
  hit ks p n e self = rw e self

  lone_at : (b : Bool) (ks : List (Known Name)) (f : Name → Bool) (p a : Name) → K.same a p ≡ b → ((q : Name) → Next ks a q → ⊥) → (elim b [ true ↦ true | false ↦ led_by_wait K f (standing_of K ks a) ]) ≡ true → a ≡ p
  lone_at true ks f p a s none h = is a p s
  lone_at false ks f p a s none h = let on = led_next K is ks p f (standing_of K ks a) h in absurd (none on.0 on.1)

  -- from a name that waits on nothing none leads to another name
  pub lone : (ks : List (Known Name)) (p a : Name) → ((q : Name) → Next ks a q → ⊥) → (d : ℕ) → waits_lead K d ks p a ≡ true → a ≡ p
  unfolding waits_lead
  lone ks p a none zero h = is a p h
  lone ks p a none (suc d) h = lone_at (K.same a p) ks (λ q. waits_lead K d ks p q) p a refl none h

  -- ---- one wait more

  module _ (ks ls : List (Known Name)) (p q : Name) (adds : Adds ks ls p q) where
    module _ (apart : (d : ℕ) → waits_lead K d ks p q ≡ true → ⊥) (all : AllLoose ks) where
      split : {C : Type 0} (n r : Name) → (Next ks n r) ⊎ Added p q n r → ((e : ℕ) → waits_lead K e ks p n ≡ true → ⊥) → (Next ks n r → C) → C
      split n r (inl i) f g = g i
      split n r (inr i) f g = absurd (f zero (hit ks p n i.0 i.2))

      -- from where no chain led to p, all chains are as they were
      avoid : (d : ℕ) (n : Name) → Loose d ks n → ((e : ℕ) → waits_lead K e ks p n ≡ true → ⊥) → Loose d ls n
      avoid zero n h f = λ r e. split n r (adds n r e) f (λ i. h r i)
      avoid (suc d) n h f = λ r e. split n r (adds n r e) f (λ i. or_map (λ l. avoid d r l (λ c j. f (suc c) (on_lead ks p n r c i j))) (h r i))

      via : (n r : Name) → n ≡ r → LooseAt ls n → LooseAt ls r
      via n r e l = rw e at l

      more : (n r : Name) → Next ls n r → LooseAt ls r → LooseAt ls n
      more n r i l = (suc l.0, λ t e. inr (rw (some_same r t (sym i ∙ e)) at l.1))

      either : (n r : Name) → Next ls n r → (r ≡ n) ⊎ LooseAt ls r → LooseAt ls n
      either n r i (inl s) = (zero, λ t e. some_same t r (sym e ∙ i) ∙ s)
      either n r i (inr l) = more n r i l

      at_any : (n r : Name) → Next ls n r → (Next ks n r → (r ≡ n) ⊎ LooseAt ls r) → (Next ks n r) ⊎ Added p q n r → LooseAt ls n
      at_any n r i f (inl j) = either n r i (f j)
      at_any n r i f (inr j) = let at = all q in more n r i (via q r (sym j.1) (at.0, avoid at.0 q at.1 apart))

      at_end : (n : Name) (o : Option Name) → next (standing_of K ls n) ≡ o → ((r : Name) → Next ls n r → LooseAt ls n) → LooseAt ls n
      at_end n None i f = (zero, λ r e. absurd (none_some (next (standing_of K ls n)) r i e))
      at_end n (Some r) i f = f r i

      loose_in : (d : ℕ) (n : Name) → Loose d ks n → LooseAt ls n
      loose_in zero n h = at_end n (next (standing_of K ls n)) refl (λ r i. at_any n r i (λ j. inl (h r j)) (adds n r i))
      loose_in (suc d) n h = at_end n (next (standing_of K ls n)) refl (λ r i. at_any n r i (λ j. or_map (λ l. loose_in d r l) (h r j)) (adds n r i))

    module _ (one : q ≡ p) where
      own : (n r : Name) → Added p q n r → r ≡ n
      own n r i = i.1 ∙ one ∙ sym i.0

      or_own : {C : Type 0} (n r : Name) → (Next ks n r) ⊎ Added p q n r → (r ≡ n → C) → (Next ks n r → C) → C
      or_own n r (inl i) f g = g i
      or_own n r (inr i) f g = f (own n r i)

      same_in : (d : ℕ) (n : Name) → Loose d ks n → Loose d ls n
      same_in zero n h = λ r e. or_own n r (adds n r e) (λ s. s) (λ i. h r i)
      same_in (suc d) n h = λ r e. or_own n r (adds n r e) (λ s. inl s) (λ i. or_map (λ l. same_in d r l) (h r i))

    by_test : (b : Bool) → K.same q p ≡ b → K.same p p ≡ true → ((d : ℕ) → waits_lead K d ks p q ≡ true → q ≡ p) → AllLoose ks → AllLoose ls
    by_test true s self back all n = let at = all n in (at.0, same_in (is q p s) at.0 n at.1)
    by_test false s self back all n = let at = all n in loose_in (λ d h. clash (back d h)) all at.0 n at.1
      where
        clash : q ≡ p → ⊥
        clash e = let same : K.same p p ≡ false = rw e at s in let both : true ≡ false = sym self ∙ same in cc

    -- where p is not the same as itself nothing is added
    none_added : K.same p p ≡ false → Fewer ks ls
    none_added other n r e = only (adds n r e)
      where
        only : (Next ks n r) ⊎ Added p q n r → Next ks n r
        only (inl i) = i
        only (inr i) = let both : true ≡ false = sym i.2 ∙ other in cc

    by_self : (b : Bool) → K.same p p ≡ b → ((d : ℕ) → waits_lead K d ks p q ≡ true → q ≡ p) → AllLoose ks → AllLoose ls
    by_self true self back all = by_test (K.same q p) refl self back all
    by_self false other back all = fewer_loose ks ls (none_added other) all

    -- where no chain leads from q to p, but that q may be p
    pub adds_loose : ((d : ℕ) → waits_lead K d ks p q ≡ true → q ≡ p) → AllLoose ks → AllLoose ls
    adds_loose back all = by_self (K.same p p) refl back all

  -- ---- where none waits on itself

  module _ (ks : List (Known Name)) (none : (n : Name) → Next ks n n → ⊥) where
    no_self : (n q : Name) → Next ks n q → q ≡ n → ⊥
    no_self n q e s = none n (e ∙ ap Some s)

    on_end : (P : Name → Type 0) (n q : Name) → Next ks n q → (q ≡ n) ⊎ P q → P q
    on_end P n q e (inl s) = absurd (no_self n q e s)
    on_end P n q e (inr h) = h

    pub loose_ends : (d : ℕ) (n : Name) → Loose d ks n → WaitsEndIn K d ks n
    loose_ends zero n h = next_wait K is ks (λ q. ⊥) (standing_of K ks n) (λ q e. no_self n q e (h q e))
    loose_ends (suc d) n h = next_wait K is ks (WaitsEndIn K d ks) (standing_of K ks n) (λ q e. on_end (WaitsEndIn K d ks) n q e (or_map (λ l. loose_ends d q l) (h q e)))
