-- What a change of what is known makes of the entries of names.
use Rattle.std.proofs.Common.{◌≡◌, ℕ, zero, suc, ◌<◌, ◌≤◌, Bool, true, false, List, [], ◌∷◌, ◌++◌, Option, Some, None, refl, ap, ◌∙◌, ◌⊎◌, inl, inr, length, arith}
use Rattle.def_machine.specs.Values.{Value, Naming}
use Rattle.def_machine.specs.State.{Message, Standing, WaitsOn, Viewed, Settled, Known, Change, Hold, Wait, WaitOn, React, ToTell, with_change, changed, changed_to, unless_settled}
use Rattle.def_machine.specs.Refs.{entry_of}
use Rattle.law_machine.proofs.Machine.StepLaws.{changed_head}
use Rattle.law_fate.specs.Name.Names.{IsAmong}
use Rattle.law_fate.proofs.Name.Among.{among_more}
use Rattle.law_reference.specs.Reference.Views.{IsOpen, index_at}

-- ---- the entry of a name after a change

module _ {N : Type 0} (c : Change N) where
  -- from the first entry on: it is this one, or it is found further on
  here_or : (a d m : Bool) (k0 : Known N) (o om : Option (Known N)) → d ≡ a → m ≡ true
      → (◌≡◌ {A = Option (Known N)} (elim d [ true ↦ Some (changed c k0) | false ↦ o ]) (elim a [ true ↦ Some k0 | false ↦ o ]))
      ⊎ ((k : Known N) × (◌≡◌ {A = Option (Known N)} (elim a [ true ↦ Some k0 | false ↦ o ]) (Some k)) × (◌≡◌ {A = Option (Known N)} (elim m [ true ↦ Some k0 | false ↦ om ]) (Some k)) × (◌≡◌ {A = Option (Known N)} (elim d [ true ↦ Some (changed c k0) | false ↦ o ]) (Some (changed c k))))
  here_or true d m k0 o om e f = inr (k0, refl, rw f refl, rw e refl)
  here_or false d m k0 o om e f = inl (rw e refl)

  there_or : (a m : Bool) (k0 : Known N) (o om p : Option (Known N)) → m ≡ false
      → ((p ≡ o) ⊎ ((k : Known N) × (o ≡ Some k) × (om ≡ Some k) × (p ≡ Some (changed c k))))
      → (◌≡◌ {A = Option (Known N)} (elim a [ true ↦ Some k0 | false ↦ p ]) (elim a [ true ↦ Some k0 | false ↦ o ]))
      ⊎ ((k : Known N) × (◌≡◌ {A = Option (Known N)} (elim a [ true ↦ Some k0 | false ↦ o ]) (Some k)) × (◌≡◌ {A = Option (Known N)} (elim m [ true ↦ Some k0 | false ↦ om ]) (Some k)) × (◌≡◌ {A = Option (Known N)} (elim a [ true ↦ Some k0 | false ↦ p ]) (Some (changed c k))))
  there_or true m k0 o om p f h = inl refl
  there_or false m k0 o om p f (inl e) = inl e
  there_or false m k0 o om p f (inr h) = inr (h.0, h.1, rw f h.2, h.3)

module _ {N W : Type 0} (K : Naming N W) where
  -- The entry of n is as it was, or it is the entry of m, changed.
  abbrev pub SameOr : Change N → N → List (Known N) → List (Known N) → N → Type 0
  SameOr c m ks ls n = (entry_of K ls n ≡ entry_of K ks n) ⊎ ((k : Known N) × (entry_of K ks n ≡ Some k) × (entry_of K ks m ≡ Some k) × (entry_of K ls n ≡ Some (changed c k)))

  or_cons : (b : Bool) (c : Change N) (m n : N) (k0 : Known N) (ks rest : List (Known N)) → K.same k0.name m ≡ b → SameOr c m ks rest n
      → SameOr c m (k0 ∷ ks) (elim b [ true ↦ changed c k0 ∷ ks | false ↦ k0 ∷ rest ]) n
  unfolding entry_of
  or_cons true c m n k0 ks rest e h = here_or c (K.same k0.name n) (K.same (changed c k0).name n) (K.same k0.name m) k0 (entry_of K ks n) (entry_of K ks m) (ap (λ x. K.same x n) (changed_head c k0).0) e
  or_cons false c m n k0 ks rest e h = there_or c (K.same k0.name n) (K.same k0.name m) k0 (entry_of K ks n) (entry_of K ks m) (entry_of K rest n) e h

  pub same_or : (c : Change N) (m n : N) (ks : List (Known N)) → SameOr c m ks (with_change K c m ks) n
  unfolding with_change
  same_or c m n [] = inl refl
  same_or c m n (k0 ∷ ks) = or_cons (K.same k0.name m) c m n k0 ks (with_change K c m ks) refl (same_or c m n ks)

  -- ---- the entry of the name itself

  at_here : (a d : Bool) (c : Change N) (k0 k : Known N) (o : Option (Known N)) → d ≡ a → a ≡ true → ◌≡◌ {A = Option (Known N)} (elim a [ true ↦ Some k0 | false ↦ o ]) (Some k)
      → ◌≡◌ {A = Option (Known N)} (elim d [ true ↦ Some (changed c k0) | false ↦ o ]) (Some (changed c k))
  at_here true d c k0 k o e f h = let same : k0 ≡ k = cc in rw e (ap (λ x. Some (changed c x)) same)
  at_here false d c k0 k o e f h = cc

  at_there : (a : Bool) (c : Change N) (k0 k : Known N) (o p : Option (Known N)) → a ≡ false → ◌≡◌ {A = Option (Known N)} (elim a [ true ↦ Some k0 | false ↦ o ]) (Some k) → (o ≡ Some k → p ≡ Some (changed c k))
      → ◌≡◌ {A = Option (Known N)} (elim a [ true ↦ Some k0 | false ↦ p ]) (Some (changed c k))
  at_there true c k0 k o p f h g = cc
  at_there false c k0 k o p f h g = g h

  at_cons : (b : Bool) (c : Change N) (m : N) (k0 k : Known N) (ks rest : List (Known N)) → K.same k0.name m ≡ b → entry_of K (k0 ∷ ks) m ≡ Some k → (entry_of K ks m ≡ Some k → entry_of K rest m ≡ Some (changed c k))
      → entry_of K (elim b [ true ↦ changed c k0 ∷ ks | false ↦ k0 ∷ rest ]) m ≡ Some (changed c k)
  unfolding entry_of
  at_cons true c m k0 k ks rest e h g = at_here (K.same k0.name m) (K.same (changed c k0).name m) c k0 k (entry_of K ks m) (ap (λ x. K.same x m) (changed_head c k0).0) e h
  at_cons false c m k0 k ks rest e h g = at_there (K.same k0.name m) c k0 k (entry_of K ks m) (entry_of K rest m) e h g

  none_some : (m : N) (k : Known N) → entry_of K [] m ≡ Some k → ⊥
  unfolding entry_of
  none_some m k e = cc

  pub changed_at : (c : Change N) (m : N) (ks : List (Known N)) (k : Known N) → entry_of K ks m ≡ Some k → entry_of K (with_change K c m ks) m ≡ Some (changed c k)
  unfolding with_change
  changed_at c m [] k e = absurd (none_some m k e)
  changed_at c m (k0 ∷ ks) k e = at_cons (K.same k0.name m) c m k0 k ks (with_change K c m ks) refl e (λ h. changed_at c m ks k h)

  -- ---- known stays known

  abbrev pub Knows : List (Known N) → N → Type 0
  Knows ks n = (k : Known N) × (entry_of K ks n ≡ Some k)

  pub knows_changed : (c : Change N) (m n : N) (ks : List (Known N)) → Knows ks n → Knows (with_change K c m ks) n
  knows_changed c m n ks h = by_or (same_or c m n ks)
    where
      by_or : SameOr c m ks (with_change K c m ks) n → Knows (with_change K c m ks) n
      by_or (inl e) = (h.0, e ∙ h.1)
      by_or (inr x) = (changed c x.0, x.3)

  -- ---- the place among the names known

  index_head : (a d : Bool) (i j : ℕ) → d ≡ a → i ≡ j → ◌≡◌ {A = ℕ} (elim d [ true ↦ zero | false ↦ suc i ]) (elim a [ true ↦ zero | false ↦ suc j ])
  index_head true d i j e f = rw e refl
  index_head false d i j e f = rw e (ap suc f)

  index_cons : (b : Bool) (c : Change N) (n : N) (k0 : Known N) (ks rest : List (Known N)) → index_at K rest n ≡ index_at K ks n → index_at K (elim b [ true ↦ changed c k0 ∷ ks | false ↦ k0 ∷ rest ]) n ≡ index_at K (k0 ∷ ks) n
  unfolding index_at
  index_cons true c n k0 ks rest e = index_head (K.same k0.name n) (K.same (changed c k0).name n) (index_at K ks n) (index_at K ks n) (ap (λ x. K.same x n) (changed_head c k0).0) refl
  index_cons false c n k0 ks rest e = index_head (K.same k0.name n) (K.same k0.name n) (index_at K rest n) (index_at K ks n) refl e

  pub index_changed : (c : Change N) (m n : N) (ks : List (Known N)) → index_at K (with_change K c m ks) n ≡ index_at K ks n
  unfolding with_change
  index_changed c m n [] = refl
  index_changed c m n (k0 ∷ ks) = index_cons (K.same k0.name m) c n k0 ks (with_change K c m ks) (index_changed c m n ks)

  index_along : (a : Bool) (k0 k : Known N) (o : Option (Known N)) (i j : ℕ) → ◌≡◌ {A = Option (Known N)} (elim a [ true ↦ Some k0 | false ↦ o ]) (Some k) → (o ≡ Some k → i ≡ j)
      → ◌≡◌ {A = ℕ} (elim a [ true ↦ zero | false ↦ suc i ]) (elim a [ true ↦ zero | false ↦ suc j ])
  index_along true k0 k o i j h g = refl
  index_along false k0 k o i j h g = ap suc (g h)

  pub index_append : (ks js : List (Known N)) (n : N) (k : Known N) → entry_of K ks n ≡ Some k → index_at K (ks ++ js) n ≡ index_at K ks n
  unfolding entry_of index_at
  index_append [] js n k e = absurd (none_some n k e)
  index_append (k0 ∷ ks) js n k e = index_along (K.same k0.name n) k0 k (entry_of K ks n) (index_at K (ks ++ js) n) (index_at K ks n) e (λ h. index_append ks js n k h)

  index_under : (a : Bool) (k0 k : Known N) (o : Option (Known N)) (i l : ℕ) → ◌≡◌ {A = Option (Known N)} (elim a [ true ↦ Some k0 | false ↦ o ]) (Some k) → (o ≡ Some k → i < l) → (elim a [ true ↦ zero | false ↦ suc i ]) < suc l
  index_under true k0 k o i l h g = omega arith
  index_under false k0 k o i l h g = let less = g h in omega arith

  -- a name that is known has a place below the count of names
  pub index_less : (ks : List (Known N)) (n : N) (k : Known N) → entry_of K ks n ≡ Some k → index_at K ks n < length ks
  unfolding entry_of index_at
  index_less [] n k e = absurd (none_some n k e)
  index_less (k0 ∷ ks) n k e = index_under (K.same k0.name n) k0 k (entry_of K ks n) (index_at K ks n) (length ks) e (λ h. index_less ks n k h)

  index_over : (a : Bool) (k0 : Known N) (o : Option (Known N)) (i l : ℕ) → ◌≡◌ {A = Option (Known N)} (elim a [ true ↦ Some k0 | false ↦ o ]) None → (o ≡ None → l ≤ i) → suc l ≤ (elim a [ true ↦ zero | false ↦ suc i ])
  index_over true k0 o i l h g = cc
  index_over false k0 o i l h g = let less = g h in omega arith

  -- a name that is not known would come after all of them
  pub index_last : (ks js : List (Known N)) (n : N) → entry_of K ks n ≡ None → length ks ≤ index_at K (ks ++ js) n
  unfolding entry_of index_at
  index_last [] js n e = omega arith
  index_last (k0 ∷ ks) js n e = index_over (K.same k0.name n) k0 (entry_of K ks n) (index_at K (ks ++ js) n) (length ks) e (λ h. index_last ks js n h)

-- ---- what a change leaves of standing and of what waits

pub unless_either : {N : Type 0} (P : Known N → Type 0) (t : Standing N) (k new : Known N) → P k → P new → P (unless_settled t k new)
unfolding unless_settled
unless_either P (Settled y) k new h i = h
unless_either P other k new h i = i

-- a change that settles nothing and views nothing
pub record Mild {N : Type 0} (c : Change N) : Type 0 where
  pub viewed : (k : Known N) (g : N) → (changed c k).standing ≡ Viewed g → k.standing ≡ Viewed g
  pub pending : (k : Known N) → IsOpen k.standing → IsOpen (changed c k).standing
  pub waits : (k : Known N) (n : N) → IsAmong n k.waiting → IsAmong n (changed c k).waiting

waits_view : {N : Type 0} (q g : N) → WaitsOn q ≡ Viewed g → ⊥
waits_view q g e = cc

waits_settled : {N : Type 0} (q : N) (y : Value N) → WaitsOn q ≡ Settled y → ⊥
waits_settled q y e = cc

module _ {N : Type 0} (c : Change N) where
  of_new : ((k : Known N) (g : N) → (changed_to c k).standing ≡ Viewed g → k.standing ≡ Viewed g) → ((k : Known N) → IsOpen k.standing → IsOpen (changed_to c k).standing) → ((k : Known N) (n : N) → IsAmong n k.waiting → IsAmong n (changed_to c k).waiting) → Mild c
  unfolding changed
  of_new f g h = record {
    viewed = λ k q e. unless_either (λ x. x.standing ≡ Viewed q → k.standing ≡ Viewed q) k.standing k (changed_to c k) (λ i. i) (f k q) e;
    pending = λ k o. unless_either (λ x. IsOpen x.standing) k.standing k (changed_to c k) o (g k o);
    waits = λ k n a. unless_either (λ x. IsAmong n x.waiting) k.standing k (changed_to c k) a (h k n a);
  }

pub mild_hold : {N : Type 0} (m : Message N) → Mild (Hold m)
unfolding changed_to
mild_hold m = of_new (Hold m) (λ k g e. e) (λ k o. o) (λ k n a. a)

pub mild_wait : {N : Type 0} (q : N) → Mild (Wait q)
unfolding changed_to
mild_wait q = of_new (Wait q) (λ k g e. e) (λ k o. o) (λ k n a. among_more n k.waiting q a)

pub mild_wait_on : {N : Type 0} (q : N) → Mild (WaitOn q)
unfolding changed_to
mild_wait_on q = of_new (WaitOn q) (λ k g e. absurd (waits_view q g e)) (λ k o y e. waits_settled q y e) (λ k n a. a)

pub mild_react : {N : Type 0} (m : Message N) → Mild (React m)
unfolding changed_to
mild_react m = of_new (React m) (λ k g e. e) (λ k o. o) (λ k n a. a)

pub mild_to_tell : {N : Type 0} (w : ℕ) → Mild {N = N} (ToTell w)
unfolding changed_to
mild_to_tell w = of_new (ToTell w) (λ k g e. e) (λ k o. o) (λ k n a. a)
