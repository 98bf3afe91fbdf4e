-- What is known with one entry in another's place.
use Rattle.std.proofs.Common.{◌≡◌, ℕ, suc, Bool, true, false, List, [], ◌∷◌, ◌++◌, Option, Some, None, length, refl, sym, ap, subst, ◌∙◌}
use Rattle.def_machine.specs.Values.{Name, Naming, naming}
use Rattle.def_machine.specs.State.{Known, Change, with_change, changed}
use Rattle.def_machine.specs.Refs.{entry_of}
use Rattle.def_run.specs.World.{Script, names}
use Rattle.law_order.proofs.Ordering.Entries.{reference_is}
use Rattle.law_order.proofs.Ordering.Sends.{changed_name}

unfoldable pub put_known : Naming Name Name → Name → Known Name → List (Known Name) → List (Known Name)
put_known K p j [] = []
put_known K p j (k ∷ ks) = elim (K.same k.name p) [ true ↦ j ∷ ks | false ↦ k ∷ put_known K p j ks ]

none_some : {A : Type 0} (k : Known Name) → ◌≡◌ {A = Option (Known Name)} None (Some k) → A
none_some k e = absurd (cc)

some_is : (j k : Known Name) → Some j ≡ Some k → j ≡ k
some_is j k e = cc

module _ (script : Script) (v : ℕ) (p : Name) where
  abbrev K : Naming Name Name
  K = names script v

  abbrev One : Bool → Known Name → Option (Known Name) → Option (Known Name)
  One b k o = elim b [ true ↦ Some k | false ↦ o ]

  one_true : (b : Bool) (k : Known Name) (o : Option (Known Name)) → b ≡ true → One b k o ≡ Some k
  one_true b k o e = ap (λ z. One z k o) e

  one_false : (b : Bool) (k : Known Name) (o : Option (Known Name)) → b ≡ false → One b k o ≡ o
  one_false b k o e = ap (λ z. One z k o) e

  name_is : (a b : Name) → K.same a b ≡ true → a ≡ b
  unfolding names naming
  name_is a b e = reference_is a b e

  not_same : (a b : Name) → (a ≡ b → ⊥) → K.same a b ≡ false
  not_same a b f = go (K.same a b) refl
    where
      go : (c : Bool) → K.same a b ≡ c → c ≡ false
      go true e = absurd (f (name_is a b e))
      go false e = refl

  -- what is found under a name has that name
  pub found_name : (ks : List (Known Name)) (k : Known Name) → entry_of K ks p ≡ Some k → (k.name ≡ p) × (K.same p p ≡ true)
  unfolding entry_of
  found_name [] k e = none_some k e
  found_name (x ∷ ks) k e = go (K.same x.name p) refl e (found_name ks k)
    where
      go : (b : Bool) → K.same x.name p ≡ b → One b x (entry_of K ks p) ≡ Some k → (entry_of K ks p ≡ Some k → (k.name ≡ p) × (K.same p p ≡ true)) → (k.name ≡ p) × (K.same p p ≡ true)
      go true i e f = let same : x ≡ k = some_is x k e in let n : x.name ≡ p = name_is x.name p i in (ap (λ (z : Known Name). z.name) (sym same) ∙ n, subst (λ z. K.same z p ≡ true) n i)
      go false i e f = f e

  module _ (j : Known Name) (named : j.name ≡ p) where
    pub put_here : (ks : List (Known Name)) (k : Known Name) → entry_of K ks p ≡ Some k → entry_of K (put_known K p j ks) p ≡ Some j
    unfolding entry_of put_known
    put_here [] k e = none_some k e
    put_here (x ∷ ks) k e = go (K.same x.name p) refl e (put_here ks k)
      where
        go : (b : Bool) → K.same x.name p ≡ b → One b x (entry_of K ks p) ≡ Some k → (entry_of K ks p ≡ Some k → entry_of K (put_known K p j ks) p ≡ Some j) → entry_of K (elim b [ true ↦ j ∷ ks | false ↦ x ∷ put_known K p j ks ]) p ≡ Some j
        go true i e f = one_true (K.same j.name p) j (entry_of K ks p) (ap (λ z. K.same z p) (named ∙ sym (name_is x.name p i)) ∙ i)
        go false i e f = one_false (K.same x.name p) x (entry_of K (put_known K p j ks) p) i ∙ f e

    pub put_other : (n : Name) → (n ≡ p → ⊥) → (ks : List (Known Name)) → entry_of K (put_known K p j ks) n ≡ entry_of K ks n
    unfolding entry_of put_known
    put_other n f [] = refl
    put_other n f (x ∷ ks) = go (K.same x.name p) refl (put_other n f ks)
      where
        go : (b : Bool) → K.same x.name p ≡ b → entry_of K (put_known K p j ks) n ≡ entry_of K ks n → entry_of K (elim b [ true ↦ j ∷ ks | false ↦ x ∷ put_known K p j ks ]) n ≡ One (K.same x.name n) x (entry_of K ks n)
        go true i h = one_false (K.same j.name n) j (entry_of K ks n) (not_same j.name n (λ e. f (sym e ∙ named))) ∙ sym (one_false (K.same x.name n) x (entry_of K ks n) (not_same x.name n (λ e. f (sym e ∙ name_is x.name p i))))
        go false i h = ap (λ o. One (K.same x.name n) x o) h

    pub put_length : (ks : List (Known Name)) → length (put_known K p j ks) ≡ length ks
    unfolding put_known
    put_length [] = refl
    put_length (x ∷ ks) = go (K.same x.name p) (put_length ks)
      where
        go : (b : Bool) → length (put_known K p j ks) ≡ length ks → length {A = Known Name} (elim b [ true ↦ j ∷ ks | false ↦ x ∷ put_known K p j ks ]) ≡ suc (length ks)
        go true h = refl
        go false h = ap suc h

    -- one more that comes to be known
    pub put_append : (ks : List (Known Name)) (k x : Known Name) → entry_of K ks p ≡ Some k → put_known K p j (ks ++ x ∷ []) ≡ put_known K p j ks ++ x ∷ []
    unfolding entry_of put_known
    put_append [] k x e = none_some k e
    put_append (y ∷ ks) k x e = go (K.same y.name p) e (put_append ks k x)
      where
        go : (b : Bool) → One b y (entry_of K ks p) ≡ Some k → (entry_of K ks p ≡ Some k → put_known K p j (ks ++ x ∷ []) ≡ put_known K p j ks ++ x ∷ [])
            → ◌≡◌ {A = List (Known Name)} (elim b [ true ↦ j ∷ (ks ++ x ∷ []) | false ↦ y ∷ put_known K p j (ks ++ x ∷ []) ]) (elim b [ true ↦ j ∷ ks | false ↦ y ∷ put_known K p j ks ] ++ x ∷ [])
        go true e f = refl
        go false e f = ap (λ zs. y ∷ zs) (f e)

    -- a change of another name
    pub put_change : (c : Change Name) (m : Name) → (m ≡ p → ⊥) → (ks : List (Known Name)) → put_known K p j (with_change K c m ks) ≡ with_change K c m (put_known K p j ks)
    unfolding put_known with_change
    put_change c m f [] = refl
    put_change c m f (x ∷ ks) = go (K.same x.name p) (K.same x.name m) refl refl (put_change c m f ks)
      where
        go : (a b : Bool) → K.same x.name p ≡ a → K.same x.name m ≡ b → put_known K p j (with_change K c m ks) ≡ with_change K c m (put_known K p j ks)
            → put_known K p j (elim b [ true ↦ changed c x ∷ ks | false ↦ x ∷ with_change K c m ks ]) ≡ with_change K c m (elim a [ true ↦ j ∷ ks | false ↦ x ∷ put_known K p j ks ])
        go true true q r i = absurd (f (sym (name_is x.name m r) ∙ name_is x.name p q))
        go true false q r i = ap (λ z. elim z [ true ↦ j ∷ with_change K c m ks | false ↦ x ∷ put_known K p j (with_change K c m ks) ]) q ∙ sym (ap (λ z. elim z [ true ↦ changed c j ∷ ks | false ↦ j ∷ with_change K c m ks ]) (not_same j.name m (λ e. f (sym e ∙ named))))
        go false true q r i = ap (λ z. elim z [ true ↦ j ∷ ks | false ↦ changed c x ∷ put_known K p j ks ]) (ap (λ z. K.same z p) (changed_name c x) ∙ q) ∙ sym (ap (λ z. elim z [ true ↦ changed c x ∷ put_known K p j ks | false ↦ x ∷ with_change K c m (put_known K p j ks) ]) r)
        go false false q r i = ap (λ z. elim z [ true ↦ j ∷ with_change K c m ks | false ↦ x ∷ put_known K p j (with_change K c m ks) ]) q ∙ (ap (λ zs. x ∷ zs) i ∙ sym (ap (λ z. elim z [ true ↦ changed c x ∷ put_known K p j ks | false ↦ x ∷ with_change K c m (put_known K p j ks) ]) r))
