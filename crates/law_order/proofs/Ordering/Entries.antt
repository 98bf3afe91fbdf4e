-- What is known of names after the change of one.
use Rattle.std.proofs.Common.{◌≡◌, ℕ, suc, Bool, true, false, List, [], ◌∷◌, Option, Some, length, refl, sym, ap, subst, ◌∙◌}
use Rattle.def_machine.specs.Values.{Name, Sent, Naming, same_reference, naming}
use Rattle.def_machine.specs.State.{Known, Change}
use Rattle.def_machine.specs.State as state
use Rattle.def_machine.specs.Refs as refs
use Rattle.def_run.specs.World.{Script, names}
use Rattle.law_order.proofs.Ordering.Named.{same_is, false_true}
use Rattle.law_order.proofs.Ordering.Sends.{changed_name}

pub reference_is : (a b : Name) → same_reference a b ≡ true → a ≡ b
unfolding same_reference
reference_is (Sent m) b e = false_true e
reference_is other b e = same_is other b e

module _ (script : Script) (v : ℕ) (c : Change Name) (p : Name) where
  abbrev K : Naming Name Name
  K = names script v

  abbrev After : List (Known Name) → List (Known Name)
  After ks = state.with_change K c p ks

  same_is_one : (a b : Name) → K.same a b ≡ true → a ≡ b
  unfolding names naming
  same_is_one a b e = reference_is a b e

  -- what is known of a name after the change: as it was, or it is that name
  pub data Differs (n : Name) (a b : Option (Known Name)) : Type 0 where
    as_it_was : b ≡ a → Differs n a b
    changes : (k : Known Name) → n ≡ p → a ≡ Some k → b ≡ Some (state.changed c k) → Differs n a b

  abbrev Choose : Bool → Known Name → Option (Known Name) → Option (Known Name)
  Choose d k o = elim d [ true ↦ Some k | false ↦ o ]

  changed_first : (n : Name) (k : Known Name) (o : Option (Known Name)) (d : Bool) → K.same k.name p ≡ true → K.same k.name n ≡ d → Differs n (Choose d k o) (Choose d (state.changed c k) o)
  changed_first n k o true e i = changes k (sym (same_is_one k.name n i) ∙ same_is_one k.name p e) refl refl
  changed_first n k o false e i = as_it_was refl

  kept_first : (n : Name) (k : Known Name) (a b : Option (Known Name)) (d : Bool) → Differs n a b → Differs n (Choose d k a) (Choose d k b)
  kept_first n k a b true h = as_it_was refl
  kept_first n k a b false h = h

  pub differs : (n : Name) (ks : List (Known Name)) → Differs n (refs.entry_of K ks n) (refs.entry_of K (After ks) n)
  unfolding refs.entry_of state.with_change
  differs n [] = as_it_was refl
  differs n (k ∷ ks) = go (differs n ks) (K.same k.name p) refl
    where
      go : Differs n (refs.entry_of K ks n) (refs.entry_of K (After ks) n) → (d : Bool) → K.same k.name p ≡ d → Differs n (Choose (K.same k.name n) k (refs.entry_of K ks n)) (refs.entry_of K (elim d [ true ↦ state.changed c k ∷ ks | false ↦ k ∷ After ks ]) n)
      go h true e = subst (λ z. Differs n (Choose (K.same k.name n) k (refs.entry_of K ks n)) (Choose (K.same z n) (state.changed c k) (refs.entry_of K ks n))) (sym (changed_name c k)) (changed_first n k (refs.entry_of K ks n) (K.same k.name n) e refl)
      go h false e = kept_first n k (refs.entry_of K ks n) (refs.entry_of K (After ks) n) (K.same k.name n) h

  pub same_length : (ks : List (Known Name)) → length (After ks) ≡ length ks
  unfolding state.with_change
  same_length [] = refl
  same_length (k ∷ ks) = go (same_length ks) (K.same k.name p)
    where
      go : length (After ks) ≡ length ks → (d : Bool) → length {A = Known Name} (elim d [ true ↦ state.changed c k ∷ ks | false ↦ k ∷ After ks ]) ≡ suc (length ks)
      go h true = refl
      go h false = ap suc h
