-- A vat that hosts the answers of the messages that it holds, through the changes of what is known.
use Rattle.std.proofs.Common.{◌≡◌, ℕ, Bool, true, false, List, [], ◌∷◌, ◌++◌, Option, Some}
use Rattle.def_machine.specs.Values.{Name, Naming, host_of}
use Rattle.def_machine.specs.State.{Known, Change, Hold, Settle, Vat, with_change, changed, changed_to, begun, WhereSome}
use Rattle.def_machine.specs.Refs.{entry_of}
use Rattle.law_fate.specs.Name.Names.{AllOf, IsMessageName}
use Rattle.law_fate.proofs.Name.Facts.{all_end}
use Rattle.law_reference.specs.Reference.Own.{IsOwnMail}
use Rattle.law_reference.proofs.Reference.Entries.{unless_either}
use Rattle.law_reference.proofs.Reference.Calm.{HoldsBy}

module _ (v : ℕ) where
  -- the name of a message, and its answer, which vat v hosts
  abbrev pub IsOwnPair : Name → Option Name → Type 0
  IsOwnPair i o = IsMessageName i × WhereSome (λ a. host_of a ≡ v) o

  -- another vat
  abbrev pub IsOther : ℕ → Type 0
  IsOther h = h ≡ v → ⊥

  abbrev pub HoldsOwn : Known Name → Type 0
  HoldsOwn k = AllOf (IsOwnMail v) k.held

  abbrev pub Owned : Vat Name → Type 0
  Owned s = (s.number ≡ v) × AllOf HoldsOwn s.known

  to_held : (c : Change Name) (k : Known Name) → HoldsBy IsOwnPair c → HoldsOwn k → HoldsOwn (changed_to c k)
  unfolding changed_to
  to_held (Hold m) k g h = all_end (IsOwnMail v) k.held m h g
  to_held (Settle y) k g h = tt
  to_held other k g h = h

  held_changed : (c : Change Name) (k : Known Name) → HoldsBy IsOwnPair c → HoldsOwn k → HoldsOwn (changed c k)
  unfolding changed
  held_changed c k g h = unless_either HoldsOwn k.standing k (changed_to c k) h (to_held c k g h)

  either_held : (b : Bool) (j k : Known Name) (ks ls : List (Known Name)) → HoldsOwn j → HoldsOwn k → AllOf HoldsOwn ks → AllOf HoldsOwn ls → AllOf HoldsOwn (elim b [ true ↦ j ∷ ks | false ↦ k ∷ ls ])
  either_held true j k ks ls a b c d = (a, c)
  either_held false j k ks ls a b c d = (b, d)

  pub owned_begun : (ks : List (Known Name)) (n : Name) (h : ℕ) → AllOf HoldsOwn ks → AllOf HoldsOwn (ks ++ begun n h ∷ [])
  unfolding begun
  owned_begun ks n h o = all_end HoldsOwn ks (begun n h) o tt

  module _ (K : Naming Name Name) where
    pub owned_changed : (c : Change Name) (n : Name) (ks : List (Known Name)) → HoldsBy IsOwnPair c → AllOf HoldsOwn ks → AllOf HoldsOwn (with_change K c n ks)
    unfolding with_change
    owned_changed c n [] g h = tt
    owned_changed c n (k ∷ ks) g h = either_held (K.same k.name n) (changed c k) k ks (with_change K c n ks) (held_changed c k g h.0) h.0 h.1 (owned_changed c n ks g h.1)

    entry_held : (b : Bool) (k0 k : Known Name) (o : Option (Known Name)) → HoldsOwn k0 → ◌≡◌ {A = Option (Known Name)} (elim b [ true ↦ Some k0 | false ↦ o ]) (Some k) → (o ≡ Some k → HoldsOwn k) → HoldsOwn k
    entry_held true k0 k o h e f = let same : k0 ≡ k = cc in rw same at h
    entry_held false k0 k o h e f = f e

    pub found_held : (ks : List (Known Name)) (n : Name) (k : Known Name) → AllOf HoldsOwn ks → entry_of K ks n ≡ Some k → HoldsOwn k
    unfolding entry_of
    found_held [] n k h e = cc
    found_held (k0 ∷ ks) n k h e = entry_held (K.same k0.name n) k0 k (entry_of K ks n) h.0 e (λ i. found_held ks n k h.1 i)
