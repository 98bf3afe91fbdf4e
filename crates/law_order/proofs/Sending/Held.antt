-- What care has told of what a vat has: its names are known to it, so it has them in hand.
use Rattle.std.proofs.Common.{◌≡◌, ℕ, zero, suc, Bool, true, false, List, [], ◌∷◌, Some, refl, sym, subst, ◌⊎◌, inl, inr}
use Rattle.std.specs.Prelude.{slice_get}
use Rattle.def_machine.specs.Values.{Value, Null, Flag, Number, Letter, Text, Prim, Broken, Items, Ref, Name, Object, naming, same_reference}
use Rattle.def_machine.specs.State.{Known, Vat}
use Rattle.def_machine.specs.Refs.{entry_of}
use Rattle.def_run.specs.Draws.{draw_word}
use Rattle.def_run.specs.World.{Script, World, names}
use Rattle.law_fate.specs.Name.Names.{Bit, Named, AllOf, IsAmong, IsKnownIn, IsHad, IsEventual, names_in, ValueOk, ValuesOk}
use Rattle.law_fate.proofs.Name.SameNames.{reference_self}
use Rattle.law_order.specs.Ordering.Worlds.{IsObject}
use Rattle.law_order.specs.Ordering.Steps.{IsHeld}
use Rattle.law_order.specs.Sending.Came.{HoldsMembers}

-- a name that is known is found
entry_there : (word : ℕ → ℕ) (v : ℕ) (ks : List (Known Name)) (n : Name) → AllOf IsEventual (names_in ks) → IsAmong n (names_in ks) → (k : Known Name) × (entry_of (naming word v) ks n ≡ Some k)
unfolding entry_of naming
entry_there word v [] n h i = absurd i
entry_there word v (j ∷ ks) n h i = go (same_reference j.name n) refl i (entry_there word v ks n h.1)
  where
    go : (b : Bool) → same_reference j.name n ≡ b → (n ≡ j.name) ⊎ IsAmong n (names_in ks) → (IsAmong n (names_in ks) → (k : Known Name) × (entry_of (naming word v) ks n ≡ Some k)) → (k : Known Name) × ((elim b [ true ↦ Some j | false ↦ entry_of (naming word v) ks n ]) ≡ Some k)
    go true e c f = (j, refl)
    go false e (inl q) f = absurd (let t : same_reference j.name n ≡ true = subst (λ m. same_reference j.name m ≡ true) (sym q) (reference_self j.name h.0) in cc)
    go false e (inr q) f = f q

-- P: what is said of the names in what the vat has
module _ (script : Script) (honest : ℕ → Bool) (w : World) (v : ℕ) (r : Vat Name) (P : Bit Name → Type 0) (had : (b : Bit Name) → P b → IsHad (names_in r.known) r.mails b) (apart : AllOf IsEventual (names_in r.known)) where
  name_held : (n : Name) → IsKnownIn (names_in r.known) n → IsObject n ⊎ ((k : Known Name) × (entry_of (names script v) r.known n ≡ Some k))
  unfolding names
  name_held (Object u i) h = inl tt
  name_held other h = inr (entry_there (draw_word script.key) v r.known other apart h)

  pub value_held : (x : Value Name) → ValueOk P x → IsHeld script honest w v r x
  value_held (Ref n) h = name_held n (had (Named n) h)
  value_held Null h = tt
  value_held (Flag b) h = tt
  value_held (Number b) h = tt
  value_held (Letter b) h = tt
  value_held (Text b) h = tt
  value_held (Prim b) h = tt
  value_held (Broken b) h = tt
  value_held (Items b) h = tt

  pub values_held : (xs : List (Value Name)) → ValuesOk P xs → AllOf (IsHeld script honest w v r) xs
  values_held [] h = tt
  values_held (x ∷ xs) h = (value_held x h.0, values_held xs h.1)

  list_held : (ls : List (List (Value Name))) → AllOf (ValuesOk P) ls → (k : ℕ) (vs : List (Value Name)) → slice_get ls k ≡ Some vs → AllOf (IsHeld script honest w v r) vs
  list_held [] h k vs e = absurd (cc)
  list_held (l ∷ ls) h zero vs e = let same : l ≡ vs = cc in subst (λ us. AllOf (IsHeld script honest w v r) us) same (values_held l h.0)
  list_held (l ∷ ls) h (suc k) vs e = list_held ls h.1 k vs e

  pub members_held : AllOf (ValuesOk P) r.lists → HoldsMembers script honest w v r
  members_held h k vs e = list_held r.lists h k vs e
