-- How what a vat does leads from state to state, where each change that makes no wait and no view leads so.
use Rattle.std.proofs.Common.{◌≡◌, ℕ, Option, Some, None}
use Rattle.def_machine.specs.Values.{Value, Naming}
use Rattle.def_machine.specs.State.{Message, Standing, WaitsOn, Viewed, Known, Vat, Change, Hold, Wait, React, ToTell, Settle, changed, changed_to, alter}
use Rattle.law_reference.proofs.Reference.Entries.{unless_either}
use Rattle.law_reference.proofs.Reference.Gentle.{Gentle, GoesBy, goes}

-- the name on which it waits, or that is its view
unfoldable pub next : {N : Type 0} → Standing N → Option N
next (WaitsOn q) = Some q
next (Viewed q) = Some q
next other = None

-- a change after which a name waits on nothing on which it did not
abbrev pub IsCalmChange : {N : Type 0} → Change N → Type 0
IsCalmChange {N} c = (k : Known N) (q : N) → next (changed c k).standing ≡ Some q → next k.standing ≡ Some q

module _ {N : Type 0} (c : Change N) where
  of_new : ((k : Known N) (q : N) → next (changed_to c k).standing ≡ Some q → next k.standing ≡ Some q) → IsCalmChange c
  unfolding changed
  of_new f k q e = unless_either (λ x. next x.standing ≡ Some q → next k.standing ≡ Some q) k.standing k (changed_to c k) (λ i. i) (f k q) e

change_hold : {N : Type 0} (m : Message N) → IsCalmChange (Hold m)
unfolding changed_to
change_hold m = of_new (Hold m) (λ k q e. e)

pub change_wait : {N : Type 0} (q : N) → IsCalmChange (Wait q)
unfolding changed_to
change_wait q = of_new (Wait q) (λ k r e. e)

change_react : {N : Type 0} (m : Message N) → IsCalmChange (React m)
unfolding changed_to
change_react m = of_new (React m) (λ k q e. e)

change_to_tell : {N : Type 0} (w : ℕ) → IsCalmChange {N = N} (ToTell w)
unfolding changed_to
change_to_tell w = of_new (ToTell w) (λ k q e. e)

change_settle : {N : Type 0} (y : Value N) → IsCalmChange (Settle y)
unfolding changed_to next
change_settle y = of_new (Settle y) (λ k q e. cc)

-- where it is a message that is held, G holds of its name and its answer
abbrev pub HoldsBy : {N : Type 0} → (N → Option N → Type 0) → Change N → Type 0
HoldsBy G (Hold m) = G m.id m.answer
HoldsBy G _ = Unit {0}

-- a change that makes no wait and no view, and holds none but good messages
abbrev pub CalmWith : {N : Type 0} → (N → Option N → Type 0) → Change N → Type 0
CalmWith G c = IsCalmChange c × HoldsBy G c

-- so each such change leads
abbrev pub IsCalm : {N W : Type 0} → Naming N W → (N → Option N → Type 0) → (Vat N → Vat N → Type 0) → Type 0
IsCalm K G R = GoesBy K (CalmWith G) R

module _ {N W : Type 0} (K : Naming N W) (G : N → Option N → Type 0) (R : Vat N → Vat N → Type 0) (law : IsCalm K G R) where
  pub calm_hold : (m : Message N) (n : N) → G m.id m.answer → Gentle R (alter K (Hold m) n)
  unfolding alter
  calm_hold m n g = record { after = λ s. law.altered s (Hold m) n (change_hold m, g) }

  pub calm_wait : (q n : N) → Gentle R (alter K (Wait q) n)
  unfolding alter
  calm_wait q n = record { after = λ s. law.altered s (Wait q) n (change_wait q, tt) }

  pub calm_settled : (y : Value N) (n : N) → Gentle R (alter K (Settle y) n)
  unfolding alter
  calm_settled y n = record { after = λ s. law.altered s (Settle y) n (change_settle y, tt) }

  pub calm_react : (m : Message N) (n : N) → Gentle R (alter K (React m) n)
  unfolding alter
  calm_react m n = record { after = λ s. law.altered s (React m) n (change_react m, tt) }

  pub calm_to_tell : (w : ℕ) (n : N) → Gentle R (alter K (ToTell w) n)
  unfolding alter
  calm_to_tell w n = record { after = λ s. law.altered s (ToTell w) n (change_to_tell w, tt) }

pub ruleset calm = (goes, calm_hold, calm_wait, calm_settled, calm_react, calm_to_tell)
