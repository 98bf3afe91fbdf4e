-- A note from a vat that has not a key in hand, where no gift that is provided is of that key, brings none of it.
use Rattle.std.proofs.Common.{◌≡◌, ℕ, List}
use Rattle.def_machine.specs.Values.{Name}
use Rattle.def_machine.specs.State.{Passed, Passeds, Plain, AGift, Many, NoMore, More, Note, Deliver, Open, SettledTo}
use Rattle.law_fate.specs.Name.Names.{PassedOk, PassedsOk, NoteOk}
use Rattle.law_reference.specs.Reference.GiftPassing.{IsProvidedBy, PassesFrom, AllPassFrom, Provides}
use Rattle.law_reference.specs.Reference.Hiding.{IsNotOf, Spares}
use Rattle.law_reference.proofs.Reference.Arrivals.{PassedTells, PassedsTell, NoteTells, value_tells}

module _ (i : ℕ) (P : ℕ → ℕ) (d : List ℕ) (other : (j p : ℕ) → IsProvidedBy P d j p → j ≡ i → ⊥) (v w : ℕ) where
  mutual
    passed_spares : (y : Passed Name) → PassedOk (Spares i) y → PassesFrom P d v w y → PassedTells (IsNotOf i) (λ h j. j ≡ i → ⊥) (λ j. j ≡ i → ⊥) y
    passed_spares (Plain y) f o = value_tells (IsNotOf i) (λ h j. j ≡ i → ⊥) (λ j. j ≡ i → ⊥) (Spares i) (λ n k. k) y f
    passed_spares (AGift h j) f o = other j v o.0
    passed_spares (Many ys) f o = passeds_spare ys f o

    passeds_spare : (ys : Passeds Name) → PassedsOk (Spares i) ys → AllPassFrom P d v w ys → PassedsTell (IsNotOf i) (λ h j. j ≡ i → ⊥) (λ j. j ≡ i → ⊥) ys
    passeds_spare NoMore f o = tt
    passeds_spare (More y ys) f o = (passed_spares y f.0 o.0, passeds_spare ys f.1 o.1)

  pub note_spares : (n : Note Name) → NoteOk (Spares i) n → Provides P d v w n → NoteTells (IsNotOf i) (λ h j. j ≡ i → ⊥) (λ j. j ≡ i → ⊥) n
  note_spares (Deliver m n verb ys) f o = (f.0, f.1, passeds_spare ys f.2 o)
  note_spares (Open j n) f o = f.1
  note_spares (SettledTo n y) f o = (f.0, passed_spares y f.1 o)
  note_spares other f o = f.0
