-- A gift that is under way is known to its host alone, which has it not in hand.
use Rattle.std.specs.Prelude.{◌≡◌, ℕ, ◌≤◌, Some, slice_get}
use Rattle.def_machine.specs.Values.{Name, Root, Object, Promise, Answer, Gift, Sent}
use Rattle.def_machine.specs.State.{Vat}
use Rattle.def_run.specs.World.{World}
use Rattle.law_fate.specs.Name.Names.{Bit, Named, Mail, Drew, At, Off, Entered, Owns, Gave, AllOf, IsAmong, IsMessageName, NoteOk, Everywhere, names_in}
use Rattle.law_fate.specs.Name.Runs.{InRuns}
use Rattle.law_reference.specs.Reference.GiftPassing.{gifts_under_way}

module _ (i : ℕ) where
  -- it is no gift of draw i
  abbrev pub IsNotOf : Name → Type 0
  IsNotOf (Gift h j) = j ≡ i → ⊥
  IsNotOf (Root w) = Unit {0}
  IsNotOf (Object w j) = Unit {0}
  IsNotOf (Promise w j) = Unit {0}
  IsNotOf (Answer h m) = Unit {0}
  IsNotOf (Sent m) = Unit {0}

  -- nor is it one but of vat v
  abbrev pub IsOfNoOther : ℕ → Name → Type 0
  IsOfNoOther v (Gift h j) = j ≡ i → h ≡ v
  IsOfNoOther v (Root w) = Unit {0}
  IsOfNoOther v (Object w j) = Unit {0}
  IsOfNoOther v (Promise w j) = Unit {0}
  IsOfNoOther v (Answer h m) = Unit {0}
  IsOfNoOther v (Sent m) = Unit {0}

  -- What vat v has in hand is no gift of draw i; and a name of which it knows something is none but its own, where it stands as the gift of that draw.
  abbrev pub Shuns : ℕ → Bit Name → Type 0
  Shuns v (Named n) = IsNotOf n
  Shuns v (Mail n) = IsMessageName n
  Shuns v (Drew j) = Unit {0}
  Shuns v (At h) = Unit {0}
  Shuns v (Off h) = Unit {0}
  Shuns v (Entered n) = IsOfNoOther v n
  Shuns v (Owns n j) = IsOfNoOther v n × ((j ≡ i → ⊥) → IsNotOf n)
  Shuns v (Gave j) = j ≡ i → ⊥

  -- what a note tells is no gift of draw i, nor does it ask for one
  abbrev pub Spares : Bit Name → Type 0
  Spares (Named n) = IsNotOf n
  Spares (Mail n) = IsMessageName n
  Spares (Drew j) = Unit {0}
  Spares (At h) = Unit {0}
  Spares (Off h) = Unit {0}
  Spares (Entered n) = Unit {0}
  Spares (Owns n j) = Unit {0}
  Spares (Gave j) = j ≡ i → ⊥

-- no vat has gifts of draw i in hand, no vat but the host of one knows it, and no note names one but as a gift that passes
abbrev pub IsHidden : ℕ → World → Type 0
IsHidden i w = ((v : ℕ) (s : Vat Name) → slice_get w.vats v ≡ Some s → Everywhere (Shuns i v) s) × AllOf (λ l. AllOf (NoteOk (Spares i)) l.notes) w.links

-- So it is as long as a gift of the draw is under way.
abbrev pub GiftsUnderWayAreHidden : Type 0
GiftsUnderWayAreHidden = InRuns (λ w. (i : ℕ) → 1 ≤ gifts_under_way i w.links → IsHidden i w)

-- Who knows a gift that is under way is its host.
abbrev pub KnownToTheirHostsAlone : Type 0
KnownToTheirHostsAlone = InRuns (λ w. (h i v : ℕ) (s : Vat Name) → 1 ≤ gifts_under_way i w.links → slice_get w.vats v ≡ Some s → IsAmong (Gift h i) (names_in s.known) → h ≡ v)
