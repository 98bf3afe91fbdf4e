-- The last place of each reference, as a list of pairs of which the first counts.
use Rattle.std.specs.Prelude.{◌≡◌, ◌≢◌, ◌⊎◌, ℕ, List, [], ◌∷◌}
use Rattle.def_event.specs.declared.reference.Reference.{Reference}

abbrev pub LastList : Type 0
LastList = List (Reference × ℕ)

abbrev pub IsLast : Reference → ℕ → LastList → Type 0
IsLast r i [] = ⊥
IsLast r i (e ∷ es) = ((e.0 ≡ r) × (e.1 ≡ i)) ⊎ ((e.0 ≢ r) × IsLast r i es)

abbrev pub HasNone : Reference → LastList → Type 0
HasNone r es = (i : ℕ) → IsLast r i es → ⊥

-- place i becomes the last of reference r, and the others stay
pub record Sets (r : Reference) (i : ℕ) (old now : LastList) : Type 0 where
  pub set : IsLast r i now
  pub kept : (q : Reference) (j : ℕ) → q ≢ r → IsLast q j old → IsLast q j now
  pub only : (q : Reference) (j : ℕ) → q ≢ r → IsLast q j now → IsLast q j old
