-- Labels that spread over places that lead to others.
use Rattle.std.specs.Prelude.{◌≡◌, ◌<◌, ◌≤◌, ◌⊎◌, ℕ, Bool, true, false, List, [], ◌∷◌, ◌++◌, length, Option, Some, None, slice_get, if◌then◌else◌}
use Rattle.ev_order.specs.declared.spread.Place.{Place}
use Rattle.std.proofs.Math.ListN.{set}

-- ---- which places lead to which

-- the first place leads to the second in one step
abbrev pub LeadsOn : List Place → ℕ → ℕ → Type 0
LeadsOn places a b = (p : Place) × (slice_get places a ≡ Some p) × ((p.next ≡ Some b) ⊎ (p.over ≡ Some b))

-- in any number of steps
pub data Leads (places : List Place) (a : ℕ) : ℕ → Type 0 where
  Here : (b : ℕ) → b ≡ a → Leads places a b
  On : (b c : ℕ) → Leads places a b → LeadsOn places b c → Leads places a c

-- ---- labels

abbrev pub Labels : Type 0
Labels = List (Option ℕ)

abbrev pub HasLabel : Labels → ℕ → ℕ → Type 0
HasLabel labels n k = slice_get labels n ≡ Some (Some k)

abbrev pub IsLabelled : Labels → ℕ → Type 0
IsLabelled labels n = (k : ℕ) × HasLabel labels n k

-- seed number k is this place
abbrev pub IsSeed : List (Option ℕ) → ℕ → ℕ → Type 0
IsSeed seeds k a = slice_get seeds k ≡ Some (Some a)

-- Each place has the number of the first seed that leads to it, and no label where none does.
pub record HasFirstLabels (places : List Place) (seeds : List (Option ℕ)) (labels : Labels) : Type 0 where
  pub same_length : length labels ≡ length places
  pub leads : (n k : ℕ) → HasLabel labels n k → (a : ℕ) × IsSeed seeds k a × Leads places a n
  pub first : (n k a : ℕ) → IsSeed seeds k a → Leads places a n → n < length places → (j : ℕ) × (j ≤ k) × HasLabel labels n j

-- ---- the work

-- a place that is there and has no label
abbrev pub is_free : Option (Option ℕ) → Bool
is_free (Some None) = true
is_free _ = false

-- a free place is labelled
abbrev pub labelled : ℕ → ℕ → Labels → Labels
labelled n k labels = if is_free (slice_get labels n) then set labels n (Some k) else labels

-- and is among those that were reached
abbrev pub reached_by : ℕ → Labels → List ℕ → List ℕ
reached_by n labels reached = if is_free (slice_get labels n) then reached ++ n ∷ [] else reached

abbrev pub labelled_target : Option ℕ → ℕ → Labels → Labels
labelled_target None k labels = labels
labelled_target (Some n) k labels = labelled n k labels

abbrev pub reached_target : Option ℕ → Labels → List ℕ → List ℕ
reached_target None labels reached = reached
reached_target (Some n) labels reached = reached_by n labels reached

-- what a place leads to is labelled
abbrev pub gone_on : Option Place → ℕ → Labels → Labels
gone_on None k labels = labels
gone_on (Some p) k labels = labelled_target p.over k (labelled_target p.next k labels)

abbrev pub reached_from : Option Place → ℕ → Labels → List ℕ → List ℕ
reached_from None k labels reached = reached
reached_from (Some p) k labels reached = reached_target p.over (labelled_target p.next k labels) (reached_target p.next labels reached)

-- as many labels as places, and what a labelled place leads to is labelled
pub record IsWhole (places : List Place) (labels : Labels) : Type 0 where
  pub same_length : length labels ≡ length places
  pub closed : (a b : ℕ) → IsLabelled labels a → LeadsOn places a b → b < length places → IsLabelled labels b

-- All that a seed leads to is labelled now, by its label where it had none, and nothing else.
pub record Spreads (places : List Place) (seed label : ℕ) (old now : Labels) : Type 0 where
  pub whole : IsWhole places now
  pub kept : (n k : ℕ) → HasLabel old n k → HasLabel now n k
  pub fresh : (n k : ℕ) → HasLabel now n k → HasLabel old n k ⊎ ((k ≡ label) × Leads places seed n)
  pub seeded : seed < length places → IsLabelled now seed

-- nothing changes where there is no seed
abbrev pub SpreadsSeed : List Place → Option ℕ → ℕ → Labels → Labels → Type 0
SpreadsSeed places None label old now = now ≡ old
SpreadsSeed places (Some seed) label old now = Spreads places seed label old now
