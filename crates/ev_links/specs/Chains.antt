-- Chains of names at places, in the terms of tables.
use Rattle.std.specs.Prelude.{◌≡◌, ◌≤◌, ℕ, ◌+◌, ◌^◌, cond, List, Option, Some, None}
use Rattle.std.specs.Map.{lookup}
use Rattle.ev_links.specs.declared.chains.End.{End}
use Rattle.ev_links.specs.declared.chains.Spot.{Spot}
use Rattle.ev_links.specs.declared.chains.Standing.{Standing}
use Rattle.ev_links.specs.declared.label.Label.{Label}
use Rattle.ev_links.specs.contracts.chains.SpotPartialEq.TheImpl.{eq-value}

abbrev pub spot : ℕ → Label → Spot
spot at l = record { at = at; name = l }

-- where the name stands at the place
unfoldable pub standing : List (Spot × Standing) → Spot → Option Standing
standing es s = lookup (eq-value.it s) es

-- how far the chain of that name at the place goes
unfoldable pub end_of : List (Spot × End) → Spot → Option End
end_of es s = lookup (eq-value.it s) es

abbrev pub PutsStanding : Spot → Standing → List (Spot × Standing) → List (Spot × Standing) → Type 0
PutsStanding s x old new = (q : Spot) → standing new q ≡ cond (eq-value.it s q) (Some x) (standing old q)

abbrev pub PutsEnd : Spot → End → List (Spot × End) → List (Spot × End) → Type 0
PutsEnd s x old new = (q : Spot) → end_of new q ≡ cond (eq-value.it s q) (Some x) (end_of old q)

-- the place after the end, where numbers reach so far
abbrev pub IsNextPlace : Option End → Option ℕ → Type 0
IsNextPlace None None = ⊥
IsNextPlace (Some e) None = 2 ^ 64 ≤ e.place + 1
IsNextPlace None (Some n) = n ≡ 0
IsNextPlace (Some e) (Some n) = n ≡ e.place + 1

abbrev pub IsWithin : ℕ → Option End → Type 0
IsWithin n None = ⊥
IsWithin n (Some e) = n ≤ e.place

pub record PlanTables : Type 0 where
  pub standings : List (Spot × Standing)
  pub ends : List (Spot × End)

-- what stands in a chain is within its end, and no two names stand at one place of it
pub record PlanStands (plan : PlanTables) : Type 0 where
  pub within : (at : ℕ) (l : Label) (x : Standing) → standing plan.standings (record { at = at; name = l }) ≡ Some x → IsWithin x.place (end_of plan.ends (record { at = at; name = x.chain }))
  pub one : (at : ℕ) (l m : Label) (x : Standing) → standing plan.standings (record { at = at; name = l }) ≡ Some x → standing plan.standings (record { at = at; name = m }) ≡ Some x → l ≡ m
