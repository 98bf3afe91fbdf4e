-- Whether the members of a list lead back to a name, and the search that finds it, in the code's terms.
use Rattle.std.specs.Prelude.{ℕ, zero, suc, Bool, true, false, ◌||◌, ◌==◌, List, [], ◌∷◌, Option, Some, None, map, slice_get, slice_set, unwrap_or}
use Rattle.std.specs.List.{list_any}
use Rattle.ev_base.specs.declared.values.Value.{Value}
use Rattle.ev_base.specs.declared.values.Value.TheVariants as held
use Rattle.ev_heap.specs.Contents.{Contents}
use Rattle.ev_refs.specs.Follow.{followed}
use Rattle.ev_refs.specs.References.{References}

-- the members of each list of a heap
abbrev pub lists_in : Contents → List (List Value)
lists_in h = map (λ l. l.members) h.lists

-- the list that a value is
abbrev pub list_of : Value → Option ℕ
list_of (held.List k) = Some k
list_of _ = None

-- whether a value is that name
abbrev pub is_name : ℕ → Value → Bool
is_name p (held.Prom n) = n == p
is_name p _ = false

abbrev pub members_at : List (List Value) → ℕ → List Value
members_at ls k = unwrap_or (slice_get ls k) []

unfoldable pub members_of : List (List Value) → Option ℕ → List Value
members_of ls None = []
members_of ls (Some k) = members_at ls k

-- the lists that these are followed to
abbrev pub lists_of : References → List Value → List (Option ℕ)
lists_of r vs = map (λ v. list_of (followed r v)) vs

-- whether members, each followed, fewer than so many times, lead from a value to that name
unfoldable pub leads_back : ℕ → References → List (List Value) → ℕ → Value → Bool
leads_back zero r ls p v = false
leads_back (suc d) r ls p v = is_name p (followed r v) || list_any (λ w. leads_back d r ls p w) (members_of ls (list_of (followed r v)))

-- a search: for each list whether it was met, and those whose members are still to be looked at, the next one first
pub record Searching : Type 0 where
  pub met : List Bool
  pub left : List ℕ

-- whether a list is there and was not met
abbrev pub is_unmet : Option Bool → Bool
is_unmet None = false
is_unmet (Some true) = false
is_unmet (Some false) = true

unfoldable pub meet_if : Bool → ℕ → Searching → Searching
meet_if true k s = record { met = slice_set s.met k true; left = k ∷ s.left }
meet_if false k s = s

-- a list is met, unless it was, or is not there
unfoldable pub meet : Option ℕ → Searching → Searching
meet None s = s
meet (Some k) s = meet_if (is_unmet (slice_get s.met k)) k s

unfoldable pub meet_all : List (Option ℕ) → Searching → Searching
meet_all [] s = s
meet_all (o ∷ os) s = meet_all os (meet o s)
