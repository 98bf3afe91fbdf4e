-- Tables of links, and what is reached by them.
use Rattle.std.specs.Prelude.{◌≡◌, ◌==◌, Bool, true, false, cond, if◌then◌else◌, ◌⊎◌, ◌↔◌, List, [], ◌∷◌, unwrap_or}
use Rattle.std.specs.Map.{lookup}
use Rattle.std.specs.List.{list_any}
use Rattle.indexmap.specs.IndexSet.{insert_key}
use Rattle.def_event.specs.Uses.{IsAmong}
use Rattle.ev_links.specs.declared.label.Label.{Label}
use Rattle.ev_links.specs.declared.links.Link.{Link}
use Rattle.ev_links.specs.declared.links.Way.{Way}
use Rattle.ev_links.specs.declared.links.Way.TheVariants.{Listed, Settled}
use Rattle.ev_links.specs.declared.links.Scope.{Scope}
use Rattle.ev_links.specs.declared.links.Scope.TheVariants.{Lists, Place, All}
use Rattle.ev_links.specs.contracts.label.LabelPartialEq.TheImpl.{eq-value}

abbrev pub is_open : Scope → Way → Bool
is_open scope Listed = true
is_open Lists (Settled at) = false
is_open (Place place) (Settled at) = at == place
is_open All (Settled at) = true

-- the links of a thing
unfoldable pub row : List (Label × List Link) → Label → List Link
row rows k = unwrap_or (lookup (eq-value.it k) rows) []

-- the thing has no links any more, and all others have what they had
abbrev pub no_links : Label → List (Label × List Link) → List (Label × List Link) → Type 0
no_links k old new = (j : Label) → row new j ≡ cond (eq-value.it k j) [] (row old j)

-- the thing has one link more, and all others have what they had
abbrev pub Adds : Label → Link → List (Label × List Link) → List (Label × List Link) → Type 0
Adds k link old new = (j : Label) (l : Link) → IsAmong l (row new j) ↔ (IsAmong l (row old j) ⊎ ((k ≡ j) × (link ≡ l)))

unfoldable pub has_label : List Label → Label → Bool
has_label ls l = list_any (eq-value.it l) ls

-- a label is added to others, unless it stands there
unfoldable pub with_label : List Label → Label → List Label
with_label ls l = insert_key eq-value.it ls l

-- and what links lead to by the ways of a scope
abbrev pub with_others : Scope → List Label → List Link → List Label
with_others scope ls [] = ls
with_others scope ls (k ∷ ks) = with_others scope (if is_open scope k.way then with_label ls k.other else ls) ks

-- what is reached from these by links of a scope
pub data IsReached (rows : List (Label × List Link)) (scope : Scope) (starts : List Label) : Label → Type 0 where
  start : {l : Label} → IsAmong l starts → IsReached rows scope starts l
  onward : (l : Label) (k : Link) → IsAmong k (row rows l) → is_open scope k.way ≡ true → IsReached rows scope starts l → IsReached rows scope starts k.other

-- exactly what is reached from the old ones is there
abbrev pub AreReached : List (Label × List Link) → Scope → List Label → List Label → Type 0
AreReached rows scope old new = (l : Label) → IsAmong l new ↔ IsReached rows scope old l
