-- Places in order, each of which leads to the next one with the same reference.
use Rattle.std.specs.Prelude.{◌≡◌, ◌<◌, ◌≤◌, ℕ, List, length, Option, Some, None, MatchOption, slice_get}
use Rattle.std.proofs.Math.ListN.{set}
use Rattle.def_event.specs.declared.shown.Shown.{Shown, Name as Named}
use Rattle.def_event.specs.declared.reference.Reference.{Reference}
use Rattle.ev_order.specs.declared.spread.Place.{Place}
use Rattle.ev_order.specs.Last.{LastList, IsLast, HasNone, Sets}

pub record Chain : Type 0 where
  pub places : List Place
  pub references : List (Option Reference)
  pub last : LastList

-- place i has this reference
abbrev pub HasReference : List (Option Reference) → ℕ → Reference → Type 0
HasReference refs i r = slice_get refs i ≡ Some (Some r)

-- place i leads to place j next
abbrev pub HasNext : List Place → ℕ → ℕ → Type 0
HasNext places i j = (p : Place) × (slice_get places i ≡ Some p) × (p.next ≡ Some j)

-- Each place leads next to a later one with its reference, of which the first counts.
pub record IsLinked (refs : List (Option Reference)) (places : List Place) : Type 0 where
  pub same_length : length places ≡ length refs
  pub next : (i j : ℕ) → HasNext places i j → (i < j) × ((r : Reference) × HasReference refs i r × HasReference refs j r)
  pub nearest : (i k : ℕ) (r : Reference) → i < k → HasReference refs i r → HasReference refs k r → (j : ℕ) × (j ≤ k) × HasNext places i j

-- The places lead to one another as they stand, none leads over, and the last of each reference is known.
pub record IsChain (c : Chain) : Type 0 where
  pub linked : IsLinked c.references c.places
  pub no_over : (i : ℕ) (p : Place) → slice_get c.places i ≡ Some p → p.over ≡ None
  pub there : (r : Reference) (i : ℕ) → IsLast r i c.last → HasReference c.references i r
  pub last_one : (r : Reference) (k : ℕ) → HasReference c.references k r → (i : ℕ) × (k ≤ i) × IsLast r i c.last

-- the reference that a value is at a vat, where it is a name
abbrev pub reference : Option ℕ → Shown → Option Reference
reference v (Named n) = Some (record { vat = v; name = n })
reference v _ = None

-- ---- one place more

abbrev pub linked_at : Option Place → ℕ → ℕ → List Place → List Place
linked_at None i j places = places
linked_at (Some p) i j places = set places i (record p { next = Some j })

-- a place, if it is there, leads to place j next
abbrev pub linked : Option ℕ → ℕ → List Place → List Place
linked None j places = places
linked (Some i) j places = linked_at (slice_get places i) i j places

-- the last place of the reference leads to place n, which is the last now
pub record LinksLastOf (r : Reference) (n : ℕ) (old now : List Place) (before after : LastList) : Type 0 where
  pub found : Option ℕ
  pub is_last : MatchOption found (HasNone r before) (λ i. IsLast r i before)
  pub links : now ≡ linked found n old
  pub sets : Sets r n before after

abbrev pub LinksLast : Option Reference → ℕ → List Place → List Place → LastList → LastList → Type 0
LinksLast None n old now before after = (now ≡ old) × (after ≡ before)
LinksLast (Some r) n old now before after = LinksLastOf r n old now before after
