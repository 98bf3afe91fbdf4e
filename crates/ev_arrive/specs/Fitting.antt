-- Values of a note that a heap can keep: it has their texts and lists, and the lists among them are within the limits.
use Rattle.std.specs.Prelude.{◌≡◌, ◌+◌, ◌≤◌, ℕ, zero, suc, true, Ok}
use Rattle.ev_base.specs.declared.values.Value.{Value}
use Rattle.ev_heap.specs.Contents.{Contents, height_of, most_weight, weight_of}
use Rattle.ev_arrive.specs.declared.host.Host.{Host}
use Rattle.ev_arrive.specs.Bringing.{Part, Parts, Plain, New, Gift, Many, NoMore, More, part}
use Rattle.ev_arrive.specs.Learning.{is_kept, learn}
use Rattle.ev_arrive.specs.declared.brought.Brought.{Brought}

-- a name and a gift weigh 1, a list 1 and its members
abbrev mutual
  pub part_weight : Contents → Part → ℕ
  part_weight h (Plain v) = weight_of h v
  part_weight h (New c) = 1
  part_weight h (Gift c i) = 1
  part_weight h (Many ps) = parts_weight h ps + 1

  pub parts_weight : Contents → Parts → ℕ
  parts_weight h NoMore = 0
  parts_weight h (More p ps) = part_weight h p + parts_weight h ps

-- at most so high, and each list within the greatest weight
abbrev mutual
  pub Fits : Contents → ℕ → Part → Type 0
  Fits h d (Plain v) = (is_kept h v ≡ true) × (height_of h v ≤ d)
  Fits h d (New c) = Unit {0}
  Fits h d (Gift c i) = Unit {0}
  Fits h zero (Many ps) = ⊥
  Fits h (suc d) (Many ps) = (parts_weight h ps + 1 ≤ most_weight) × AllFit h d ps

  pub AllFit : Contents → ℕ → Parts → Type 0
  AllFit h d NoMore = Unit {0}
  AllFit h d (More p ps) = Fits h d p × AllFit h d ps

-- what fits the heap comes to be here, whatever else the vat has
abbrev pub FittingValuesAreLearnt : Type 0
FittingValuesAreLearnt = (h : Host) (from : ℕ) (b : Brought) → Fits h.inside.heap 100 (part b) → (v : Value) × ((k : Host) × (learn 100 from (part b) h ≡ (Ok v, k)))
