-- The values of a vat that an operation of its peer names by the vat's own numbers: its exports, and the answers of the peer's questions.
use Rattle.std.specs.Prelude.{◌≡◌, ℕ, List, [], ◌∷◌, ◌++◌, slice_get, Option, Some, None, ◌⊎◌}
use Rattle.ev_base.specs.declared.values.Value.{Value}
use Rattle.ev_base.specs.declared.values.Value.TheVariants.{Prom}
use Rattle.def_op.specs.Frames.{Described, ListOf, YourExport, YourAnswer, Members, none, more, Outcome, To, Elsewhere, Operation, Deliver, Resolve, Provide, Accept, Shorten, DeliverOnly}
use Rattle.ev_tables.specs.Table.{Table, entry}

-- what stands under a number, where it is there
abbrev pub found : Option Value → List Value
found (Some v) = v ∷ []
found None = []

module _ (t : Table) where
  -- from left to right
  unfoldable mutual
    pub named_in : Described → List Value
    named_in (YourExport n) = found (entry (YourExport n) t)
    named_in (YourAnswer n) = found (entry (YourAnswer n) t)
    named_in (ListOf ds) = named_all ds
    named_in d = []

    pub named_all : Members → List Value
    named_all none = []
    named_all (more d ds) = named_in d ++ named_all ds

  unfoldable pub named_outcome : Outcome → List Value
  named_outcome (To d) = named_in d
  named_outcome (Elsewhere host) = []

  -- the target or subject first
  unfoldable pub named : Operation → List Value
  named (Deliver question target verb args) = named_in target ++ named_all args
  named (Resolve subject to) = named_in subject ++ named_outcome to
  named (Provide target s) = named_in target
  named (Accept question provider s) = []
  named (Shorten subject s) = named_in subject
  named (DeliverOnly target verb args) = named_in target ++ named_all args

  -- the vat exported it, or it is the answer of a question of the peer
  abbrev pub WasGiven : Value → Type 0
  WasGiven v = ((n : ℕ) × (slice_get t.exports n ≡ Some v)) ⊎ ((n : ℕ) × (p : ℕ) × (slice_get t.answers n ≡ Some p) × (v ≡ Prom p))
