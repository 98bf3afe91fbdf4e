-- A vat whose references hold values of one kind alone, and what leaves it so.
use Rattle.std.specs.Prelude.{◌≡◌, ℕ, Bool, List, Some, Ok, Err}
use Rattle.ev_base.specs.declared.values.Value.{Value}
use Rattle.ev_base.specs.declared.values.Value.TheVariants as held
use Rattle.ev_heap.specs.Contents.{Contents}
use Rattle.ev_refs.specs.Leading.{lists_in, members_at}
use Rattle.ev_refs.specs.References.{References}
use Rattle.ev_room.specs.Holding.{Every, IsOf, KnownOf, MessageOf}
use Rattle.ev_pass.specs.Acts.{Out}
use Rattle.ev_pass.specs.Measuring.{own_weight}
use Rattle.ev_pass.specs.declared.interior.Interior.{Interior}
use Rattle.ev_pass.specs.declared.interior.Stop.{Stop}
use Rattle.ev_pass.specs.declared.interior.Stop.TheVariants.{Fuel, Repeated, Astray, Missing, Memory}

-- what acts on references leave as it is: the heap, the texts of their problems, and the key of words
pub record Base : Type 0 where
  pub heap : Contents
  pub partition : ℕ
  pub cycle : ℕ
  pub heavy : ℕ
  pub key : List ℕ

-- no text was missing
abbrev pub StopOf : Stop → Type 0
StopOf Fuel = Unit {0}
StopOf (Repeated m n) = Unit {0}
StopOf Astray = Unit {0}
StopOf Missing = ⊥
StopOf Memory = Unit {0}

module _ (kind : Value → Bool) (base : Base) where
  -- A heap for values of the kind: it has the text of each, and of the kind are the members of its lists, each name, what is broken with a text of the kind, and what references break values with.
  pub record GroundOf : Type 0 where
    pub texts : (v : Value) → IsOf kind v → (n : ℕ) × (own_weight base.heap v ≡ Some n)
    pub members : (k : ℕ) → Every (IsOf kind) (members_at (lists_in base.heap) k)
    pub names : (n : ℕ) → IsOf kind (held.Prom n)
    pub broken : (t : ℕ) → IsOf kind (held.Text t) → IsOf kind (held.Broken t)
    pub partition : IsOf kind (held.Broken base.partition)
    pub cycle : IsOf kind (held.Broken base.cycle)

  -- references that hold values of the kind, and break values with these texts
  pub record ReferencesIn (r : References) : Type 0 where
    pub known : Every (KnownOf kind) r.known
    pub queue : Every (MessageOf kind) r.queue
    pub partition : r.partition ≡ base.partition
    pub cycle : r.cycle ≡ base.cycle

  -- a vat on that ground, whose references are so
  pub record InsideOf (i : Interior) : Type 0 where
    pub heap : i.heap ≡ base.heap
    pub refs : ReferencesIn i.refs
    pub heavy : i.too_heavy ≡ base.heavy
    pub key : i.words.key ≡ base.key

  -- What something gives is so, and leaves the vat so, also where it stops; and no text was missing.
  abbrev pub EndsOf : {A : Type 0} → (A → Type 0) → Out A → Type 0
  EndsOf Q (Ok a, i) = Q a × InsideOf i
  EndsOf Q (Err e, i) = StopOf e × InsideOf i

abbrev pub Anything : {A : Type 0} → A → Type 0
Anything a = Unit {0}
