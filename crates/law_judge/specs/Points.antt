-- What an operation of a peer may say, told over the operation and not over its bytes: which numbers, positions and vats may stand in it.
-- The positions that are new in it are gathered from left to right: whether each is an object. There are none to be had where it says what it may not.
use Rattle.std.specs.Prelude.{ℕ, Bool, true, false, not, nat_lt, ◌&&◌, ◌==◌, List, [], ◌∷◌, ◌++◌, length, slice_get, Option, Some, None}
use Rattle.def_op.specs.Frames.{Described, Datum, ListOf, Broken, YourExport, YourAnswer, MyExport, MyPromise, Third, MyAnswer, Members, none, more, Outcome, To, Elsewhere, Operation, Deliver, Resolve, Provide, Accept, Shorten, DeliverOnly}
use Rattle.def_hostile.specs.Judge.{Counts, same_kind}

-- the new positions so far, and those behind what is said
abbrev pub Gathering : Type 0
Gathering = List Bool → Option (List Bool)

unfoldable pub then_gather : Gathering → Option (List Bool) → Option (List Bool)
then_gather f (Some new) = f new
then_gather f None = None

unfoldable pub allowed : Bool → Gathering
allowed true new = Some new
allowed false new = None

unfoldable pub allowed_then : Bool → Gathering → Gathering
allowed_then true f new = f new
allowed_then false f new = None

-- what no promise is told to have settled to: a name between the two, other than an object of the sender
unfoldable pub is_known_name : Described → Bool
is_known_name (Datum p) = false
is_known_name (ListOf ds) = false
is_known_name (Broken text) = false
is_known_name (YourExport n) = true
is_known_name (YourAnswer n) = true
is_known_name (MyExport n) = false
is_known_name (MyPromise n) = true
is_known_name (Third host s) = true
is_known_name (MyAnswer n) = true

-- at vat `me`, which has those numbers for vat `peer`, where there are so many vats
module _ (vats me peer : ℕ) (c : Counts) where
  -- a vat that is not the sender
  unfoldable pub is_other : ℕ → Bool
  is_other v = nat_lt v vats && not (v == peer)

  -- a vat that is neither of the two
  unfoldable pub is_third : ℕ → Bool
  is_third v = nat_lt v vats && (not (v == peer) && not (v == me))

  -- a position that is there is of that kind, and another is the next
  unfoldable pub at_position : Bool → ℕ → Option Bool → Gathering
  at_position object n (Some kind) new = allowed (same_kind vats me peer c kind object) new
  at_position object n None new = allowed (n == length (c.imports ++ new)) (new ++ object ∷ [])

  unfoldable mutual
    pub in_described : Described → Gathering
    in_described (Datum p) new = Some new
    in_described (ListOf ds) new = in_members ds new
    in_described (Broken text) new = Some new
    in_described (YourExport n) new = allowed (nat_lt n c.exports) new
    in_described (YourAnswer n) new = allowed (nat_lt n c.answers) new
    in_described (MyExport n) new = at_position true n (slice_get (c.imports ++ new) n) new
    in_described (MyPromise n) new = at_position false n (slice_get (c.imports ++ new) n) new
    in_described (Third host s) new = allowed (is_third host) new
    in_described (MyAnswer n) new = allowed (nat_lt n c.questions) new

    pub in_members : Members → Gathering
    in_members none new = Some new
    in_members (more d ds) new = then_gather (in_members ds) (in_described d new)

  unfoldable pub in_outcome : Outcome → Gathering
  in_outcome (To d) new = allowed_then (not (is_known_name d)) (in_described d) new
  in_outcome (Elsewhere host) new = allowed (is_other host) new

  -- a question is the next one
  unfoldable pub in_operation : Operation → Gathering
  in_operation (Deliver q target verb args) new = allowed_then (q == c.answers) (λ m. then_gather (in_members args) (in_described target m)) new
  in_operation (Resolve subject to) new = then_gather (in_outcome to) (in_described subject new)
  in_operation (Provide target s) new = in_described target new
  in_operation (Accept q provider s) new = allowed_then (q == c.answers) (allowed (is_third provider)) new
  in_operation (Shorten subject s) new = in_described subject new
  in_operation (DeliverOnly target verb args) new = then_gather (in_members args) (in_described target new)
