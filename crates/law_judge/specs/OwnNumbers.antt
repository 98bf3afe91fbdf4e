-- The numbers in an operation under which its receiver finds things of its own: its exports, and the answers of the sender's questions.
use Rattle.std.specs.Prelude.{◌<◌, List, [], ◌∷◌, ◌++◌}
use Rattle.def_op.specs.Frames.{Described, ListOf, YourExport, YourAnswer, Members, none, more, Outcome, To, Elsewhere, Operation, Deliver, Resolve, Provide, Accept, Shorten, DeliverOnly}
use Rattle.def_hostile.specs.Judge.{Counts}

-- from left to right
unfoldable mutual
  pub own_in : Described → List Described
  own_in (YourExport n) = YourExport n ∷ []
  own_in (YourAnswer n) = YourAnswer n ∷ []
  own_in (ListOf ds) = own_all ds
  own_in d = []

  pub own_all : Members → List Described
  own_all none = []
  own_all (more d ds) = own_in d ++ own_all ds

unfoldable pub own_outcome : Outcome → List Described
own_outcome (To d) = own_in d
own_outcome (Elsewhere host) = []

unfoldable pub own_numbers : Operation → List Described
own_numbers (Deliver q target verb args) = own_in target ++ own_all args
own_numbers (Resolve subject to) = own_in subject ++ own_outcome to
own_numbers (Provide target s) = own_in target
own_numbers (Accept q provider s) = []
own_numbers (Shorten subject s) = own_in subject
own_numbers (DeliverOnly target verb args) = own_in target ++ own_all args

-- something stands under the number
unfoldable pub StandsThere : Counts → Described → Type 0
StandsThere c (YourExport n) = n < c.exports
StandsThere c (YourAnswer n) = n < c.answers
StandsThere c d = Unit {0}
