-- What an operation may say has no number of the receiver's own under which nothing stands.
use Rattle.std.proofs.Common.{◌≡◌, ℕ, zero, suc, Bool, not, nat_lt, ◌==◌, List, [], ◌∷◌, ◌++◌, Some, arith}
use Rattle.std.specs.Prelude.{All}
use Rattle.std.proofs.lemmas.Bool.{ltb-true}
use Rattle.def_op.specs.Frames.{Described, ListOf, YourExport, YourAnswer, Members, none, more, Outcome, To, Elsewhere, Operation, Deliver, Resolve, Provide, Accept, Shorten, DeliverOnly}
use Rattle.def_hostile.specs.Judge.{Counts}
use Rattle.law_judge.specs.Points.{then_gather, is_known_name, in_described, in_members, in_outcome, in_operation}
use Rattle.law_judge.specs.OwnNumbers.{own_in, own_all, own_outcome, own_numbers, StandsThere}
use Rattle.law_judge.specs.Statements.{LawfulNumbersStandThere}
use Rattle.law_judge.proofs.Growing.{allowed_by, allowed_then_by, gathered_by}
use Rattle.law_judge.proofs.Operations.{meets_the_points}

abbrev Each : (Described → Type 0) → List Described → Type 0
Each P [] = Unit {0}
Each P (d ∷ ds) = P d × Each P ds

each_of : (P : Described → Type 0) (ds : List Described) → Each P ds → All P ds
each_of P [] h k d lt = absurd (omega (arith, lt))
each_of P (x ∷ ds) h zero d lt = h.0
each_of P (x ∷ ds) h (suc k) d lt = each_of P ds h.1 k d (omega (arith, lt))

joined : (P : Described → Type 0) (ds es : List Described) → Each P ds → Each P es → Each P (ds ++ es)
joined P [] es h g = g
joined P (d ∷ ds) es h g = (h.0, joined P ds es h.1 g)

module _ (vats me peer : ℕ) (c : Counts) where
  mutual
    unfolding own_in in_described StandsThere

    in_there : (d : Described) (new after : List Bool) → in_described vats me peer c d new ≡ Some after → Each (StandsThere c) (own_in d)
    in_there (YourExport n) new after e = (ltb-true n c.exports (allowed_by (nat_lt n c.exports) new after e).0, tt)
    in_there (YourAnswer n) new after e = (ltb-true n c.answers (allowed_by (nat_lt n c.answers) new after e).0, tt)
    in_there (ListOf ds) new after e = all_there ds new after e
    in_there d new after e = tt

    all_there : (ds : Members) (new after : List Bool) → in_members vats me peer c ds new ≡ Some after → Each (StandsThere c) (own_all ds)
    all_there none new after e = tt
    all_there (more d ds) new after e =
        let parts = gathered_by (in_members vats me peer c ds) (in_described vats me peer c d new) after e in
        joined (StandsThere c) (own_in d) (own_all ds) (in_there d new parts.0 parts.1) (all_there ds parts.0 after parts.2)

  outcome_there : (to : Outcome) (new after : List Bool) → in_outcome vats me peer c to new ≡ Some after → Each (StandsThere c) (own_outcome to)
  unfolding in_outcome own_outcome
  outcome_there (To d) new after e = in_there d new after (allowed_then_by (not (is_known_name d)) (in_described vats me peer c d) new after e).1
  outcome_there (Elsewhere host) new after e = tt

  message_there : (target : Described) (args : Members) (new after : List Bool) → then_gather (in_members vats me peer c args) (in_described vats me peer c target new) ≡ Some after → Each (StandsThere c) (own_in target ++ own_all args)
  message_there target args new after e =
      let parts = gathered_by (in_members vats me peer c args) (in_described vats me peer c target new) after e in
      joined (StandsThere c) (own_in target) (own_all args) (in_there target new parts.0 parts.1) (all_there args parts.0 after parts.2)

  op_there : (op : Operation) (new after : List Bool) → in_operation vats me peer c op new ≡ Some after → Each (StandsThere c) (own_numbers op)
  unfolding in_operation own_numbers
  op_there (Deliver q target verb args) new after e =
      message_there target args new after (allowed_then_by (q == c.answers) (λ m. then_gather (in_members vats me peer c args) (in_described vats me peer c target m)) new after e).1
  op_there (Resolve subject to) new after e =
      let parts = gathered_by (in_outcome vats me peer c to) (in_described vats me peer c subject new) after e in
      joined (StandsThere c) (own_in subject) (own_outcome to) (in_there subject new parts.0 parts.1) (outcome_there to parts.0 after parts.2)
  op_there (Provide target s) new after e = in_there target new after e
  op_there (Accept q provider s) new after e = tt
  op_there (Shorten subject s) new after e = in_there subject new after e
  op_there (DeliverOnly target verb args) new after e = message_there target args new after e

pub numbers_stand_there : LawfulNumbersStandThere
numbers_stand_there vats me peer c bytes op new fits e = each_of (StandsThere c) (own_numbers op) (op_there vats me peer c op [] new (meets_the_points vats me peer c bytes op new fits e))
