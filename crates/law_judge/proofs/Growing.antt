-- New positions stand behind those of before.
use Rattle.std.proofs.Common.{◌≡◌, ℕ, Bool, true, false, not, nat_lt, nat_eq, List, [], ◌∷◌, ◌++◌, length, slice_get, Option, Some, None, refl, ap, sym, ◌∙◌, append_assoc, append-nil}
use Rattle.def_op.specs.Frames.{Described, Datum, ListOf, Broken, YourExport, YourAnswer, MyExport, MyPromise, Third, MyAnswer, Members, none, more, Outcome, To, Elsewhere}
use Rattle.def_hostile.specs.Judge.{Counts, same_kind}
use Rattle.law_judge.specs.Points.{Gathering, then_gather, allowed, allowed_then, is_known_name, is_other, is_third, at_position, in_described, in_members, in_outcome}

-- these positions begin with those
abbrev pub Begins : List Bool → List Bool → Type 0
Begins xs ys = (rest : List Bool) × (ys ≡ xs ++ rest)

pub begins_through : (xs ys zs : List Bool) → Begins xs ys → Begins ys zs → Begins xs zs
begins_through xs ys zs a b = (a.0 ++ b.0, b.1 ∙ ap (λ (ws : List Bool). ws ++ b.0) a.1 ∙ append_assoc xs a.0 b.0)

the_gathered : List Bool → Option (List Bool) → List Bool
the_gathered d (Some new) = new
the_gathered d None = d

pub same_gathered : (xs ys : List Bool) → Some xs ≡ Some ys → xs ≡ ys
unfolding the_gathered
same_gathered xs ys e = ap (the_gathered xs) e

-- what is gathered by a test
pub allowed_by : (b : Bool) (new after : List Bool) → allowed b new ≡ Some after → (b ≡ true) × (new ≡ after)
unfolding allowed
allowed_by true new after e = (refl, same_gathered new after e)
allowed_by false new after e = absurd cc

pub allowed_then_by : (b : Bool) (f : Gathering) (new after : List Bool) → allowed_then b f new ≡ Some after → (b ≡ true) × (f new ≡ Some after)
unfolding allowed_then
allowed_then_by true f new after e = (refl, e)
allowed_then_by false f new after e = absurd cc

-- what is gathered by one and then by another
pub gathered_by : (f : Gathering) (o : Option (List Bool)) (after : List Bool) → then_gather f o ≡ Some after → (mid : List Bool) × (o ≡ Some mid) × (f mid ≡ Some after)
unfolding then_gather
gathered_by f (Some mid) after e = (mid, refl, e)
gathered_by f None after e = absurd cc

abbrev pub Grows : Gathering → Type 0
Grows f = (new after : List Bool) → f new ≡ Some after → Begins new after

stays : (new after : List Bool) → new ≡ after → Begins new after
stays new after e = ([], sym e ∙ sym (append-nil new))

by_test : (b : Bool) → Grows (allowed b)
by_test b new after e = stays new after (allowed_by b new after e).1

where_allowed : (b : Bool) (f : Gathering) → Grows f → Grows (allowed_then b f)
unfolding allowed_then
where_allowed true f grows new after e = grows new after e
where_allowed false f grows new after e = absurd cc

module _ (vats me peer : ℕ) (c : Counts) where
  at_grows : (object : Bool) (n : ℕ) (o : Option Bool) → Grows (at_position vats me peer c object n o)
  unfolding at_position
  at_grows object n (Some kind) new after e = by_test (same_kind vats me peer c kind object) new after e
  at_grows object n None new after e = (object ∷ [], sym (allowed_by (nat_eq n (length (c.imports ++ new))) (new ++ object ∷ []) after e).1)

  mutual
    unfolding in_described then_gather

    pub grows : (d : Described) → Grows (in_described vats me peer c d)
    grows (Datum p) new after e = stays new after (same_gathered new after e)
    grows (ListOf ds) new after e = all_grow ds new after e
    grows (Broken text) new after e = stays new after (same_gathered new after e)
    grows (YourExport n) new after e = by_test (nat_lt n c.exports) new after e
    grows (YourAnswer n) new after e = by_test (nat_lt n c.answers) new after e
    grows (MyExport n) new after e = at_grows true n (slice_get (c.imports ++ new) n) new after e
    grows (MyPromise n) new after e = at_grows false n (slice_get (c.imports ++ new) n) new after e
    grows (Third host s) new after e = by_test (is_third vats me peer c host) new after e
    grows (MyAnswer n) new after e = by_test (nat_lt n c.questions) new after e

    pub all_grow : (ds : Members) → Grows (in_members vats me peer c ds)
    all_grow none new after e = stays new after (same_gathered new after e)
    all_grow (more d ds) new after e =
        let parts = gathered_by (in_members vats me peer c ds) (in_described vats me peer c d new) after e in
        begins_through new parts.0 after (grows d new parts.0 parts.1) (all_grow ds parts.0 after parts.2)

  pub outcome_grows : (to : Outcome) → Grows (in_outcome vats me peer c to)
  unfolding in_outcome
  outcome_grows (To d) new after e = where_allowed (not (is_known_name d)) (in_described vats me peer c d) (grows d) new after e
  outcome_grows (Elsewhere host) new after e = by_test (is_other vats me peer c host) new after e
