-- Reading descriptions one after the other, as a loop does.
use Rattle.std.proofs.Common.{◌≡◌, ℕ, suc, ◌-◌, ◌+◌, ◌≤◌, ◌<◌, List, [], ◌∷◌, ◌++◌, Option, Some, None, refl, sym, ap, ◌∙◌, arith}
use Rattle.ev_op.specs.declared.fault.ReadError.{ReadError}
use Rattle.ev_op.specs.declared.fault.ReadError.TheVariants as errors
use Rattle.def_op.specs.Frames.{Described, Members, none, more, members}
use Rattle.ev_op.specs.Gives.{Fails}
use Rattle.def_op.specs.Reading.{◌>>=◌, Read, read, members_at}

-- descriptions, and others behind them
abbrev pub join : Members → Members → Members
join none others = others
join (more d ds) others = more d (join ds others)

pub join-none : (ds : Members) → join ds none ≡ ds
join-none none = refl
join-none (more d ds) = ap (more d) (join-none ds)

pub join-more : (front : Members) (d : Described) (others : Members) → join front (more d others) ≡ join (join front (more d none)) others
join-more none d others = refl
join-more (more e front) d others = ap (more e) (join-more front d others)

pub members-push : (ds : List Described) (d : Described) → members (ds ++ d ∷ []) ≡ join (members ds) (more d none)
members-push [] d = refl
members-push (e ∷ ds) d = ap (more e) (members-push ds d)

-- what was read before, and what is still read
abbrev pub with_front : Members → Option (Read Members) → Option (Read Members)
with_front front found = found >>= λ x. read (join front x.value) x.room x.rest

regroup : (front : Members) (d : Described) (found : Option (Read Members)) → with_front front (found >>= λ x. read (more d x.value) x.room x.rest) ≡ with_front (join front (more d none)) found
regroup front d (Some x) = ap (λ (ds : Members). read ds x.room x.rest) (join-more front d x.value)
regroup front d None = refl

module _ (one : ℕ → List ℕ → Option (Read Described)) where
  pub goes_on : (front : Members) (count i room : ℕ) (bytes : List ℕ) (d : Read Described) (total : Option (Read Members)) → i < count → one room bytes ≡ Some d
      → with_front front (members_at one (count - i) room bytes) ≡ total → with_front (join front (more d.value none)) (members_at one (count - (i + 1)) d.room d.rest) ≡ total
  unfolding members_at
  goes_on front count i room bytes d total lt h so_far =
      let k : count - i ≡ suc (count - (i + 1)) = omega arith in
      let step : with_front front (members_at one (count - i) room bytes) ≡ with_front (join front (more d.value none)) (members_at one (count - (i + 1)) d.room d.rest) = rw (k, h) (regroup front d.value (members_at one (count - (i + 1)) d.room d.rest)) in
      sym step ∙ so_far

  pub ends : (e : ReadError) (front : Members) (count i room : ℕ) (bytes : List ℕ) (total : Option (Read Members)) → i < count → Fails e (one room bytes)
      → with_front front (members_at one (count - i) room bytes) ≡ total → Fails e total
  unfolding members_at
  ends errors.Memory front count i room bytes total lt h so_far = tt
  ends errors.Refused front count i room bytes total lt h so_far =
      let k : count - i ≡ suc (count - (i + 1)) = omega arith in
      let step : with_front front (members_at one (count - i) room bytes) ≡ None = rw (k, h) refl in
      sym so_far ∙ step

  pub is_done : (front : Members) (count i room : ℕ) (bytes : List ℕ) (total : Option (Read Members)) → count ≤ i → with_front front (members_at one (count - i) room bytes) ≡ total → total ≡ read front room bytes
  unfolding members_at
  is_done front count i room bytes total le so_far =
      let k : count - i ≡ 0 = omega arith in
      let step : with_front front (members_at one (count - i) room bytes) ≡ read front room bytes = rw k (ap (λ (ds : Members). read ds room bytes) (join-none front)) in
      sym so_far ∙ step

-- how many lists may stand in each other, by one more than a list's own where nothing stands round it
abbrev pub depth_of : Option ℕ → ℕ
depth_of None = 101
depth_of (Some height) = height
