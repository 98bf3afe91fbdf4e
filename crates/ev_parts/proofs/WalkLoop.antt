-- Walking over descriptions one after the other, as a loop does.
use Rattle.std.proofs.Common.{◌≡◌, ℕ, suc, ◌-◌, ◌+◌, ◌≤◌, ◌<◌, List, Option, Some, None, refl, sym, ◌∙◌, arith}
use Rattle.def_op.specs.declared.spots.Spot.{Spot}
use Rattle.ev_parts.specs.declared.walking.WalkError.{WalkError}
use Rattle.ev_parts.specs.declared.walking.WalkError.TheVariants as errors
use Rattle.ev_parts.specs.Walks.{Stops}
use Rattle.def_op.specs.Items.{Walk, On, Off, Left, left, walk_members}

module _ (one : ℕ → List Spot → List ℕ → Walk Left) where
  pub goes_on : (count i room : ℕ) (spots after : List Spot) (bytes : List ℕ) (x : Left) (total : Walk Left) → i < count → one room spots bytes ≡ On after x
      → walk_members one (count - i) room spots bytes ≡ total → walk_members one (count - (i + 1)) x.room after x.rest ≡ total
  unfolding walk_members
  goes_on count i room spots after bytes x total lt h so_far =
      let k : count - i ≡ suc (count - (i + 1)) = omega arith in
      let step : walk_members one (count - i) room spots bytes ≡ walk_members one (count - (i + 1)) x.room after x.rest = rw (k, h) refl in
      sym step ∙ so_far

  pub ends : (e : WalkError) (count i room : ℕ) (spots after : List Spot) (bytes : List ℕ) (total : Walk Left) → i < count → Stops e after (one room spots bytes)
      → walk_members one (count - i) room spots bytes ≡ total → Stops e after total
  unfolding walk_members
  ends errors.Memory count i room spots after bytes total lt h so_far = tt
  ends (errors.Stopped place) count i room spots after bytes total lt h so_far =
      let k : count - i ≡ suc (count - (i + 1)) = omega arith in
      let step : walk_members one (count - i) room spots bytes ≡ Off after place = rw (k, h) refl in
      sym so_far ∙ step

  pub is_done : (count i room : ℕ) (spots : List Spot) (bytes : List ℕ) (total : Walk Left) → count ≤ i → walk_members one (count - i) room spots bytes ≡ total → total ≡ On spots (left room bytes)
  unfolding walk_members
  is_done count i room spots bytes total le so_far =
      let k : count - i ≡ 0 = omega arith in
      let step : walk_members one (count - i) room spots bytes ≡ On spots (left room bytes) = rw k refl in
      sym so_far ∙ step

-- how many lists may stand in each other, by one more than a list's own where nothing stands round it
abbrev pub depth_of : Option ℕ → ℕ
depth_of None = 101
depth_of (Some height) = height
