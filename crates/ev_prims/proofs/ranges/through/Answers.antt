use Rattle.std.proofs.Common.{◌≡◌, ◌+◌, ◌≤ℤ◌, ◌+ℤ◌, ◌-ℤ◌, ap, sym, ◌∙◌, arith, pos, to_z, of_z}
use Rattle.std.specs.Prelude.{unsigned_abs}
use Rattle.std.specs.Int.{w128}
use Rattle.std.proofs.lemmas.Int.{to_z-of_z, ints}
use Rattle.def_machine.specs.Native.{gap}
use Rattle.ev_prims.proofs.RangeLemmas.{gap_last, ranged_along}
use Rattle.ev_prims.proofs.ranges.through.Goals as goal

pub returns-then-distance-lt-MOST : goal.returns-then-distance-lt-MOST
returns-then-distance-lt-MOST c =
    let up : c.args.first ≤ℤ c.args.last = omega (arith, ints) in
    let far : c.abs_diff-distance.result ≡ unsigned_abs (c.args.last -ℤ c.args.first) = grind (arith, to_z-of_z, c.abs_diff-distance.ensures) in
    let many : c.abs_diff-distance.result + 1 ≡ gap c.args.first (c.args.last +ℤ pos 1) = ap (λ n. n + 1) far ∙ sym (gap_last c.args.first c.args.last up) in
    ranged_along c.range_of-then-distance-lt-MOST.result c.args.first (c.args.last +ℤ pos 1) (to_z w128 (of_z w128 c.args.first)) (c.abs_diff-distance.result + 1)
    (to_z-of_z _ c.args.first c.ranges.first) many c.range_of-then-distance-lt-MOST.ensures
