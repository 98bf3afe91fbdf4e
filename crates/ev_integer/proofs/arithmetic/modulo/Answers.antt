use Rattle.std.proofs.Common.{rules, ◌≡◌, false}
use Rattle.std.specs.Prelude.{FitsSigned}
use Rattle.std.specs.Int.{w128}
use Rattle.std.proofs.lemmas.Int.{to_z-of_z}
use Rattle.ev_integer.specs.Ints.{is_zero}
use Rattle.ev_integer.proofs.Ranges.{modulo_then}
use Rattle.ev_integer.proofs.arithmetic.modulo.Goals as goal

pub returns-then-rounds_up : goal.returns-then-rounds_up
returns-then-rounds_up c =
    let f : FitsSigned w128 c.args.a = c.ranges.a in
    let g : FitsSigned w128 c.args.b = c.ranges.b in
    let h : FitsSigned w128 c.wrapping_rem-rest.result = search rules in
    let z : is_zero c.args.b ≡ false = search rules in
    let u = c.if-rounds_up.ensures in
    modulo_then _ _ c.wrapping_rem-rest.result _ z
    (simp to_z-of_z at c.wrapping_rem-rest.ensures)
    (simp to_z-of_z at u)
    (simp to_z-of_z at c.sum.ensures)
