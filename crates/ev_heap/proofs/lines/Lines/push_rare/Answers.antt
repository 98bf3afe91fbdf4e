use Rattle.std.proofs.Common.{[], refl, arith}
use Rattle.ev_heap.proofs.Behind.{comes, kept}
use Rattle.ev_heap.proofs.Prefix.{begins_itself, last_fits, last_is, grown}
use Rattle.ev_heap.proofs.lines.Lines.push_rare.Goals as goal

pub invariant_of-self-2 : goal.invariant_of-self-2
invariant_of-self-2 c =
    kept _ _ _ _ (begins_itself _) (grown _ _ _ c.in_ok-push.ensures.items) c.add.result _ _ _ _ _ [] c.self.invariant (last_fits _ _ _ _ c.in_ok-push.ensures.items (omega (arith, c.in-Ok.ensures, c.len.ensures))) refl
    c.add.ensures.line c.add.ensures.values c.add.ensures.no_line c.add.ensures.no_value

pub returns : goal.returns
returns c =
    comes _ _ _ _ (begins_itself _) (grown _ _ _ c.in_ok-push.ensures.items) c.add.result _ _ _ _ _ [] _ _ c.self.invariant (last_fits _ _ _ _ c.in_ok-push.ensures.items (omega (arith, c.in-Ok.ensures, c.len.ensures))) refl
    c.add.ensures.line c.add.ensures.values c.self.view_is (last_is _ _ _ _ _ c.in_ok-push.ensures.items (omega (arith, c.in-Ok.ensures, c.len.ensures)))
