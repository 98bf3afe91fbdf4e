use Rattle.std.proofs.Common.{◌∷◌, None, ap, suc}
use Rattle.ev_heap.specs.declared.happened.Happened.TheVariants as event
use Rattle.ev_heap.proofs.Behind.{comes, kept, stays}
use Rattle.ev_heap.proofs.Prefix.{begins_itself}
use Rattle.ev_heap.proofs.lines.Lines.push_call.Goals as goal

pub invariant_of-self : goal.invariant_of-self
invariant_of-self c = stays _ _ _ _ c.number_of.ensures.more (begins_itself _) _ _ c.self.invariant

pub invariant_of-self-2 : goal.invariant_of-self-2
invariant_of-self-2 c =
    kept _ _ _ _ c.number_of.ensures.more (begins_itself _) c.add_behind.result _ _ _ _ _ (c.args.target ∷ c.args.args.now) c.self.invariant c.in_ok-number.ensures.known.0 (ap suc c.in_ok-count.ensures)
    c.add_behind.ensures.line c.add_behind.ensures.values c.add_behind.ensures.no_line c.add_behind.ensures.no_value

pub returns : goal.returns
returns c =
    comes _ _ _ _ c.number_of.ensures.more (begins_itself _) c.add_behind.result _ _ _ _ _ (c.args.target ∷ c.args.args.now) _ _ c.self.invariant c.in_ok-number.ensures.known.0 (ap suc c.in_ok-count.ensures)
    c.add_behind.ensures.line c.add_behind.ensures.values c.self.view_is (ap (λ t. event.Call c.args.activation c.args.target t c.args.args.now None) c.in_ok-number.ensures.known.1)
