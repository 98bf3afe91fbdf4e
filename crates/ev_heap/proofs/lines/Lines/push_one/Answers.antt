use Rattle.std.proofs.Common.{[], ◌∷◌}
use Rattle.ev_heap.proofs.Behind.{plain_comes, plain_kept}
use Rattle.ev_heap.proofs.lines.Lines.push_one.Goals as goal

pub invariant_of-self : goal.invariant_of-self
invariant_of-self c =
    plain_kept _ _ c.add_behind.result _ _ c.args.line _ _ (c.args.value ∷ []) c.self.invariant c.requires.fits c.requires.one c.add_behind.ensures.line c.add_behind.ensures.values c.add_behind.ensures.no_line c.add_behind.ensures.no_value

pub returns : goal.returns
returns c =
    plain_comes _ _ c.add_behind.result _ _ c.args.line _ _ (c.args.value ∷ []) c.self.invariant c.requires.fits c.requires.one c.add_behind.ensures.line c.add_behind.ensures.values _ c.self.view_is
