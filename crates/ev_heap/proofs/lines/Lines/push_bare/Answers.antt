use Rattle.std.proofs.Common.{[]}
use Rattle.ev_heap.proofs.Behind.{plain_comes, plain_kept}
use Rattle.ev_heap.proofs.lines.Lines.push_bare.Goals as goal

pub invariant_of-self : goal.invariant_of-self
invariant_of-self c =
    plain_kept _ _ c.add.result _ _ c.args.line _ _ [] c.self.invariant c.requires.fits c.requires.bare c.add.ensures.line c.add.ensures.values c.add.ensures.no_line c.add.ensures.no_value

pub returns : goal.returns
returns c =
    plain_comes _ _ c.add.result _ _ c.args.line _ _ [] c.self.invariant c.requires.fits c.requires.bare c.add.ensures.line c.add.ensures.values _ c.self.view_is
