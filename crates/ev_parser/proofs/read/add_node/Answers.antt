use Rattle.std.proofs.Common.{refl, ◌∙◌}
use Rattle.ev_parser.proofs.read.add_node.Goals as goal

pub returns : goal.returns
returns c = (record { shape = c.args.shape; first = c.args.first; parts = c.args.stand.parts; tallest = c.args.stand.tallest }, (refl, refl, refl, refl), c.in_ok-push.ensures.items, c.len-tree.ensures ∙ c.args.nodes.now.ok.0)
