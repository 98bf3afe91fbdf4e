use Rattle.std.proofs.Common.{◌≡◌, refl, ◌∙◌, ap, max, slice_get, Some}
use Rattle.ev_parser.proofs.read.put.Goals as goal

pub returns-in_ok-push-in-Some : goal.returns-in_ok-push-in-Some
returns-in_ok-push-in-Some c =
    let k : slice_get c.args.nodes.now.items c.args.tree ≡ Some c.in-Some.node.now = rw c.deref.ensures.value at c.in-Some.ensures in
    (c.in-Some.node.now, k, refl, refl, c.in_ok-push-in-Some.ensures.items, c.max.ensures ∙ ap (λ n. max c.args.stand.tallest n) c.node_height-height.ensures)
