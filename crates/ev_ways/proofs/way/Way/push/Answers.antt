use Rattle.std.proofs.Common.{List, [], ◌∷◌, ◌++◌, ℕ, sym, ap, ◌∙◌}
use Rattle.ev_ways.specs.Way.{put}
use Rattle.ev_ways.specs.Labels.{label_of}
use Rattle.ev_ways.specs.declared.frame.Label.{Label}
use Rattle.ev_ways.proofs.Labels.{pushed_is}
use Rattle.ev_ways.proofs.way.Way.push.Goals as goal

pub returns-clause-ok : goal.returns-clause-ok
returns-clause-ok c =
    pushed_is c.self.inside.labels.items c.push_back_reserved.new.self.items c.self.inside.link c.push.new.self c.args.self.now c.args.frame c.self.invariant (sym c.is_cut.ensures ∙ c.if-is_cut.false)
    (c.in_ok-push.ensures.ok ∙ ap (λ (b : List ℕ). put b c.self.inside.link) c.as_slice.ensures)
    (c.push_back_reserved.ensures.items ∙ ap (λ (ls : List Label). ls ++ label_of c.args.frame ∷ []) c.reserve.ensures.items) c.self.view_is
