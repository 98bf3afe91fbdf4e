use Rattle.std.proofs.Common.{◌∙◌, ap, ◌∷◌, ◌++◌, [], List}
use Rattle.ev_links.specs.declared.links.Link.{Link}
use Rattle.ev_links.proofs.Spreading.{added}
use Rattle.ev_links.proofs.links.add_in.Goals as goal

pub returns : goal.returns
returns c =
    added c.args.label c.args.link c.args.rows.now.entries c.take_row-links.new.rows.entries c.insert.new.self.entries c.push.new.self
    c.take_row-links.ensures.others c.in_ok-insert.ensures.updates.0 (c.in_ok-push.ensures.ok ∙ ap (λ (ls : List Link). ls ++ c.args.link ∷ []) c.take_row-links.ensures.links)
