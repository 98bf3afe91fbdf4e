use Rattle.std.proofs.Common.{List, subst}
use Rattle.std.specs.Prelude.{OnOk}
use Rattle.ev_links.specs.declared.label.Label.{Label}
use Rattle.ev_links.specs.declared.links.Link.{Link}
use Rattle.ev_links.specs.Links.{Adds}
use Rattle.ev_links.proofs.links.Links.add.Goals as goal

pub returns : goal.returns
returns c =
    subst (λ (rows : List (Label × List Link)). OnOk c.add_in.result (Adds c.args.label c.args.link rows c.add_in.new.rows.entries)) c.self.view_is c.add_in.ensures
