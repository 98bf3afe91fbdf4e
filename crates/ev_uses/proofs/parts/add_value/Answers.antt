use Rattle.std.proofs.Common.{List, subst}
use Rattle.std.proofs.lemmas.Result.{on_ok_weaker}
use Rattle.def_event.specs.Uses.{all_parts}
use Rattle.ev_links.specs.declared.label.Label.{Label}
use Rattle.ev_uses.specs.Lines.{AddsThings}
use Rattle.ev_uses.proofs.Adding.{members_added}
use Rattle.ev_uses.proofs.parts.add_value.Goals as goal

pub returns : goal.returns
returns c =
    let begun = rw c.in-Some.is at c.in_ok-members.ensures in
    on_ok_weaker c.add_values.result (
    λ added.
    members_added c.args.value.now c.in-Some.members.now c.args.labels.now c.add_values.new.labels begun.1
    (subst (λ (ls : List Label). AddsThings (all_parts c.in-Some.members.now) ls c.add_values.new.labels) begun.0 added)
    ) c.add_values.ensures
