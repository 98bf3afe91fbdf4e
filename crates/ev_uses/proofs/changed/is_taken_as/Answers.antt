use Rattle.std.proofs.Common.{List, subst}
use Rattle.def_event.specs.declared.shown.Shown.{Shown}
use Rattle.def_event.specs.Uses.{all_parts, arguments_in}
use Rattle.ev_links.specs.declared.label.Label.{Label}
use Rattle.ev_uses.specs.Lines.{AddsThings}
use Rattle.ev_uses.proofs.changed.is_taken_as.Goals as goal

pub returns : goal.returns
returns c past there sent stand o =
    let values = subst (λ (xs : List Shown). AddsThings (all_parts xs) c.args.there.now c.add_values.new.labels) c.as_slice.ensures c.in_ok-add_values.ensures in
    c.have_same_names.ensures c.args.events.now past c.args.taken.now o
    (subst (λ (ls : List Label). AddsThings (all_parts c.args.taken.now.args) ls c.add_values.new.labels) there values)
    (subst (λ (ls : List Label). AddsThings (arguments_in c.args.events.now c.args.taken.now.message) ls c.add_arguments.new.labels) sent (c.in_ok-add_arguments.ensures stand))
