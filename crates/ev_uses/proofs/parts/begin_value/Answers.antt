use Rattle.std.proofs.Common.{sym, subst}
use Rattle.def_event.specs.declared.shown.Shown.{Shown}
use Rattle.def_event.specs.Uses.{AList, AName, parts}
use Rattle.ev_uses.specs.Lines.{AddsThings}
use Rattle.ev_uses.proofs.Adding.{one_added}
use Rattle.ev_uses.proofs.parts.begin_value.Goals as goal

pub returns-in_ok-add-in-Name : goal.returns-in_ok-add-in-Name
returns-in_ok-add-in-Name c =
    subst (λ (x : Shown). AddsThings (parts x) c.args.labels.now c.add.new.self) (sym c.in-Name.is)
    (one_added (AName c.in-Name.name) c.name_label.result c.args.labels.now c.add.new.self c.name_label.ensures c.in_ok-add-in-Name.ensures)

pub returns-in_ok-add-in-List : goal.returns-in_ok-add-in-List
returns-in_ok-add-in-List c =
    subst (λ (x : Shown). AddsThings (parts x) c.args.labels.now c.add-in-List.new.self) (sym c.in-List.is)
    (one_added (AList c.in-List.vat c.in-List.number) c.list_label.result c.args.labels.now c.add-in-List.new.self c.list_label.ensures c.in_ok-add-in-List.ensures)
