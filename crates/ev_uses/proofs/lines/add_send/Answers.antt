use Rattle.std.proofs.Common.{List, ◌∷◌, ◌++◌, [], subst}
use Rattle.std.proofs.lemmas.Result.{on_ok_weaker}
use Rattle.def_event.specs.declared.shown.Shown.{Shown}
use Rattle.def_event.specs.Uses.{AName, all_parts, parts}
use Rattle.ev_uses.specs.Lines.{AddsThings}
use Rattle.ev_uses.proofs.Adding.{both_added}
use Rattle.ev_uses.proofs.lines.add_send.Goals as goal

pub returns : goal.returns
returns c =
    on_ok_weaker c.add_name.result
    (both_added (parts c.args.sent.now.target ++ all_parts c.args.sent.now.args) (AName c.args.sent.now.answer ∷ []) c.args.labels.now c.add_on.new.labels c.add_name.new.labels
    (subst (λ (xs : List Shown). AddsThings (parts c.args.sent.now.target ++ all_parts xs) c.args.labels.now c.add_on.new.labels) c.as_slice.ensures c.in_ok-add_on.ensures)) c.add_name.ensures
