use Rattle.std.proofs.Common.{List, sym, ap, subst, ◌∙◌}
use Rattle.def_event.specs.declared.event.Event.{Event}
use Rattle.ev_step_lines.specs.Lines.{Naming, lines_of}
use Rattle.ev_step_text.specs.Accounts.{More}
use Rattle.ev_resident.proofs.Lines.{lines_are}
use Rattle.ev_resident.proofs.outcome.tell_lines.Goals as goal

pub returns : goal.returns
returns c = λ w s u t ms ways after stands objects cuts.
    let h = c.args.host.now in
    subst (λ (es : List Event). More c.args.account.now c.tell.new.self es)
    (ap (λ (n : Naming). lines_of (record { naming = n; texts = h.inside.heap.texts; cut = c.args.cut.now }) h.inside.micro.events) c.table.ensures
    ∙ sym (lines_are w h s u t c.args.names.now ms ways c.args.cut.now after stands objects cuts))
    c.in_ok-tell.ensures
