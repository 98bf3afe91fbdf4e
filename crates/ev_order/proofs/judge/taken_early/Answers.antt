use Rattle.std.proofs.Common.{Some, sym, ap, ◌∙◌}
use Rattle.def_event.specs.declared.event.Addressed.{Addressed}
use Rattle.def_event.specs.Order.{Taking, taking, is_object}
use Rattle.ev_order.proofs.Early.{takes_at, takes_not}
use Rattle.ev_order.proofs.judge.taken_early.Goals as goal

pub returns-then-overtakes : goal.returns-then-overtakes
returns-then-overtakes c =
    let t : Taking = record { message = c.get-take.result.now.message; by_object = is_object c.get-take.result.now.target } in
    takes_at c.args.labels.now c.args.sent.now c.args.taken.now c.args.event.now c.args.line t c.overtakes.result
    (ap taking c.in-Take.is ∙ ap (λ (a : Addressed). Some (record { message = a.message; by_object = is_object a.target })) (sym c.get-take.ensures))
    (sym c.is_object.ensures ∙ c.if-not-is_object.false) c.overtakes.ensures c.if-overtakes.true

pub returns : goal.returns
returns c =
    let t : Taking = record { message = c.get-take.result.now.message; by_object = is_object c.get-take.result.now.target } in
    takes_not c.args.labels.now c.args.sent.now c.args.taken.now c.args.event.now c.args.line t c.overtakes.result c.requires.single
    (ap taking c.in-Take.is ∙ ap (λ (a : Addressed). Some (record { message = a.message; by_object = is_object a.target })) (sym c.get-take.ensures))
    c.overtakes.ensures c.if-overtakes.false
