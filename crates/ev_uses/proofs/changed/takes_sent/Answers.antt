use Rattle.std.proofs.Common.{sym, ap, subst, ◌∙◌}
use Rattle.std.specs.Prelude.{◌↔◌, IfOk, IsTrue}
use Rattle.def_event.specs.declared.event.Addressed.{Addressed}
use Rattle.def_event.specs.declared.event.Event.{Event}
use Rattle.def_event.specs.declared.event.Event.TheVariants.{Take}
use Rattle.def_event.specs.Uses.{TakesSent}
use Rattle.ev_uses.proofs.changed.takes_sent.Goals as goal

pub returns-in-Take : goal.returns-in-Take
returns-in-Take c past stand o =
    subst (λ (e : Event). IfOk c.is_taken_sent.result (λ sent. IsTrue sent ↔ TakesSent c.args.events.now past e)) (ap (λ (t : Addressed). Take t) c.get.ensures ∙ sym c.in-Take.is)
    (c.is_taken_sent.ensures past stand o)
