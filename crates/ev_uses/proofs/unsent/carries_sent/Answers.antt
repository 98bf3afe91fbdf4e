use Rattle.std.proofs.Common.{sym, subst}
use Rattle.std.specs.Prelude.{◌↔◌, IfOk, IsTrue}
use Rattle.def_event.specs.declared.note.ShownNote.{ShownNote}
use Rattle.def_event.specs.declared.event.Event.{Event}
use Rattle.def_event.specs.Uses.{CarriesSent, CarriesThese, delivered}
use Rattle.ev_uses.proofs.unsent.carries_sent.Goals as goal

pub returns-in-Carry : goal.returns-in-Carry
unfolding CarriesSent
returns-in-Carry c past f o =
    subst (λ (e : Event). IfOk c.is_note_sent.result (λ sent. IsTrue sent ↔ CarriesSent past e)) (sym c.in-Carry.is)
    (subst (λ (n : ShownNote). IfOk c.is_note_sent.result (λ sent. IsTrue sent ↔ CarriesThese past (delivered n))) c.get.ensures (c.is_note_sent.ensures past f o))
