-- The lines of events in which the vats have other numbers.
use Rattle.std.specs.Prelude.{◌≡◌, ℕ, List}
use Rattle.def_event.specs.declared.event.Event.{Event}
use Rattle.def_event.specs.Lines.{vat, words}
use Rattle.law_trace.specs.Trace.Readable.{IsRead}
use Rattle.law_trace.specs.Trace.Renamed.{event_to}

-- Where each vat of an event has its name by its other number too, the event has the same words.
abbrev pub WordsAreSameByOtherNumbers : Type 0
WordsAreSameByOtherNumbers = (names found : List (List ℕ)) (to : ℕ → ℕ) (e : Event) → IsRead (λ v. vat found (to v) ≡ vat names v) e → words found (event_to to e) ≡ words names e
