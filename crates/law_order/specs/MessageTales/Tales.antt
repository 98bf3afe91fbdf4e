-- In a run messages are carried by small steps.
use Rattle.std.specs.Prelude.{ℕ, List}
use Rattle.def_machine.specs.Values.{Name}
use Rattle.def_machine.specs.State.{Passeds, Delivery}
use Rattle.law_order.specs.Tales.Entries.{MessagesAreTales, OfScripts}

abbrev pub CarriesOfMessagesAreTales : Type 0
CarriesOfMessagesAreTales = OfScripts (λ script honest. (d : Delivery Name) (n : Name) (verb : List ℕ) (ys : Passeds Name) → MessagesAreTales script honest d n verb ys)
