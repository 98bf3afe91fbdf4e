-- Notes that open gifts are carried by small steps.
use Rattle.std.specs.Prelude.{ℕ}
use Rattle.def_machine.specs.Values.{Name}
use Rattle.def_machine.specs.State.{Open}
use Rattle.law_order.specs.Tales.Entries.{CarriesAreTales, OfScripts}

-- A note that opens a gift is carried by small steps, whatever the gift and the note's name are at the gift's host.
abbrev pub OpensAreTales : Type 0
OpensAreTales = OfScripts (λ script honest. (i : ℕ) (n : Name) → CarriesAreTales script honest (Open i n))
