-- Notes that tell to what a name settled are carried by small steps.
use Rattle.def_machine.specs.Values.{Name}
use Rattle.def_machine.specs.State.{Passed, SettledTo}
use Rattle.law_order.specs.Tales.Entries.{CarriesAreTales, OfScripts}

-- whatever it settled to
abbrev pub SettledCarriesAreTales : Type 0
SettledCarriesAreTales = OfScripts (λ script honest. (n : Name) (y : Passed Name) → CarriesAreTales script honest (SettledTo n y))
