-- Notes that tell that a name is elsewhere are carried by small steps.
use Rattle.std.specs.Prelude.{ℕ}
use Rattle.def_machine.specs.Values.{Name}
use Rattle.def_machine.specs.State.{Elsewhere}
use Rattle.law_order.specs.Tales.Entries.{CarriesAreTales, OfScripts}

-- A note that tells that a name settled to an object of another vat is carried by small steps.
abbrev pub ElsewhereAreTales : Type 0
ElsewhereAreTales = OfScripts (λ script honest. (n : Name) (c : ℕ) → CarriesAreTales script honest (Elsewhere n c))
