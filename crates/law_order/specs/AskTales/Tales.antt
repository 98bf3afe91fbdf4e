-- Notes about gifts are carried by small steps.
use Rattle.std.specs.Prelude.{ℕ}
use Rattle.def_machine.specs.Values.{Name}
use Rattle.def_machine.specs.State.{Ask, Shorten}
use Rattle.law_order.specs.Tales.Entries.{CarriesAreTales, OfScripts}

-- the receiver is asked for the gift of a provider
abbrev pub AsksAreTales : Type 0
AsksAreTales = OfScripts (λ script honest. (p i : ℕ) (n : Name) → CarriesAreTales script honest (Ask p i n))

-- the receiver is asked to open its name as a gift
abbrev pub ShortensAreTales : Type 0
ShortensAreTales = OfScripts (λ script honest. (n : Name) (c i : ℕ) → CarriesAreTales script honest (Shorten n c i))
