-- Turns and opening turns are made of small steps.
use Rattle.law_order.specs.Tales.Entries.{TurnsAreTales, OpeningsAreTales, OfScripts}

-- a vat takes the first message of its queue
abbrev pub RunTurnsAreTales : Type 0
RunTurnsAreTales = OfScripts (λ script honest. TurnsAreTales script honest)

-- a vat opens
abbrev pub RunOpeningsAreTales : Type 0
RunOpeningsAreTales = OfScripts (λ script honest. OpeningsAreTales script honest)
