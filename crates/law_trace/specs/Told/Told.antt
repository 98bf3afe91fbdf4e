-- The text of a run that is in order is in order.
use Rattle.std.specs.Prelude.{ℕ, List, None}
use Rattle.def_run.specs.World.{Script, run}
use Rattle.def_run.specs.Text.{draws_of, history_of}
use Rattle.def_event.specs.Order.{JudgesOrder}
use Rattle.law_fate.specs.Name.Runs.{KnowsOnce}
use Rattle.law_order.specs.Ordering.Order.{Ordered}
use Rattle.law_trace.specs.Shown.Shown.{AreInPlace, NameMessages, CarryWhatWasSent, NamesApart}
use Rattle.law_reference.specs.Reference.Cuts.{NoticesFollowCuts}
use Rattle.law_text.specs.Text.Runs.{events_of}

-- each line of a vat stands at the place of that vat
abbrev pub LinesAreInPlace : Type 0
LinesAreInPlace = (script : Script) (draws : List ℕ) → AreInPlace draws (history_of (run script))

-- each message that a line carries is sent by a line before it
abbrev pub WhatIsCarriedWasSent : Type 0
WhatIsCarriedWasSent = (script : Script) → CarryWhatWasSent (history_of (run script))

-- what lines send, carry and take is named as a message
abbrev pub MessagesAreNamed : Type 0
MessagesAreNamed = (script : Script) → KnowsOnce script → NameMessages (history_of (run script))

-- names on which lines send, and those in what they send and carry, are shown as different names where they differ
abbrev pub NamesAreShownApart : Type 0
NamesAreShownApart = (script : Script) → KnowsOnce script → NoticesFollowCuts script.schedule → NamesApart (draws_of (run script)) (history_of (run script))

-- in order as the machine has it, and as the judge of texts has it
abbrev pub RunsAreShownInOrder : Type 0
RunsAreShownInOrder = (script : Script) → KnowsOnce script → NoticesFollowCuts script.schedule → Ordered (history_of (run script)) → JudgesOrder (events_of (run script)) None
