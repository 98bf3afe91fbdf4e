-- Counts of what frames made.
use Rattle.std.specs.Prelude.{ℕ, ◌+◌, Bool, true, false, List}
use Rattle.def_hostile.specs.Outsiders.{Outsider, objects_in, promises_in}
use Rattle.ev_outsiders.specs.declared.outsider.Outsider.{Outsider as Counts}

abbrev pub outsider_of : Counts → Outsider
outsider_of o = record { objects = o.objects; promises = o.promises; messages = o.messages }

-- once a frame made an object, or else a promise
unfoldable pub with_one : Bool → Outsider → Outsider
with_one true o = record { objects = o.objects + 1; promises = o.promises; messages = o.messages }
with_one false o = record { objects = o.objects; promises = o.promises + 1; messages = o.messages }

-- once one made these, and brought so many messages
abbrev pub made_more : List Bool → ℕ → Outsider → Outsider
made_more kinds k o = record { objects = o.objects + objects_in kinds; promises = o.promises + promises_in kinds; messages = o.messages + k }

abbrev pub messages_of : Bool → ℕ
messages_of true = 1
messages_of false = 0
