-- What the numbers for a peer and the gifts that were learnt tell of names.
use Rattle.std.specs.Prelude.{ℕ, Bool, false, is_some, Option, Some, None, map}
use Rattle.ev_base.specs.declared.values.Value.{Value}
use Rattle.ev_base.specs.declared.values.Value.TheVariants as held
use Rattle.def_machine.specs.Receive as receive
use Rattle.def_machine.specs.Values.{Local, Obj, Prom, Far, Mess}
use Rattle.def_run.specs.Connections.{learnt_at}
use Rattle.ev_tables.specs.Table.{Table, name_of}
use Rattle.ev_wire.specs.Learnt.{LearntGifts}
use Rattle.ev_wire.specs.Reading.{learnt_of}

abbrev pub value_at : Local → Value
value_at (Obj i) = held.Obj i
value_at (Prom n) = held.Prom n
value_at (Far h p) = held.Far h p
value_at (Mess m) = held.Null

-- whether a gift was learnt as a gift, and whether a name has a number for the peer
abbrev pub sight_by : Table → LearntGifts → receive.Sight Local
sight_by t l = record { knows = λ c h k. is_some (learnt_at c k (map learnt_of l)); numbers = λ n. is_some (name_of (value_at n) t.names) }

-- whether a gift that is there has a number for the peer
abbrev pub gift_numbered : Option (ℕ × Bool) → Table → Bool
gift_numbered (Some g) t = is_some (name_of (held.Prom g.0) t.names)
gift_numbered None t = false
