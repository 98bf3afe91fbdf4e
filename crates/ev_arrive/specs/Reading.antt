-- How a vat with the gifts that it hosts stands for a vat of the machine, in local numbers.
use Rattle.std.specs.Prelude.{ℕ, List, map}
use Rattle.def_machine.specs.Arrive as machine
use Rattle.def_machine.specs.State.{Vat, Done, GiftEntry}
use Rattle.def_machine.specs.Values.{Words, Local, Mess, Prom, key as gift_key}
use Rattle.ev_intro.specs.Gift.{Gift, Gifts}
use Rattle.ev_pass.specs.Reading.{Lines, StandsFor, reference_by, vat_at}
use Rattle.ev_arrive.specs.Acts.{Out}
use Rattle.ev_arrive.specs.declared.host.Host.{Host}
use Rattle.ev_arrive.specs.declared.host.Incoming.{Incoming}
use Rattle.ev_arrive.specs.declared.host.Incoming.TheVariants.{Known, New}
use Rattle.ev_arrive.specs.declared.host.Carried.{Carried}
use Rattle.ev_arrive.specs.declared.host.Carried.TheVariants as carried
use Rattle.ev_arrive.specs.declared.host.Subject.{Subject}
use Rattle.ev_arrive.specs.declared.host.Subject.TheVariants as subject

abbrev pub gift_by : Gift → GiftEntry Local
gift_by g = record { name = Prom g.promise; provider = g.provider; number = gift_key g.provider g.swiss; opened = g.is_opened }

-- a vat of the machine that hosts these gifts, and all else as it is
abbrev pub with_gifts : Gifts → Vat Local → Vat Local
with_gifts gs s = record s { gifts = map gift_by gs }

abbrev pub host_at : List Words → Lines → Host → Vat Local → Vat Local
host_at ts line h s = vat_at ts line h.inside (with_gifts h.gifts s)

-- a name in what is heard; what it is called elsewhere is not looked at
abbrev pub incoming_by : Local → Incoming → machine.Incoming Local Local
incoming_by n (Known r) = machine.Old (reference_by r)
incoming_by n (New h) = machine.New n h

abbrev pub subject_by : Local → Subject → machine.Incoming Local Local
subject_by n (subject.Known m) = machine.Old (Prom m)
subject_by n (subject.New h) = machine.New n h

-- a message that comes from that vat
abbrev pub carried_by : Local → ℕ → Carried → machine.Incoming Local Local
carried_by n v (carried.Back m) = machine.Old (Mess m)
carried_by n v carried.New = machine.New n v

-- what something gives in the code's terms stands for what it gives in the machine, and a stop for a stop
abbrev pub Stands : {A B : Type 0} → List Words → List ℕ → Lines → Vat Local → (A → B) → Out A → Done Local B → Type 0
Stands ts key line s read o d = StandsFor ts key line (with_gifts o.1.gifts s) read (o.0, o.1.inside) d
