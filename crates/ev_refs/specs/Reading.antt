-- How what a vat has of references stands for the machine's, in local numbers, where the texts of its heap are these.
use Rattle.std.specs.Prelude.{ℕ, zero, suc, true, false, List, [], ◌∷◌, map, option_map, slice_get, unwrap_or}
use Rattle.ev_base.specs.declared.values.Value.{Value as Held}
use Rattle.def_machine.specs.Values.{Words, Value, Prim, Local, Prom, Far, Mess}
use Rattle.def_machine.specs.State as machine
use Rattle.def_machine.specs.State.{Vat}
use Rattle.def_machine.specs.Refs as refs
use Rattle.ev_prims.specs.Reading as prims
use Rattle.ev_refs.specs.References.{References}
use Rattle.ev_refs.specs.declared.follow.Place.{Place}
use Rattle.ev_refs.specs.declared.follow.Place.TheVariants.{Near, Mine, FarPromise, FarObject, Gone}
use Rattle.ev_refs.specs.declared.known.Known.{Known}
use Rattle.ev_refs.specs.declared.known.Message.{Message}
use Rattle.ev_refs.specs.declared.known.Standing.{Standing}
use Rattle.ev_refs.specs.declared.known.Standing.TheVariants.{Unsettled, WaitsOn, Viewed, Settled}

-- the text of that number, and the empty one where there is none
abbrev pub text_by : List Words → ℕ → Words
text_by ts id = unwrap_or (slice_get ts id) []

-- a value, where the texts are these
abbrev pub value_by : List Words → Held → Value Local
value_by ts v = prims.value_by (text_by ts) v

abbrev pub message_by : List Words → Message → machine.Message Local
message_by ts m = record { id = Mess m.id; target = value_by ts m.target; verb = m.verb; args = map (value_by ts) m.args; answer = option_map Prom m.answer }

abbrev pub standing_by : List Words → Standing → machine.Standing Local
standing_by ts Unsettled = machine.Unsettled
standing_by ts (WaitsOn q) = machine.WaitsOn (Prom q)
standing_by ts (Viewed q) = machine.Viewed (Prom q)
standing_by ts (Settled v) = machine.Settled (value_by ts v)

abbrev pub known_by : List Words → ℕ → Known → machine.Known Local
known_by ts n k = record {
  name = Prom n;
  host = k.host;
  standing = standing_by ts k.standing;
  held = map (message_by ts) k.held;
  waiting = map Prom k.waiting;
  reactions = map (message_by ts) k.reactions;
  told = k.told;
}

-- names from that number on
unfoldable pub knowns_by : List Words → ℕ → List Known → List (machine.Known Local)
knowns_by ts n [] = []
knowns_by ts n (k ∷ ks) = known_by ts n k ∷ knowns_by ts (suc n) ks

-- the numbers of so many messages, from that one on
unfoldable pub mails_by : ℕ → ℕ → List Local
mails_by n zero = []
mails_by n (suc more) = Mess n ∷ mails_by (suc n) more

-- a vat of the machine with these references, and all else as it is
abbrev pub vat_by : List Words → References → Vat Local → Vat Local
vat_by ts r s = record s {
  number = r.me;
  known = knowns_by ts 0 r.known;
  queue = map (message_by ts) r.queue;
  mails = mails_by 0 r.mails;
  messages = r.messages;
  promises = r.promises;
  noticed = r.noticed;
}

abbrev pub place_by : List Words → Place → refs.Place Local
place_by ts Near = refs.Near
place_by ts (Mine n) = refs.Mine (Prom n)
place_by ts (FarPromise h n) = refs.Away h (Prom n) false
place_by ts (FarObject h p) = refs.Away h (Far h p) true
place_by ts (Gone t) = refs.Gone (text_by ts t)
