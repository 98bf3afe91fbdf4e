-- What a vat does with each note that arrives, in the code's terms.
use Rattle.std.specs.Prelude.{ℕ}
use Rattle.ev_pass.specs.Notes.{key_of}
use Rattle.ev_arrive.specs.Acts.{Act}
use Rattle.ev_arrive.specs.Arriving.{arrive_open, arrive_ask}
use Rattle.ev_arrive.specs.Bringing.{all_parts, part}
use Rattle.ev_arrive.specs.Learning.{arrive_deliver, arrive_settled}
use Rattle.ev_arrive.specs.Viewing.{arrive_elsewhere, arrive_shorten}
use Rattle.ev_arrive.specs.declared.brought.Heard.{Heard}
use Rattle.ev_arrive.specs.declared.brought.Heard.TheVariants.{Deliver, Open, Ask, Settled, Elsewhere, Shorten}

-- a note from that vat arrives
unfoldable pub arrive : ℕ → Heard → Act (Unit {0})
arrive from (Deliver m asks x verb args) = arrive_deliver from m asks x verb (all_parts args.items)
arrive from (Open i x) = arrive_open from i x
arrive from (Ask p i) = arrive_ask from p i
arrive from (Settled x y) = arrive_settled from x (part y)
arrive from (Elsewhere x c) = arrive_elsewhere x c
arrive from (Shorten x i) = arrive_shorten x (key_of i)
