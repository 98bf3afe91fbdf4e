-- What a clause sees of what a note brings: which it is, without where its parts lie in memory.
use Rattle.std.specs.Prelude.{ℕ, Bool, List}
use Rattle.ev_pass.specs.declared.draw.Swiss.{Swiss}
use Rattle.ev_arrive.specs.declared.host.Incoming.{Incoming}
use Rattle.ev_arrive.specs.declared.host.Subject.{Subject}
use Rattle.ev_arrive.specs.declared.host.Carried.{Carried}
use Rattle.ev_arrive.specs.Bringing.{Part, Parts, all_parts, part}
use Rattle.ev_arrive.specs.declared.brought.Heard.{Heard}
use Rattle.ev_arrive.specs.declared.brought.Heard.TheVariants as heard

pub data Told : Type 0 where
  Deliver : Carried → Bool → Incoming → List ℕ → Parts → Told
  Open : ℕ → Incoming → Told
  Ask : ℕ → ℕ → Told
  Settled : Subject → Part → Told
  Elsewhere : Subject → ℕ → Told
  Shorten : Incoming → Swiss → Told

abbrev pub told : Heard → Told
told (heard.Deliver m asks x verb args) = Deliver m asks x verb (all_parts args.items)
told (heard.Open w x) = Open w x
told (heard.Ask p w) = Ask p w
told (heard.Settled x y) = Settled x (part y)
told (heard.Elsewhere x c) = Elsewhere x c
told (heard.Shorten x s) = Shorten x s
