-- How what a vat hears stands for what the machine reads, in local numbers.
use Rattle.std.specs.Prelude.{◌≡◌, ◌+◌, ℕ, List, ◌++◌, Some, None, map, length, slice_get}
use Rattle.def_machine.specs.Arrive.{New}
use Rattle.def_machine.specs.State as state
use Rattle.def_machine.specs.Values.{Words, Local, Prom, Far, key}
use Rattle.def_op.specs.Frames.{Described, MyPromise, MyAnswer, Operation, Deliver, Resolve, Provide, Accept, Shorten, DeliverOnly}
use Rattle.def_run.specs.Connections.{Learnt, Newcomers, Stage}
use Rattle.ev_refs.specs.Reading.{text_by}
use Rattle.ev_pass.specs.Notes.{key_of}
use Rattle.ev_pass.specs.declared.interior.Interior.{Interior}
use Rattle.ev_arrive.specs.Reading.{carried_by, incoming_by, subject_by}
use Rattle.ev_arrive.specs.Hearing.{Name, part_by, parts_by}
use Rattle.ev_tables.specs.Table.{Table}
use Rattle.ev_tables.specs.Standing.{local_of}
use Rattle.ev_wire.specs.Bringing as told
use Rattle.ev_wire.specs.Bringing.{Told}
use Rattle.ev_wire.specs.Learnt.{LearntGift, LearntGifts}
use Rattle.ev_wire.specs.declared.news.News.{News}

abbrev pub learnt_of : LearntGift → Learnt Local
learnt_of g = record { host = g.host; number = key g.provider g.word; name = Prom g.name }

-- what is had, where the frame has brought that by now
abbrev pub stage_of : Table → LearntGifts → News → Stage Local
stage_of t l s = record { imports = map local_of (t.imports ++ s.imports); learnt = map learnt_of (l ++ s.gifts); known = s.known }

-- what comes to be had in a frame of that peer; what it is called elsewhere is not looked at
abbrev pub newcomers_of : Local → ℕ → Newcomers Local Local
newcomers_of n peer = record { object = Far peer; promise = λ p k. Prom k; gift = λ h i k. Prom k; exported = λ p. n; asked = λ q. n; message = n }

-- a note that vat `me` hears of that peer
abbrev pub told_by : List Words → Local → ℕ → ℕ → Told → state.Note Name
told_by ts n me peer (told.Deliver m asks x verb ps) = state.Deliver (record { message = carried_by n peer m; asks = asks; answer = None }) (incoming_by n x) verb (parts_by ts peer n ps)
told_by ts n me peer (told.Open w x) = state.Open (key peer w) (incoming_by n x)
told_by ts n me peer (told.Ask p w) = state.Ask p (key p w) (New n me)
told_by ts n me peer (told.Settled x y) = state.SettledTo (subject_by n x) (part_by ts peer n y)
told_by ts n me peer (told.Elsewhere x c) = state.Elsewhere (subject_by n x) c
told_by ts n me peer (told.Shorten x s) = state.Shorten (incoming_by n x) peer (key_of s)

-- the texts that the frame brings have the next numbers
abbrev pub TextsStand : List Words → Interior → News → Type 0
TextsStand ts i s = (k : ℕ) (x : Words) → slice_get s.texts k ≡ Some x → text_by ts (length i.heap.texts + k) ≡ x

-- what an operation tells of that settled is a promise
abbrev pub IsPromise : Described → Type 0
IsPromise (MyPromise p) = Unit {0}
IsPromise (MyAnswer q) = Unit {0}
IsPromise d = ⊥

abbrev pub TellsOfPromises : Operation → Type 0
TellsOfPromises (Resolve d o) = IsPromise d
TellsOfPromises (Deliver q d verb ds) = Unit {0}
TellsOfPromises (DeliverOnly d verb ds) = Unit {0}
TellsOfPromises (Provide d w) = Unit {0}
TellsOfPromises (Accept q p w) = Unit {0}
TellsOfPromises (Shorten d w) = Unit {0}
