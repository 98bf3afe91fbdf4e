-- What notes that were put ask for, in the code's terms.
use Rattle.std.specs.Prelude.{ℕ, List, [], ◌∷◌, Option, Some, None, is_some, if◌then◌else◌}
use Rattle.ev_pass.specs.declared.note.Note.{Note}
use Rattle.ev_pass.specs.declared.note.Note.TheVariants as note
use Rattle.ev_pass.specs.declared.post.Put.{Put}
use Rattle.ev_wire.specs.Learnt.{LearntGift, LearntGifts, find, put}

-- a gift is learnt, unless it was
abbrev pub learnt_anew : LearntGift → LearntGifts → LearntGifts
learnt_anew g gs = if is_some (find g.host g.provider g.word gs) then gs else put g gs

abbrev pub learnt_if : Option LearntGift → LearntGifts → LearntGifts
learnt_if (Some g) gs = learnt_anew g gs
learnt_if None gs = gs

-- the gift that a note asks for of that vat, which hosts it
abbrev pub ask_of : ℕ → Note → Option LearntGift
ask_of to (note.Ask p i n) = Some (record { host = to; provider = i.provider; word = i.word; name = n })
ask_of to (note.Deliver message answer target verb args) = None
ask_of to (note.Open i x) = None
ask_of to (note.Settled n p) = None
ask_of to (note.Elsewhere n c) = None
ask_of to (note.Shorten n c i) = None

abbrev pub ask_in : Put → Option LearntGift
ask_in p = ask_of p.to p.note

-- what these ask for is learnt, in order
unfoldable pub puts_learnt : List Put → LearntGifts → LearntGifts
puts_learnt [] gs = gs
puts_learnt (p ∷ ps) gs = puts_learnt ps (learnt_if (ask_in p) gs)
