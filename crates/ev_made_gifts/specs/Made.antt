-- The gifts that notes make, by the numbers of the code.
use Rattle.std.specs.Prelude.{ℕ, List, [], ◌∷◌, ◌++◌}
use Rattle.ev_claims.specs.declared.gift.GiftId.{GiftId}
use Rattle.ev_pass.specs.declared.draw.Swiss.{Swiss}
use Rattle.ev_pass.specs.declared.note.Note.{Note}
use Rattle.ev_pass.specs.declared.note.Note.TheVariants as note

abbrev pub gift : ℕ → Swiss → GiftId
gift h s = record { host = h; provider = s.provider; word = s.word }

-- of a note to that vat
unfoldable pub gifts_of : ℕ → Note → List GiftId
gifts_of to (note.Open s x) = gift to s ∷ []
gifts_of to (note.Shorten n c s) = gift c s ∷ []
gifts_of to (note.Deliver m a x verb args) = []
gifts_of to (note.Ask p s n) = []
gifts_of to (note.Settled n p) = []
gifts_of to (note.Elsewhere n c) = []

unfoldable pub with_gift_of : List GiftId → ℕ → Note → List GiftId
with_gift_of gs to (note.Open s x) = gs ++ gift to s ∷ []
with_gift_of gs to (note.Shorten n c s) = gs ++ gift c s ∷ []
with_gift_of gs to (note.Deliver m a x verb args) = gs
with_gift_of gs to (note.Ask p s n) = gs
with_gift_of gs to (note.Settled n p) = gs
with_gift_of gs to (note.Elsewhere n c) = gs
