-- Gifts that a vat learnt as gifts, under host, provider and word together, in the order of coming.
use Rattle.std.specs.Prelude.{ℕ, Bool, ◌&&◌, ◌==◌, if◌then◌else◌, List, [], ◌∷◌, Option, Some, None}
use Rattle.ev_pass.specs.declared.draw.Swiss.{Swiss}

pub record LearntGift : Type 0 where
  pub host : ℕ
  pub provider : ℕ
  pub word : ℕ
  pub name : ℕ

abbrev pub LearntGifts : Type 0
LearntGifts = List LearntGift

-- what tells a gift from the others, and its name
abbrev pub key_and_name : LearntGift → ℕ × Swiss × ℕ
key_and_name g = (g.host, record { provider = g.provider; word = g.word }, g.name)

abbrev pub is_under : ℕ → ℕ → ℕ → LearntGift → Bool
is_under host provider word g = (host == g.host) && ((provider == g.provider) && (word == g.word))

-- the name of a gift, where it was learnt
abbrev pub find : ℕ → ℕ → ℕ → LearntGifts → Option ℕ
find host provider word [] = None
find host provider word (g ∷ gs) = if is_under host provider word g then Some g.name else find host provider word gs

-- a gift is put in its place, or last where it was absent
abbrev pub put : LearntGift → LearntGifts → LearntGifts
put gift [] = gift ∷ []
put gift (g ∷ gs) = if is_under gift.host gift.provider gift.word g then gift ∷ gs else g ∷ put gift gs

abbrev pub put_some : Option LearntGift → LearntGifts → LearntGifts
put_some (Some g) gs = put g gs
put_some None gs = gs

-- gifts are put in order
abbrev pub put_all : LearntGifts → LearntGifts → LearntGifts
put_all [] gs = gs
put_all (g ∷ more) gs = put_all more (put g gs)
