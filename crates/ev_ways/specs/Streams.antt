-- What the bytes on a link say.
use Rattle.std.specs.Prelude.{◌≡◌, ◌⊎◌, ℕ, ◌+◌, ◌<◌, ◌^◌, false, List, [], ◌∷◌, ◌++◌, length, take}
use Rattle.std.specs.Int.{w64, from_le_bytes, to_le_bytes}
use Rattle.ev_ways.specs.Way.{Way}

-- a frame on the stream: its length in eight bytes, the lowest first, and then its bytes
unfoldable pub framed : List ℕ → List ℕ
framed f = to_le_bytes w64 (length f) ++ f

-- frames one after the other
unfoldable pub all_framed : List (List ℕ) → List ℕ
all_framed [] = []
all_framed (f ∷ fs) = framed f ++ all_framed fs

-- the bytes that stand on a link, the first to arrive first
unfoldable pub stream : Way → List ℕ
stream w = all_framed w.frames ++ w.part

-- No whole frame stands in front of these bytes: not all of its length has come, or not all that this says.
abbrev pub IsUnfinished : List ℕ → Type 0
IsUnfinished bytes = (length bytes < 8) ⊎ (length bytes < 8 + from_le_bytes w64 (take 8 bytes))

-- the length of each is one that eight bytes can say
abbrev pub Fit : List (List ℕ) → Type 0
Fit [] = Unit {0}
Fit (f ∷ fs) = (length f < 2 ^ 64) × Fit fs

-- the frames are whole, and what comes behind them is not
pub record IsSound (frames : List (List ℕ)) (part : List ℕ) : Type 0 where
  pub fit : Fit frames
  pub unfinished : IsUnfinished part

-- These bytes stand on a link that is not cut, and so are the frames that they say.
pub record Holds (bytes : List ℕ) (w : Way) : Type 0 where
  pub bytes_are : stream w ≡ bytes
  pub sound : IsSound w.frames w.part
  pub uncut : w.is_cut ≡ false

-- these bytes are a frame with others behind it
pub record IsFront (bytes f rest : List ℕ) : Type 0 where
  pub spelled : bytes ≡ framed f ++ rest
  pub fits : length f < 2 ^ 64

-- these bytes are some frames, which came behind those that were there, with other bytes behind them
pub record AreCut (before : List (List ℕ)) (bytes : List ℕ) (after : List (List ℕ)) (rest : List ℕ) : Type 0 where
  pub more : List (List ℕ)
  pub grown : after ≡ before ++ more
  pub spelled : bytes ≡ all_framed more ++ rest
  pub fit : Fit more
