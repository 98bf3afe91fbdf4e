-- Frames, of which the bytes stand on a link and the labels beside it.
use Rattle.std.specs.Prelude.{◌≡◌, ℕ, true, List, [], ◌∷◌, length}
use Rattle.ev_ways.specs.Way.{Way}
use Rattle.ev_ways.specs.declared.frame.Frame.{Frame}
use Rattle.ev_ways.specs.declared.frame.Label.{Label}

-- what a history tells of a frame
abbrev pub label_of : Frame → Label
label_of k = record { note = k.note; message = k.message; asks = k.asks }

-- the frame of these bytes with that label
abbrev pub labelled : Label → List ℕ → Frame
labelled l bytes = record { bytes = bytes; note = l.note; message = l.message; asks = l.asks }

-- the first bytes have the first label, and so on
unfoldable pub all_labelled : List Label → List (List ℕ) → List Frame
all_labelled [] bs = []
all_labelled (l ∷ ls) [] = []
all_labelled (l ∷ ls) (b ∷ bs) = labelled l b ∷ all_labelled ls bs

-- A link has whole frames alone, one for each label, and none where it is cut.
pub record ArePaired (ls : List Label) (w : Way) : Type 0 where
  pub even : length ls ≡ length w.frames
  pub whole : w.part ≡ []
  pub gone : w.is_cut ≡ true → w.frames ≡ []
