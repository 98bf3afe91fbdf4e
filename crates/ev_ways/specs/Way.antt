-- One direction of the connection of two vats.
use Rattle.std.specs.Prelude.{ℕ, Bool, true, false, if◌then◌else◌, List, [], ◌∷◌, ◌++◌, drop, slice_get, Option, None}

-- the frames that have come whole, the first to arrive first, the bytes that have come of the next one, and whether the link is cut
pub record Way : Type 0 where
  pub frames : List (List ℕ)
  pub part : List ℕ
  pub is_cut : Bool

-- a link on which nothing was put
abbrev pub fresh : Way
fresh = record { frames = []; part = []; is_cut = false }

-- a whole frame is put behind the others, and lost on a cut link
abbrev pub put : List ℕ → Way → Way
put frame way = if way.is_cut then way else record { frames = way.frames ++ frame ∷ []; part = way.part; is_cut = false }

-- the frame that arrives next, if one does
abbrev pub next : Way → Option (List ℕ)
next way = if way.is_cut then None else slice_get way.frames 0

-- the link behind that frame
abbrev pub behind : Way → Way
behind way = if way.is_cut then way else record { frames = drop 1 way.frames; part = way.part; is_cut = false }

-- a link that is cut has lost all that was under way
abbrev pub severed : Way
severed = record { frames = []; part = []; is_cut = true }
