-- What holds of streams of bytes.
use Rattle.std.specs.Prelude.{◌≡◌, ℕ, List, ◌++◌}
use Rattle.ev_ways.specs.Streams.{Holds, stream}
use Rattle.ev_ways.specs.Way.{Way}

-- The bytes tell which frames stand on a link.
abbrev pub BytesTell : Type 0
BytesTell = (bytes : List ℕ) (v w : Way) → Holds bytes v → Holds bytes w → v ≡ w

-- What comes in two pieces is what comes in one.
abbrev pub PiecesJoin : Type 0
PiecesJoin = (a b : List ℕ) (u v w x : Way) → Holds (stream u ++ a) v → Holds (stream v ++ b) w → Holds (stream u ++ (a ++ b)) x → w ≡ x
