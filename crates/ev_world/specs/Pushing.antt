-- Frames that go out on the ways.
use Rattle.std.specs.Prelude.{ℕ, List, [], ◌∷◌}
use Rattle.ev_resident.specs.declared.outgoing.Outgoing.{Outgoing}
use Rattle.ev_ways.specs.Rows.{Lane, changed, put}

-- the ways once vat u put these frames on them, in order
unfoldable pub all_pushed : ℕ → List Outgoing → List (List Lane) → List (List Lane)
all_pushed u [] rows = rows
all_pushed u (y ∷ ys) rows = all_pushed u ys (changed (put y.frame) u y.to rows)
