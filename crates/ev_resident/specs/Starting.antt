-- The names of a vat at its start.
use Rattle.std.specs.Prelude.{ℕ, zero, List, [], ◌∷◌}
use Rattle.ev_resident.specs.Names.{Named}
use Rattle.ev_step_lines.specs.Lines.{with_import}

-- the root of that vat comes to stand at the next position
abbrev pub with_root : ℕ → Named → Named
with_root v n = record n { naming = with_import v zero n.naming }

-- those of these vats do, one after the other
unfoldable pub with_roots : List ℕ → Named → Named
with_roots [] n = n
with_roots (v ∷ vs) n = with_roots vs (with_root v n)
