-- The numbers that are kept for a name.
use Rattle.std.specs.Prelude.{ℕ, List, [], String, string_bytes}
use Rattle.std.specs.declared.alloc.Global.{Global}
use Rattle.std.specs.Option.{option_map_or}
use Rattle.std.specs.HashMap.{get_by_text}
use Rattle.ev_see_lives.specs.declared.lives.Lives.{Lives}

-- in order, and none for a name that no line is about
unfoldable pub numbers_of : Lives → List ℕ → List ℕ
numbers_of lives q = option_map_or (λ g. g.items) (get_by_text lives.numbers q) []

-- a name and a number, the name as a text
abbrev pub spelled : String Global × ℕ → List ℕ × ℕ
spelled p = (string_bytes p.0, p.1)
