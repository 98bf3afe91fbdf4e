-- Rows as a table: columns lined up, with two spaces between two.
use Rattle.std.specs.Prelude.{ℕ, ◌-◌, max, false, List, [], ◌∷◌, ◌++◌, replicate, flat_map, chars}
use Rattle.unicode_width.specs.Width.{str_width}
use Rattle.def_see.specs.declared.line.Line.{Line}
use Rattle.def_see.specs.declared.row.Row.{Row}
use Rattle.def_see.specs.declared.row.Widths.{Widths}
use Rattle.def_see.specs.Rows.{rows, roots}

-- the columns of a terminal that a text takes
unfoldable pub width : List ℕ → ℕ
width text = str_width false (chars text)

-- the width of the widest cell
abbrev pub widest : (Row → List ℕ) → List Row → ℕ
widest cell [] = 0
widest cell (r ∷ rs) = max (width (cell r)) (widest cell rs)

unfoldable pub widths : List Row → Widths
widths rs = record {
  message = widest (λ r. r.message) rs;
  what = widest (λ r. r.what) rs;
  sent = widest (λ r. r.sent) rs;
  carried = widest (λ r. r.carried) rs;
  fate = widest (λ r. r.fate) rs;
}

-- a cell of a column that is so wide
unfoldable pub padded : ℕ → List ℕ → List ℕ
padded wide cell = cell ++ replicate (wide - width cell) 32 ++ 32 ∷ 32 ∷ []

unfoldable pub row_line : Widths → Row → List ℕ
row_line w r =
    padded w.message r.message ++ padded w.what r.what ++ padded w.sent r.sent ++ padded w.carried r.carried ++ padded w.fate r.fate ++ r.answer ++ 10 ∷ []

abbrev pub table : List Row → List ℕ
table rs = flat_map (row_line (widths rs)) rs

abbrev pub root_lines : List (List ℕ) → List ℕ
root_lines texts = flat_map (λ t. t ++ 10 ∷ []) texts

-- what is written of the messages of a history: the rows of its messages, and those of its roots
unfoldable pub messages_text : List Line → List ℕ
messages_text lines = table (rows lines) ++ root_lines (roots lines)
