-- The lines of a history, each with its step, and the lines that are about one message or one name.
use Rattle.std.specs.Prelude.{ℕ, ◌+◌, if◌then◌else◌, List, [], ◌∷◌, ◌++◌, map, filter, slice_get, Option, Some, None, unwrap_or}
use Rattle.std.specs.Str.{bytes_eq}
use Rattle.def_see.specs.declared.line.Line.{Line}
use Rattle.def_see.specs.Words.{Words, begins_step, step_label, step_vat, subject}

-- a line in words with its step, by the step before it
unfoldable pub line_of : List ℕ → List ℕ → Words → Line
line_of label at ws =
    if begins_step ws then record { label = step_label ws; at = step_vat ws; words = ws }
    else record { label = label; at = at; words = ws }

-- lines in words, with the step of each, by the step before the first
abbrev pub placed_from : List ℕ → List ℕ → List Words → List Line
placed_from label at [] = []
placed_from label at (ws ∷ rest) = let l = line_of label at ws in l ∷ placed_from l.label l.at rest

abbrev pub placed : List Words → List Line
placed lines = placed_from [] [] lines

-- the line of a number, from 0
abbrev pub line_at : List Line → ℕ → Line
line_at lines i = unwrap_or (slice_get lines i) (record { label = []; at = []; words = [] })

-- ---- lives

abbrev pub about : Option (List ℕ) → ℕ → List (List ℕ × ℕ)
about None i = []
about (Some name) i = (name, i) ∷ []

-- what each line is about, with its number, which is counted from this one
unfoldable pub subjects_from : ℕ → List Line → List (List ℕ × ℕ)
subjects_from i [] = []
subjects_from i (l ∷ ls) = about (subject l.words) i ++ subjects_from (i + 1) ls

-- the numbers of the lines about a message or a name, in order
unfoldable pub life : List Line → List ℕ → List ℕ
life lines name = map (λ p. p.1) (filter (λ p. bytes_eq name p.0) (subjects_from 0 lines))
