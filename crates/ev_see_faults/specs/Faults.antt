-- Why a text is no history. ev_trace says which texts are.
use Rattle.std.specs.Prelude.{ℕ, ◌+◌, ◌-◌, Bool, if◌then◌else◌, List, [], ◌∷◌, ◌++◌, length, take, codes, decimal, is_ok, Option, Some, None}
use Rattle.def_see.specs.Words.{word}
use Rattle.ev_text.specs.Lines.{lines, text_of}
use Rattle.ev_trace.specs.Reading.{read}

abbrev pub fault : List ℕ → List ℕ
fault why = codes "evat_see: " ++ why ++ 10 ∷ []

-- the line stands in a history of which it is all but the end
unfoldable pub is_line : List ℕ → Bool
is_line line = is_ok (read (line ++ codes "\nend\n"))

-- the line may be the last of a history
unfoldable pub ends : List ℕ → Bool
ends line = is_ok (read (line ++ codes "\n"))

-- the place of the first line that is none of a history, where the first of these has this place
unfoldable pub bad_from : ℕ → List (List ℕ) → Option ℕ
bad_from i [] = None
bad_from i (l ∷ ls) = if is_line l then bad_from (i + 1) ls else Some i

abbrev pub end_text : ℕ → List ℕ → List ℕ
end_text number line = codes "line " ++ decimal number ++ codes ": the last line is neither `end` nor a stop: " ++ line

abbrev pub bad_text : ℕ → List ℕ → List ℕ
bad_text number line = codes "line " ++ decimal number ++ codes ": no line of a history: " ++ line

-- of the last line, counted from 1, where those before it are lines
unfoldable pub end_fault : ℕ → List ℕ → List ℕ
end_fault number line =
    if ends line then fault (codes "more than 16 vats are named")
    else fault (end_text number line)

-- of these lines, by the place, from 1, of the first but for the last that is none
unfoldable pub line_fault : List (List ℕ) → Option ℕ → List ℕ
line_fault ls None = end_fault (length ls) (word (length ls - 1) ls)
line_fault ls (Some i) = fault (bad_text i (word (i - 1) ls))

unfoldable pub lines_fault : List (List ℕ) → List ℕ
lines_fault [] = fault (codes "the input is empty")
lines_fault (l ∷ ls) = line_fault (l ∷ ls) (bad_from 1 (take (length ls) (l ∷ ls)))

unfoldable pub text_fault : Option (List (List ℕ)) → List ℕ
text_fault None = fault (codes "the last line has no line feed")
text_fault (Some ls) = lines_fault ls

unfoldable pub bytes_fault : Option (List ℕ) → List ℕ
bytes_fault None = fault (codes "the input is not UTF-8")
bytes_fault (Some text) = text_fault (lines text)

-- what is told of bytes that are no history
abbrev pub explained : List ℕ → List ℕ
explained bytes = bytes_fault (text_of bytes)
