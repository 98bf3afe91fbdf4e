-- The names of vats in the order in which they first stand in a text.
use Rattle.std.specs.Prelude.{ℕ, ◌-◌, ◌==◌, nat_le, Bool, true, false, ◌&&◌, ◌||◌, if◌then◌else◌, List, [], ◌∷◌, ◌++◌, flat_map, length, codes, is_some, is_none, Some, None}
use Rattle.std.specs.declared.option.Option.{Option}
use Rattle.std.specs.Str.{bytes_eq}
use Rattle.ev_script.specs.Vats.{is_lower_or_digit, is_vat_name, place_of}
use Rattle.ev_trace_words.specs.declared.words.Quote.{Quote}
use Rattle.ev_trace_words.specs.declared.words.Quote.TheVariants.{Outside}
use Rattle.ev_trace_words.specs.Words.{behind_quote, is_outside}
use Rattle.ev_trace_words.specs.Parts.{count}
use Rattle.ev_trace_lines.specs.Events.{Words}

-- a mark behind the name of a vat
abbrev pub is_mark : ℕ → Bool
is_mark b = (((((b == 46 || b == 126) || b == 63) || b == 94) || b == 37) || b == 38) || b == 47

abbrev pub only_if : Bool → List ℕ → List (List ℕ)
only_if true run = run ∷ []
only_if false run = []

-- a byte behind which a run of small letters and digits outside quotes names a vat: one behind `@` does, one before a mark,
-- and one between `^` and `:`
abbrev pub ends_name : Bool → Bool → ℕ → Bool
ends_name rooted provides b = (provides && b == 58) || (rooted || is_mark b)

-- the names of vats in what is left of a word; so much of a run was read, and it stands behind `@` or not, and behind `^` or not
unfoldable pub scan : Quote → Bool → Bool → List ℕ → List ℕ → List (List ℕ)
scan quote rooted provides run [] = only_if rooted run
scan quote rooted provides run (b ∷ bs) =
    if is_outside quote && is_lower_or_digit b then scan quote rooted provides (run ++ b ∷ []) bs
    else only_if (is_outside quote && ends_name rooted provides b) run ++ scan (behind_quote quote b) (is_outside quote && b == 64) (is_outside quote && b == 94) [] bs

-- the names in words that stand for values, and in words that are names themselves
abbrev pub scanned : Words → List (List ℕ)
scanned words = flat_map (scan Outside false false []) words

abbrev pub bare : Words → List (List ℕ)
bare words = flat_map (scan Outside true false []) words

abbrev pub name_then_vats : Words → List (List ℕ)
name_then_vats [] = []
name_then_vats (n ∷ rest) = scan Outside false false [] n ++ bare rest

abbrev pub note_vats : Words → List (List ℕ)
note_vats [] = []
note_vats (kind ∷ rest) = if bytes_eq kind (codes "elsewhere") || bytes_eq kind (codes "ask") then name_then_vats rest else scanned rest

abbrev pub pair_vats : Words → List (List ℕ)
pair_vats (v ∷ w ∷ rest) = scan Outside true false [] v ++ (scan Outside true false [] w ++ note_vats rest)
pair_vats words = bare words

abbrev pub host_vats : Words → List (List ℕ)
host_vats [] = []
host_vats (v ∷ rest) = scan Outside true false [] v ++ scanned rest

abbrev pub left_vats : Words → List (List ℕ)
left_vats [] = []
left_vats (word ∷ rest) = if bytes_eq word (codes "link") then pair_vats rest else host_vats rest

abbrev pub entry_vats : Words → List (List ℕ)
entry_vats [] = []
entry_vats (word ∷ rest) = pair_vats rest

-- the names of vats in a line
abbrev pub line_vats : Words → List (List ℕ)
line_vats [] = []
line_vats (word ∷ rest) =
    if bytes_eq word (codes "open") then bare rest
    else if bytes_eq word (codes "left") then left_vats rest
    else if is_some (count word) then entry_vats rest
    else scanned rest

-- a name that stands there for the first time goes to the end; more than 17 are not counted
abbrev pub with_name : List (List ℕ) → List ℕ → List (List ℕ)
with_name names word = if nat_le (length names) 16 && is_vat_name word && is_none (place_of names word) then names ++ word ∷ [] else names

unfoldable pub with_names : List (List ℕ) → List (List ℕ) → List (List ℕ)
with_names names [] = names
with_names names (word ∷ words) = with_names (with_name names word) words

-- the names in lines, where there are at most 16
abbrev pub names_in : List Words → List (List ℕ)
names_in lines = with_names [] (flat_map line_vats lines)

abbrev pub few : List (List ℕ) → Option (List (List ℕ))
few names = if nat_le (length names) 16 then Some names else None
